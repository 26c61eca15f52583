-- The delays of a script that was read are of at most 10,000 turns.
use Rattle.std.proofs.Common.{◌≡◌, ℕ, ◌≤◌, Bool, true, false, ◌&&◌, cond, List, [], ◌∷◌, Option, None, Some, map, refl, arith}
use Rattle.std.specs.Prelude.{nat_le, ◌==◌, codes, find, unwrap_or, option_map, IfSome}
use Rattle.std.specs.List.{filter_map}
use Rattle.std.specs.Option.{option_and_then}
use Rattle.std.specs.Ordering.{is_gt}
use Rattle.std.specs.Str.{bytes_eq}
use Rattle.std.proofs.lemmas.Bool.{leb-true}
use Rattle.hop_base.specs.Run.{DelayLine, delay_of}
use Rattle.hop_base.specs.Sorted.{insert_in_order, ord}
use Rattle.hop_script.specs.Number.{in_range, decimal_of, number_of, ◌>>=◌}
use Rattle.hop_script.specs.Text.{lines_of, words_of}
use Rattle.hop_script.specs.Lines.{fail_form, restart_form, delay_form, line_form, delay_part}
use Rattle.hop_script.specs.Script.{said_by, given, delay_cmp, script_of}
use Rattle.hop_script.specs.declared.line.Line.{Line}
use Rattle.hop_script.specs.declared.line.Line.TheVariants.{Fail, Restart, Delay}

-- a line that delays does so by at most 10,000 turns
abbrev IsShort : Line → Type 0
IsShort (Fail s a n) = Unit {0}
IsShort (Restart p n) = Unit {0}
IsShort (Delay w n) = n ≤ 10000

abbrev AreShort : List DelayLine → Type 0
AreShort [] = Unit {0}
AreShort (d ∷ ds) = (d.turns ≤ 10000) × AreShort ds

-- ---- a number in a range is in it

within : (high n : ℕ) (b : Bool) → nat_le n high ≡ b → IfSome (cond b (Some n) None) (λ n. n ≤ high)
within high n true below = leb-true n high below
within high n false above = tt

upto_high : (low high : ℕ) (o : Option ℕ) → IfSome (in_range low high o) (λ n. n ≤ high)
upto_high low high None = tt
upto_high low high (Some n) =
    elim (nat_le low n) as (λ a. IfSome (cond (a && nat_le n high) (Some n) None) (λ n. n ≤ high)) [
      | true ↦ within high n (nat_le n high) refl
      | false ↦ tt
    ]

behind : {A B : Type 0} (P : A → Type 0) (Q : B → Type 0) (o : Option A) (f : A → Option B) → IfSome o P → ((x : A) → P x → IfSome (f x) Q) → IfSome (o >>= f) Q
behind P Q None f h k = tt
behind P Q (Some x) f h k = k x h

any : {A : Type 0} (o : Option A) → IfSome o (λ x. Unit {0})
any None = tt
any (Some x) = tt

-- ---- the lines

fail_short : (words : List (List ℕ)) → IfSome (fail_form words) IsShort
fail_short [] = tt
fail_short (s ∷ []) = tt
fail_short (s ∷ a ∷ []) = tt
fail_short (s ∷ a ∷ n ∷ []) =
    behind (λ x. Unit {0}) IsShort (number_of 0 1023 s) (λ s. number_of 0 15 a >>= (λ a. number_of 0 16777216 n >>= (λ n. Some (Fail s a n)))) (any (number_of 0 1023 s)) (λ x _.
    behind (λ x. Unit {0}) IsShort (number_of 0 15 a) (λ a. number_of 0 16777216 n >>= (λ n. Some (Fail x a n))) (any (number_of 0 15 a)) (λ y _.
    behind (λ x. Unit {0}) IsShort (number_of 0 16777216 n) (λ n. Some (Fail x y n)) (any (number_of 0 16777216 n)) (λ z _. tt)))
fail_short (s ∷ a ∷ n ∷ w ∷ words) = tt

restart_short : (words : List (List ℕ)) → IfSome (restart_form words) IsShort
restart_short [] = tt
restart_short (p ∷ []) = tt
restart_short (p ∷ n ∷ []) =
    behind (λ x. Unit {0}) IsShort (number_of 0 7 p) (λ p. number_of 1 1000000 n >>= (λ n. Some (Restart p n))) (any (number_of 0 7 p)) (λ x _.
    behind (λ x. Unit {0}) IsShort (number_of 1 1000000 n) (λ n. Some (Restart x n)) (any (number_of 1 1000000 n)) (λ y _. tt))
restart_short (p ∷ n ∷ w ∷ words) = tt

delay_short : (words : List (List ℕ)) → IfSome (delay_form words) IsShort
delay_short [] = tt
delay_short (w ∷ []) = tt
delay_short (w ∷ n ∷ []) =
    behind (λ x. Unit {0}) IsShort (number_of 0 7 w) (λ w. number_of 1 10000 n >>= (λ n. Some (Delay w n))) (any (number_of 0 7 w)) (λ x _.
    behind (λ n. n ≤ 10000) IsShort (number_of 1 10000 n) (λ n. Some (Delay x n)) (upto_high 1 10000 (decimal_of n)) (λ y h. h))
delay_short (w ∷ n ∷ x ∷ words) = tt

line_short : (words : List (List ℕ)) → IfSome (line_form words) IsShort
line_short [] = tt
line_short (word ∷ numbers) =
    elim (bytes_eq word (codes "fail")) as (λ b. IfSome (cond b (fail_form numbers) (cond (bytes_eq word (codes "restart")) (restart_form numbers) (cond (bytes_eq word (codes "delay")) (delay_form numbers) None))) IsShort) [
      | true ↦ fail_short numbers
      | false ↦ elim (bytes_eq word (codes "restart")) as (λ b. IfSome (cond b (restart_form numbers) (cond (bytes_eq word (codes "delay")) (delay_form numbers) None)) IsShort) [
        | true ↦ restart_short numbers
        | false ↦ elim (bytes_eq word (codes "delay")) as (λ b. IfSome (cond b (delay_form numbers) None) IsShort) [ true ↦ delay_short numbers | false ↦ tt ]
      ]
    ]

-- ---- the script

one_more : (o : Option Line) (said : List (Option Line)) → IfSome o IsShort → AreShort (filter_map delay_part (given said)) → AreShort (filter_map delay_part (given (o ∷ said)))
one_more None said h k = k
one_more (Some (Fail s a n)) said h k = k
one_more (Some (Restart p n)) said h k = k
one_more (Some (Delay w n)) said h k = (h, k)

abbrev say : Option (List ℕ) → Option Line
say = option_and_then (λ line. line_form (words_of line))

said_short : (lines : List (Option (List ℕ))) → AreShort (filter_map delay_part (given (map say lines)))
said_short [] = tt
said_short (None ∷ lines) = said_short lines
said_short (Some line ∷ lines) = one_more (line_form (words_of line)) (map say lines) (line_short (words_of line)) (said_short lines)

insert_short : (d : DelayLine) (ds : List DelayLine) → d.turns ≤ 10000 → AreShort ds → AreShort (insert_in_order delay_cmp d ds)
insert_short d [] h k = (h, tt)
insert_short d (e ∷ ds) h k =
    elim (is_gt (delay_cmp d e)) as (λ b. AreShort (cond b (e ∷ insert_in_order delay_cmp d ds) (d ∷ e ∷ ds))) [
      | true ↦ (k.0, insert_short d ds h k.1)
      | false ↦ (h, k)
    ]

ord_short : (ds : List DelayLine) → AreShort ds → AreShort (ord delay_cmp ds)
ord_short [] h = tt
ord_short (d ∷ ds) h = insert_short d (ord delay_cmp ds) h.0 (ord_short ds h.1)

found_short : (w : ℕ) (ds : List DelayLine) → AreShort ds → unwrap_or (option_map (λ (d : DelayLine). d.turns) (find (λ (d : DelayLine). d.worker == w) ds)) 0 ≤ 10000
found_short w [] h = omega arith
found_short w (d ∷ ds) h =
    elim (d.worker == w) as (λ b. unwrap_or (option_map (λ (d : DelayLine). d.turns) (cond b (Some d) (find (λ (d : DelayLine). d.worker == w) ds))) 0 ≤ 10000) [
      | true ↦ h.0
      | false ↦ found_short w ds h.1
    ]

pub short_delay : (text : List ℕ) (w : ℕ) → delay_of (script_of text) w ≤ 10000
short_delay text w = found_short w (script_of text).delays (ord_short (filter_map delay_part (given (said_by text))) (said_short (lines_of text)))
