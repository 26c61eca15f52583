-- Restarts by partition.
use Rattle.std.proofs.Common.{◌≡◌, ℕ, zero, suc, ◌+◌, ◌<◌, ◌≤◌, ◌⊎◌, inl, inr, Bool, true, false, cond, List, [], ◌∷◌, ◌++◌, length, get_or, map, refl, sym, ap, ◌∙◌, arith, append_assoc}
use Rattle.std.specs.Prelude.{◌==◌, nat_le, nat_lt, filter}
use Rattle.std.specs.List.{list_all}
use Rattle.std.specs.declared.cmp.Ordering.{Ordering}
use Rattle.std.specs.Ordering.{is_gt, ordering_then, nat_cmp}
use Rattle.std.proofs.lemmas.Bool.{eq-eqb, eqb-true, ne_eqb, lt-ltb, le-ltb, leb-true}
use Rattle.std.proofs.lemmas.Bool.Decides.{nat_tests}
use Rattle.std.proofs.lemmas.List.{append-nil}
use Rattle.std.proofs.lemmas.List.Elements.{filter-append}
use Rattle.hop_base.specs.Run.{RestartLine}
use Rattle.hop_base.proofs.Sorted.{IsUptoAll, IsAscending}
use Rattle.hop_base.proofs.Truth.{both_true}
use Rattle.hop_script.specs.Script.{restart_cmp}
use Rattle.hop_script.specs.Draft.{restart_line}
use Rattle.hop_script.specs.Kept.{lines_at, lines_from}
use Rattle.hop_script.specs.declared.draft.Restart.{Restart}

-- the line is of this partition
abbrev pub is_of : ℕ → RestartLine → Bool
is_of p l = l.partition == p

-- the line is of a partition below this one
abbrev pub is_below : ℕ → RestartLine → Bool
is_below p l = nat_lt l.partition p

at_step : (p : ℕ) (k : Restart) (b : Bool) → (k.partition == p) ≡ b → (ks : List Restart) (rest : List RestartLine) → lines_at p (map (λ (r : Restart). r.arrivals) ks) ≡ rest
    → lines_at p (map (λ (r : Restart). r.arrivals) (cond b (k ∷ ks) ks)) ≡ cond b (restart_line k ∷ rest) rest
at_step p k true is ks rest later =
    let same : k.partition ≡ p = eqb-true k.partition p is in
    ap (λ q. record { partition = q; arrivals = k.arrivals } ∷ lines_at p (map (λ (r : Restart). r.arrivals) ks)) (sym same) ∙ ap (λ ls. restart_line k ∷ ls) later
at_step p k false is ks rest later = later

-- the arrivals of a partition are its lines
pub lines_at-keys : (p : ℕ) (keys : List Restart) → lines_at p (map (λ (r : Restart). r.arrivals) (filter (λ (r : Restart). r.partition == p) keys)) ≡ filter (is_of p) (map restart_line keys)
lines_at-keys p [] = refl
lines_at-keys p (k ∷ ks) = at_step p k (k.partition == p) refl (filter (λ (r : Restart). r.partition == p) ks) (filter (is_of p) (map restart_line ks)) (lines_at-keys p ks)

not_above : (a b : ℕ) (o : Ordering) → is_gt (ordering_then (nat_cmp a b) o) ≡ false → a ≤ b
not_above a b o not_gt = grind (arith, nat_tests)

none_below : (p : ℕ) (x : RestartLine) (ys : List RestartLine) → IsUptoAll restart_cmp x ys → p ≤ x.partition → filter (is_below p) ys ≡ []
none_below p x [] upto low = refl
none_below p x (y ∷ ys) upto low =
    let above : x.partition ≤ y.partition = not_above x.partition y.partition (nat_cmp x.arrivals y.arrivals) upto.0 in
    let other : is_below p y ≡ false = le-ltb y.partition p (omega arith) in
    rw other (none_below p x ys upto.1 low)

none_of : (p : ℕ) (x : RestartLine) (ys : List RestartLine) → IsUptoAll restart_cmp x ys → p < x.partition → filter (is_of p) ys ≡ []
none_of p x [] upto low = refl
none_of p x (y ∷ ys) upto low =
    let above : x.partition ≤ y.partition = not_above x.partition y.partition (nat_cmp x.arrivals y.arrivals) upto.0 in
    let other : is_of p y ≡ false = ne_eqb y.partition p (omega arith) in
    rw other (none_of p x ys upto.1 low)

three_ways : (a p : ℕ) → (a < p) ⊎ ((a ≡ p) ⊎ (p < a))
three_ways a p = grind arith

-- the lines below the next partition, of lines in order
pub filter_next : (p : ℕ) (ls : List RestartLine) → IsAscending restart_cmp ls → filter (is_below (p + 1)) ls ≡ filter (is_below p) ls ++ filter (is_of p) ls
filter_next p [] order = refl
filter_next p (x ∷ xs) order = elim (three_ways x.partition p) [
  | inl below ↦
      let lower : is_below p x ≡ true = lt-ltb x.partition p below in
      let next : is_below (p + 1) x ≡ true = lt-ltb x.partition (p + 1) (omega arith) in
      let other : is_of p x ≡ false = ne_eqb x.partition p (omega arith) in
      rw (next, lower, other) (ap (λ ls. x ∷ ls) (filter_next p xs order.1))
  | inr (inl same) ↦
      let lower : is_below p x ≡ false = le-ltb x.partition p (omega arith) in
      let next : is_below (p + 1) x ≡ true = lt-ltb x.partition (p + 1) (omega arith) in
      let here : is_of p x ≡ true = eq-eqb x.partition p same in
      let none = none_below p x xs order.0 (omega arith) in
      rw (next, lower, here, none) (ap (λ ls. x ∷ ls) (filter_next p xs order.1 ∙ ap (λ ls. ls ++ filter (is_of p) xs) none))
  | inr (inr above) ↦
      let lower : is_below p x ≡ false = le-ltb x.partition p (omega arith) in
      let next : is_below (p + 1) x ≡ false = le-ltb x.partition (p + 1) (omega arith) in
      let other : is_of p x ≡ false = ne_eqb x.partition p (omega arith) in
      rw (next, lower, other, none_below p x xs order.0 (omega arith), none_below (p + 1) x xs order.0 (omega arith), none_of p x xs order.0 above) refl
]

-- all lines are below the partition behind the last
pub filter_all : (ls : List RestartLine) → list_all (λ (r : RestartLine). nat_le r.partition 7) ls ≡ true → filter (is_below 8) ls ≡ ls
filter_all [] few = refl
filter_all (x ∷ xs) few =
    let parts = both_true (nat_le x.partition 7) (list_all (λ (r : RestartLine). nat_le r.partition 7) xs) few in
    let last : x.partition ≤ 7 = leb-true x.partition 7 parts.0 in
    let below : is_below 8 x ≡ true = lt-ltb x.partition 8 (omega arith) in
    rw below (ap (λ ls. x ∷ ls) (filter_all xs parts.1))

-- one more list
pub lines_from-push : (q : ℕ) (lists : List (List ℕ)) (list : List ℕ) → lines_from q (lists ++ list ∷ []) ≡ lines_from q lists ++ lines_at (q + length lists) list
lines_from-push q [] list = let same : q + 0 ≡ q = omega arith in rw (same, append-nil (lines_at q list)) refl
lines_from-push q (l ∷ ls) list =
    let same : q + 1 + length ls ≡ q + suc (length ls) = omega arith in
    rw (lines_from-push (q + 1) ls list, same) (sym (append_assoc (lines_at q l) (lines_from (q + 1) ls) (lines_at (q + suc (length ls)) list)))

-- the arrivals of the lines
abbrev pub arrivals_of : List RestartLine → List ℕ
arrivals_of ls = map (λ (l : RestartLine). l.arrivals) ls

at_self : (p q : ℕ) (list : List ℕ) → q ≡ p → arrivals_of (filter (is_of p) (lines_at q list)) ≡ list
at_self p q [] same = refl
at_self p q (n ∷ ns) same = rw (eq-eqb q p same) (ap (λ ms. n ∷ ms) (at_self p q ns same))

at_other : (p q : ℕ) (list : List ℕ) → (q == p) ≡ false → filter (is_of p) (lines_at q list) ≡ []
at_other p q [] other = refl
at_other p q (n ∷ ns) other = rw other (at_other p q ns other)

none_from : (p q : ℕ) (lists : List (List ℕ)) → p < q → filter (is_of p) (lines_from q lists) ≡ []
none_from p q [] low = refl
none_from p q (l ∷ ls) low =
    let other : (q == p) ≡ false = ne_eqb q p (omega arith) in
    rw (filter-append (is_of p) (lines_at q l) (lines_from (q + 1) ls), at_other p q l other, none_from p (q + 1) ls (omega arith)) refl

-- the arrivals of a partition, where the first list is that of partition q
pub lines_from-of : (p q k : ℕ) (lists : List (List ℕ)) → p ≡ q + k → arrivals_of (filter (is_of p) (lines_from q lists)) ≡ get_or lists k []
lines_from-of p q k [] is = refl
lines_from-of p q zero (l ∷ ls) is =
    let same : q ≡ p = omega arith in
    rw (filter-append (is_of p) (lines_at q l) (lines_from (q + 1) ls), none_from p (q + 1) ls (omega arith), append-nil (filter (is_of p) (lines_at q l))) (at_self p q l same)
lines_from-of p q (suc k) (l ∷ ls) is =
    let other : (q == p) ≡ false = ne_eqb q p (omega arith) in
    rw (filter-append (is_of p) (lines_at q l) (lines_from (q + 1) ls), at_other p q l other) (lines_from-of p (q + 1) k ls (omega arith))

-- no line is below the first partition
pub filter_none : (ls : List RestartLine) → filter (is_below 0) ls ≡ []
filter_none [] = refl
filter_none (x ∷ xs) =
    let other : is_below 0 x ≡ false = le-ltb x.partition 0 (omega arith) in
    rw other (filter_none xs)
