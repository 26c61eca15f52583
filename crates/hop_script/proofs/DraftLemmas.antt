-- A draft with one more line.
use Rattle.std.proofs.Common.{◌≡◌, ℕ, ◌≤◌, Bool, true, false, ◌||◌, ◌&&◌, not, List, [], ◌∷◌, ◌++◌, Option, None, Some, map, refl, sym, ap, ◌∙◌}
use Rattle.std.specs.Prelude.{is_some, ◌==◌, nat_le, IsTrue}
use Rattle.std.specs.List.{list_any, list_all, filter_map}
use Rattle.std.specs.Map.{lookup}
use Rattle.std.specs.BTreeMap.{is_at, insert_entry}
use Rattle.std.specs.BTreeSet.{insert_key}
use Rattle.std.specs.declared.cmp.Ordering.{Ordering}
use Rattle.std.specs.declared.cmp.Ordering.TheVariants.{Less, Equal, Greater}
use Rattle.std.specs.Ordering.{is_eq, ordering_then, nat_cmp}
use Rattle.std.specs.Cmp.{IsTotalOrder}
use Rattle.std.proofs.lemmas.Cmp.{on_total, then_total, nat_cmp_total}
use Rattle.std.proofs.lemmas.Map.Lookups.{CmpEqualImpliesEq, exact_unsigned, exact_pairs}
use Rattle.std.proofs.lemmas.Bool.{le-leb}
use Rattle.std.proofs.lemmas.List.{append-nil}
use Rattle.std.proofs.lemmas.Bool.Decides.{nat_tests}
use Rattle.std.proofs.lemmas.List.Elements.{filter_map-append}
use Rattle.std.proofs.lemmas.List.Folds.{list_all-append}
use Rattle.std.proofs.Common.{arith}
use Rattle.hop_base.specs.Run.{FailLine, RestartLine, DelayLine}
use Rattle.hop_base.specs.Sorted.{insert_in_order, ord}
use Rattle.hop_script.specs.Lines.{same_name, fail_part, restart_part, delay_part}
use Rattle.hop_script.specs.Script.{fail_cmp, restart_cmp, delay_cmp}
use Rattle.hop_script.specs.Draft.{IsDraftOf, fail_line, restart_line, delay_line}
use Rattle.hop_script.specs.declared.line.Line.{Line}
use Rattle.hop_script.specs.declared.line.Line.TheVariants.{Fail, Restart, Delay}
use Rattle.hop_script.specs.declared.draft.Attempt.{Attempt}
use Rattle.hop_script.specs.declared.draft.Restart as restart
use Rattle.hop_script.specs.declared.draft.Draft.{Draft}
use Rattle.hop_script.proofs.KeptLemmas.{ord-push, any-ord, lines-insert, some-lookup, lines-insert_key, any-lines}

-- by split, and then by attempt
abbrev pub attempt_cmp : Attempt → Attempt → Ordering
attempt_cmp x y = ordering_then (nat_cmp x.split y.split) (nat_cmp x.attempt y.attempt)

-- by partition, and then by arrivals
abbrev pub key_cmp : restart.Restart → restart.Restart → Ordering
key_cmp x y = ordering_then (nat_cmp x.partition y.partition) (nat_cmp x.arrivals y.arrivals)

pub fail_total : IsTotalOrder fail_cmp
fail_total = then_total (then_total (on_total (λ (x : FailLine). x.split) nat_cmp_total) (on_total (λ (x : FailLine). x.attempt) nat_cmp_total)) (on_total (λ (x : FailLine). x.at) nat_cmp_total)

pub restart_total : IsTotalOrder restart_cmp
restart_total = then_total (on_total (λ (x : RestartLine). x.partition) nat_cmp_total) (on_total (λ (x : RestartLine). x.arrivals) nat_cmp_total)

pub delay_total : IsTotalOrder delay_cmp
delay_total = then_total (on_total (λ (x : DelayLine). x.worker) nat_cmp_total) (on_total (λ (x : DelayLine). x.turns) nat_cmp_total)

abbrev two_cmp : ℕ × ℕ → ℕ × ℕ → Ordering
two_cmp x y = ordering_then (nat_cmp x.0 y.0) (nat_cmp x.1 y.1)

two_exact : CmpEqualImpliesEq two_cmp
two_exact = exact_pairs nat_cmp nat_cmp exact_unsigned exact_unsigned

pub fail_exact : CmpEqualImpliesEq fail_cmp
fail_exact a b h =
    ap (λ (p : (ℕ × ℕ) × ℕ). let line : FailLine = record { split = p.0.0; attempt = p.0.1; at = p.1 } in line)
    (exact_pairs two_cmp nat_cmp two_exact exact_unsigned ((a.split, a.attempt), a.at) ((b.split, b.attempt), b.at) h)

pub restart_exact : CmpEqualImpliesEq restart_cmp
restart_exact a b h = ap (λ (p : ℕ × ℕ). let line : RestartLine = record { partition = p.0; arrivals = p.1 } in line) (two_exact (a.partition, a.arrivals) (b.partition, b.arrivals) h)

pub delay_exact : CmpEqualImpliesEq delay_cmp
delay_exact a b h = ap (λ (p : ℕ × ℕ). let line : DelayLine = record { worker = p.0; turns = p.1 } in line) (two_exact (a.worker, a.turns) (b.worker, b.turns) h)

eq_of_then : (o p : Ordering) → is_eq (ordering_then o p) ≡ (is_eq o && is_eq p)
eq_of_then Less p = refl
eq_of_then Equal p = refl
eq_of_then Greater p = refl

eq_of_nat : (x y : ℕ) → is_eq (nat_cmp x y) ≡ (x == y)
eq_of_nat x y = grind (arith, nat_tests)

-- two comparisons tie where both numbers are equal
pub eq_of_two : (a b x y : ℕ) → is_eq (ordering_then (nat_cmp a x) (nat_cmp b y)) ≡ ((a == x) && (b == y))
eq_of_two a b x y = rw (eq_of_then (nat_cmp a x) (nat_cmp b y), eq_of_nat a x, eq_of_nat b y) refl

module _ {L : Type 0} (cmp : L → L → Ordering) (total : IsTotalOrder cmp) (exact : CmpEqualImpliesEq cmp) (part : Line → Option L) where
  -- one more line of a kind
  part-push : (lines : List Line) (line : Line) (x : L) → part line ≡ Some x → ord cmp (filter_map part (lines ++ line ∷ [])) ≡ insert_in_order cmp x (ord cmp (filter_map part lines))
  part-push lines line x is = rw (filter_map-append part lines (line ∷ []), is) (ord-push cmp total exact (filter_map part lines) x)

module _ {L : Type 0} (part : Line → Option L) where
  -- a line of another kind
  part-other : (lines : List Line) (line : Line) → part line ≡ None → filter_map part (lines ++ line ∷ []) ≡ filter_map part lines
  part-other lines line is = rw (filter_map-append part lines (line ∷ []), is, append-nil (filter_map part lines)) refl

any_fail : (s a n : ℕ) (lines : List Line) → list_any (same_name (Fail s a n)) lines ≡ list_any (λ (f : FailLine). (s == f.split) && (a == f.attempt)) (filter_map fail_part lines)
any_fail s a n [] = refl
any_fail s a n (Fail s' a' n' ∷ lines) = ap (λ b. ((s == s') && (a == a')) || b) (any_fail s a n lines)
any_fail s a n (Restart p m ∷ lines) = any_fail s a n lines
any_fail s a n (Delay w m ∷ lines) = any_fail s a n lines

any_restart : (p n : ℕ) (lines : List Line) → list_any (same_name (Restart p n)) lines ≡ list_any (λ (r : RestartLine). (p == r.partition) && (n == r.arrivals)) (filter_map restart_part lines)
any_restart p n [] = refl
any_restart p n (Fail s a m ∷ lines) = any_restart p n lines
any_restart p n (Restart p' n' ∷ lines) = ap (λ b. ((p == p') && (n == n')) || b) (any_restart p n lines)
any_restart p n (Delay w m ∷ lines) = any_restart p n lines

any_delay : (w n : ℕ) (lines : List Line) → list_any (same_name (Delay w n)) lines ≡ list_any (λ (d : DelayLine). w == d.worker) (filter_map delay_part lines)
any_delay w n [] = refl
any_delay w n (Fail s a m ∷ lines) = any_delay w n lines
any_delay w n (Restart p m ∷ lines) = any_delay w n lines
any_delay w n (Delay w' n' ∷ lines) = ap (λ b. (w == w') || b) (any_delay w n lines)

-- an attempt stands in the draft where an earlier line names it
pub fail_named : (draft : Draft) (lines : List Line) (s a n : ℕ) → IsDraftOf draft lines
    → is_some (lookup (is_at (attempt_cmp (record { split = s; attempt = a }))) draft.fails.entries) ≡ list_any (same_name (Fail s a n)) lines
fail_named draft lines s a n kept =
    let named : FailLine → Bool = λ f. (s == f.split) && (a == f.attempt) in
    some-lookup attempt_cmp fail_line (record { split = s; attempt = a }) named (λ e. eq_of_two s a e.0.split e.0.attempt) draft.fails.entries
    ∙ ap (list_any named) kept.fails
    ∙ any-ord fail_cmp named (filter_map fail_part lines)
    ∙ sym (any_fail s a n lines)

pub restart_named : (draft : Draft) (lines : List Line) (p n : ℕ) → IsDraftOf draft lines
    → list_any (is_at (key_cmp (record { partition = p; arrivals = n }))) draft.restarts.keys ≡ list_any (same_name (Restart p n)) lines
restart_named draft lines p n kept =
    let named : RestartLine → Bool = λ r. (p == r.partition) && (n == r.arrivals) in
    any-lines key_cmp restart_line (record { partition = p; arrivals = n }) named (λ x. eq_of_two p n x.partition x.arrivals) draft.restarts.keys
    ∙ ap (list_any named) kept.restarts
    ∙ any-ord restart_cmp named (filter_map restart_part lines)
    ∙ sym (any_restart p n lines)

pub delay_named : (draft : Draft) (lines : List Line) (w n : ℕ) → IsDraftOf draft lines
    → is_some (lookup (is_at (nat_cmp w)) draft.delays.entries) ≡ list_any (same_name (Delay w n)) lines
delay_named draft lines w n kept =
    let named : DelayLine → Bool = λ d. w == d.worker in
    some-lookup nat_cmp delay_line w named (λ e. eq_of_nat w e.0) draft.delays.entries
    ∙ ap (list_any named) kept.delays
    ∙ any-ord delay_cmp named (filter_map delay_part lines)
    ∙ sym (any_delay w n lines)

no_value : {V : Type 0} (o : Option V) → is_some o ≡ false → o ≡ None
no_value None none = refl
no_value (Some v) none = cc

-- a line of a new attempt
pub fail_added : (old new : Draft) (lines : List Line) (s a n : ℕ) → IsDraftOf old lines → list_any (same_name (Fail s a n)) lines ≡ false
    → new.fails.entries ≡ insert_entry attempt_cmp old.fails.entries (record { split = s; attempt = a }) n → new.restarts.keys ≡ old.restarts.keys → new.delays.entries ≡ old.delays.entries
    → IsDraftOf new (lines ++ Fail s a n ∷ [])
fail_added old new lines s a n kept fresh inserted restarts delays =
    let absent = no_value _ (fail_named old lines s a n kept ∙ fresh) in
    record {
      fails =
          ap (map fail_line) inserted
          ∙ lines-insert attempt_cmp fail_line fail_cmp (λ k v e. nat_cmp v e.1) (λ k v e. refl) (record { split = s; attempt = a }) n old.fails.entries absent
          ∙ ap (insert_in_order fail_cmp (record { split = s; attempt = a; at = n })) kept.fails
          ∙ sym (part-push fail_cmp fail_total fail_exact fail_part lines (Fail s a n) (record { split = s; attempt = a; at = n }) refl);
      restarts = ap (map restart_line) restarts ∙ kept.restarts ∙ ap (ord restart_cmp) (sym (part-other restart_part lines (Fail s a n) refl));
      delays = ap (map delay_line) delays ∙ kept.delays ∙ ap (ord delay_cmp) (sym (part-other delay_part lines (Fail s a n) refl));
      few = ap (list_all (λ (r : RestartLine). nat_le r.partition 7)) (part-other restart_part lines (Fail s a n) refl) ∙ kept.few;
    }

-- a line of a new restart
pub restart_added : (old new : Draft) (lines : List Line) (p n : ℕ) → IsDraftOf old lines → p ≤ 7 → list_any (same_name (Restart p n)) lines ≡ false
    → new.restarts.keys ≡ insert_key key_cmp old.restarts.keys (record { partition = p; arrivals = n }) → new.fails.entries ≡ old.fails.entries → new.delays.entries ≡ old.delays.entries
    → IsDraftOf new (lines ++ Restart p n ∷ [])
restart_added old new lines p n kept below fresh inserted fails delays =
    let absent = restart_named old lines p n kept ∙ fresh in
    let last : nat_le p 7 ≡ true = le-leb p 7 below in
    record {
      fails = ap (map fail_line) fails ∙ kept.fails ∙ ap (ord fail_cmp) (sym (part-other fail_part lines (Restart p n) refl));
      restarts =
          ap (map restart_line) inserted
          ∙ lines-insert_key key_cmp restart_line restart_cmp (λ k x. refl) (record { partition = p; arrivals = n }) old.restarts.keys absent
          ∙ ap (insert_in_order restart_cmp (record { partition = p; arrivals = n })) kept.restarts
          ∙ sym (part-push restart_cmp restart_total restart_exact restart_part lines (Restart p n) (record { partition = p; arrivals = n }) refl);
      delays = ap (map delay_line) delays ∙ kept.delays ∙ ap (ord delay_cmp) (sym (part-other delay_part lines (Restart p n) refl));
      few = rw (filter_map-append restart_part lines (Restart p n ∷ []), list_all-append (λ (r : RestartLine). nat_le r.partition 7) (filter_map restart_part lines) (record { partition = p; arrivals = n } ∷ []), kept.few, last) refl;
    }

-- a line of a new worker
pub delay_added : (old new : Draft) (lines : List Line) (w n : ℕ) → IsDraftOf old lines → list_any (same_name (Delay w n)) lines ≡ false
    → new.delays.entries ≡ insert_entry nat_cmp old.delays.entries w n → new.fails.entries ≡ old.fails.entries → new.restarts.keys ≡ old.restarts.keys
    → IsDraftOf new (lines ++ Delay w n ∷ [])
delay_added old new lines w n kept fresh inserted fails restarts =
    let absent = no_value _ (delay_named old lines w n kept ∙ fresh) in
    record {
      fails = ap (map fail_line) fails ∙ kept.fails ∙ ap (ord fail_cmp) (sym (part-other fail_part lines (Delay w n) refl));
      restarts = ap (map restart_line) restarts ∙ kept.restarts ∙ ap (ord restart_cmp) (sym (part-other restart_part lines (Delay w n) refl));
      delays =
          ap (map delay_line) inserted
          ∙ lines-insert nat_cmp delay_line delay_cmp (λ k v e. nat_cmp v e.1) (λ k v e. refl) w n old.delays.entries absent
          ∙ ap (insert_in_order delay_cmp (record { worker = w; turns = n })) kept.delays
          ∙ sym (part-push delay_cmp delay_total delay_exact delay_part lines (Delay w n) (record { worker = w; turns = n }) refl);
      few = ap (list_all (λ (r : RestartLine). nat_le r.partition 7)) (part-other restart_part lines (Delay w n) refl) ∙ kept.few;
    }

not_twice : (b : Bool) → not (not b) ≡ b
not_twice true = refl
not_twice false = refl

-- what was not there before is first
pub first_of_none : (there none : Bool) → there ≡ not none → none ≡ not there
first_of_none there none is = sym (not_twice none) ∙ ap not (sym is)

-- what is first is named by no line
pub fresh_of_first : (first named : Bool) → first ≡ not named → IsTrue first → named ≡ false
fresh_of_first first true is holds = cc
fresh_of_first first false is holds = refl

eq_swap : (x y : ℕ) → (x == y) ≡ (y == x)
eq_swap x y = grind (arith, nat_tests)

-- a comparison ties where the number is equal, asked the other way round
pub eq_of_one_back : (a x : ℕ) → is_eq (nat_cmp a x) ≡ (x == a)
eq_of_one_back a x = eq_of_nat a x ∙ eq_swap a x

-- two comparisons tie where both numbers are equal, asked the other way round
pub eq_of_two_back : (a b x y : ℕ) → is_eq (ordering_then (nat_cmp a x) (nat_cmp b y)) ≡ ((x == a) && (y == b))
eq_of_two_back a b x y = eq_of_two a b x y ∙ ap (λ t. t && (b == y)) (eq_swap a x) ∙ ap (λ t. (x == a) && t) (eq_swap b y)

-- what is not first is named by an earlier line
pub named_of_later : (first named : Bool) → first ≡ not named → first ≡ false → named ≡ true
named_of_later first true is later = refl
named_of_later first false is later = cc
