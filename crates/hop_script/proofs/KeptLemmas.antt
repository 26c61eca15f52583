-- Ordered maps and sets as lines in order: one more line, and what a look-up finds.
use Rattle.std.proofs.Common.{◌≡◌, Bool, true, false, ◌||◌, ◌&&◌, cond, List, [], ◌∷◌, ◌++◌, Option, None, Some, map, refl, ap, ◌∙◌}
use Rattle.std.specs.Prelude.{is_some, find}
use Rattle.std.specs.List.{list_any, list_all}
use Rattle.std.specs.Map.{lookup}
use Rattle.std.specs.BTreeMap.{is_at, insert_entry}
use Rattle.std.specs.BTreeSet.{insert_key}
use Rattle.std.specs.declared.cmp.Ordering.{Ordering}
use Rattle.std.specs.declared.cmp.Ordering.TheVariants.{Less, Equal, Greater}
use Rattle.std.specs.Ordering.{is_eq, is_gt, ordering_then, match_ordering}
use Rattle.std.specs.Option.{option_map}
use Rattle.std.specs.Cmp.{IsTotalOrder}
use Rattle.std.proofs.lemmas.Map.Lookups.{CmpEqualImpliesEq}
use Rattle.hop_base.specs.Sorted.{insert_in_order, ord}
use Rattle.hop_base.proofs.Sorted.{ord_same, SameItems-append_comm}

module _ {X : Type 0} (cmp : X → X → Ordering) where
  -- one more item goes to its place
  pub ord-push : IsTotalOrder cmp → CmpEqualImpliesEq cmp → (xs : List X) (x : X) → ord cmp (xs ++ x ∷ []) ≡ insert_in_order cmp x (ord cmp xs)
  ord-push total exact xs x = ord_same cmp total exact (xs ++ x ∷ []) (x ∷ xs) (SameItems-append_comm cmp xs (x ∷ []))

  swapped : (a b c : Bool) → (a || (b || c)) ≡ (b || (a || c))
  swapped true true c = refl
  swapped true false c = refl
  swapped false b c = refl

  any-insert : (p : X → Bool) (x : X) (ys : List X) → list_any p (insert_in_order cmp x ys) ≡ (p x || list_any p ys)
  any-insert p x [] = refl
  any-insert p x (y ∷ ys) =
      elim (is_gt (cmp x y)) as (λ b. list_any p (cond b (y ∷ insert_in_order cmp x ys) (x ∷ y ∷ ys)) ≡ (p x || (p y || list_any p ys))) [
        | true ↦ ap (λ b. p y || b) (any-insert p x ys) ∙ swapped (p y) (p x) (list_any p ys)
        | false ↦ refl
      ]

  -- the order is nothing to whether an item passes
  pub any-ord : (p : X → Bool) (xs : List X) → list_any p (ord cmp xs) ≡ list_any p xs
  any-ord p [] = refl
  any-ord p (x ∷ xs) = any-insert p x (ord cmp xs) ∙ ap (λ b. p x || b) (any-ord p xs)

  swapped_all : (a b c : Bool) → (a && (b && c)) ≡ (b && (a && c))
  swapped_all true b c = refl
  swapped_all false true c = refl
  swapped_all false false c = refl

  all-insert : (p : X → Bool) (x : X) (ys : List X) → list_all p (insert_in_order cmp x ys) ≡ (p x && list_all p ys)
  all-insert p x [] = refl
  all-insert p x (y ∷ ys) =
      elim (is_gt (cmp x y)) as (λ b. list_all p (cond b (y ∷ insert_in_order cmp x ys) (x ∷ y ∷ ys)) ≡ (p x && (p y && list_all p ys))) [
        | true ↦ ap (λ b. p y && b) (all-insert p x ys) ∙ swapped_all (p y) (p x) (list_all p ys)
        | false ↦ refl
      ]

  -- the order is nothing to whether all items pass
  pub all-ord : (p : X → Bool) (xs : List X) → list_all p (ord cmp xs) ≡ list_all p xs
  all-ord p [] = refl
  all-ord p (x ∷ xs) = all-insert p x (ord cmp xs) ∙ ap (λ b. p x && b) (all-ord p xs)

module _ {K V L : Type 0} (cmp : K → K → Ordering) (line : K × V → L) where
  module _ (line_cmp : L → L → Ordering) (tie : K → V → K × V → Ordering) (extends : (k : K) (v : V) (e : K × V) → line_cmp (line (k, v)) (line e) ≡ ordering_then (cmp k e.0) (tie k v e)) where
    entry_step : (k : K) (v : V) (e : K × V) (es : List (K × V)) (more : List (K × V)) (o : Ordering) → cond (is_eq o) (Some e.1) (lookup (is_at (cmp k)) es) ≡ None
        → (lookup (is_at (cmp k)) es ≡ None → map line more ≡ insert_in_order line_cmp (line (k, v)) (map line es))
        → map line (match_ordering o ((k, v) ∷ e ∷ es) ((e.0, v) ∷ es) (e ∷ more)) ≡ cond (is_gt (ordering_then o (tie k v e))) (line e ∷ insert_in_order line_cmp (line (k, v)) (map line es)) (line (k, v) ∷ line e ∷ map line es)
    entry_step k v e es more Less none later = refl
    entry_step k v e es more Equal none later = cc
    entry_step k v e es more Greater none later = ap (λ ls. line e ∷ ls) (later none)

    -- an entry with a new key goes to its place among the lines
    pub lines-insert : (k : K) (v : V) (es : List (K × V)) → lookup (is_at (cmp k)) es ≡ None → map line (insert_entry cmp es k v) ≡ insert_in_order line_cmp (line (k, v)) (map line es)
    lines-insert k v [] none = refl
    lines-insert k v (e ∷ es) none = rw (extends k v e) (entry_step k v e es (insert_entry cmp es k v) (cmp k e.0) none (lines-insert k v es))

  module _ (k : K) (named : L → Bool) (same : (e : K × V) → is_eq (cmp k e.0) ≡ named (line e)) where
    some_step : (b : Bool) (v : V) (o : Option V) (rest : Bool) → is_some o ≡ rest → is_some (cond b (Some v) o) ≡ (b || rest)
    some_step true v o rest is = refl
    some_step false v o rest is = is

    -- a key is there where a line names it
    pub some-lookup : (es : List (K × V)) → is_some (lookup (is_at (cmp k)) es) ≡ list_any named (map line es)
    some-lookup [] = refl
    some-lookup (e ∷ es) = rw (← same e) (some_step (is_eq (cmp k e.0)) e.1 (lookup (is_at (cmp k)) es) (list_any named (map line es)) (some-lookup es))

    found_step : (value : L → V) (b : Bool) (e : K × V) (o : Option L) (p : Option V) → value (line e) ≡ e.1 → option_map value o ≡ p → option_map value (cond b (Some (line e)) o) ≡ cond b (Some e.1) p
    found_step value true e o p is later = ap Some is
    found_step value false e o p is later = later

    -- what the first line that names the key says is what stands at the key
    pub find-lines : (value : L → V) → ((e : K × V) → value (line e) ≡ e.1) → (es : List (K × V)) → option_map value (find named (map line es)) ≡ lookup (is_at (cmp k)) es
    find-lines value is [] = refl
    find-lines value is (e ∷ es) = rw (← same e) (found_step value (is_eq (cmp k e.0)) e (find named (map line es)) (lookup (is_at (cmp k)) es) (is e) (find-lines value is es))

module _ {K L : Type 0} (cmp : K → K → Ordering) (line : K → L) where
  module _ (line_cmp : L → L → Ordering) (alike : (k x : K) → line_cmp (line k) (line x) ≡ cmp k x) where
    key_step : (k x : K) (xs more : List K) (o : Ordering) → (is_eq o || list_any (is_at (cmp k)) xs) ≡ false
        → (list_any (is_at (cmp k)) xs ≡ false → map line more ≡ insert_in_order line_cmp (line k) (map line xs))
        → map line (match_ordering o (k ∷ x ∷ xs) (x ∷ xs) (x ∷ more)) ≡ cond (is_gt o) (line x ∷ insert_in_order line_cmp (line k) (map line xs)) (line k ∷ line x ∷ map line xs)
    key_step k x xs more Less none later = refl
    key_step k x xs more Equal none later = cc
    key_step k x xs more Greater none later = ap (λ ls. line x ∷ ls) (later none)

    -- a new key goes to its place among the lines
    pub lines-insert_key : (k : K) (ks : List K) → list_any (is_at (cmp k)) ks ≡ false → map line (insert_key cmp ks k) ≡ insert_in_order line_cmp (line k) (map line ks)
    lines-insert_key k [] none = refl
    lines-insert_key k (x ∷ xs) none = rw (alike k x) (key_step k x xs (insert_key cmp xs k) (cmp k x) none (lines-insert_key k xs))

  -- a key is there where a line names it
  pub any-lines : (k : K) (named : L → Bool) (same : (x : K) → is_eq (cmp k x) ≡ named (line x)) → (ks : List K) → list_any (is_at (cmp k)) ks ≡ list_any named (map line ks)
  any-lines k named same [] = refl
  any-lines k named same (x ∷ xs) = ap (λ b. b || list_any (is_at (cmp k)) xs) (same x) ∙ ap (λ b. named (line x) || b) (any-lines k named same xs)
