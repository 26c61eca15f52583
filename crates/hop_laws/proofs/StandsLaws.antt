-- What merging and combining do to what a sheet stands for.
use Rattle.std.proofs.Common.{◌≡◌, ℕ, ◌<◌, Bool, true, false, cond, ◌||◌, List, [], ◌∷◌, ◌++◌, length, map, refl, sym, ap, ◌∙◌, subst, inl, inr, arith, is_gt}
use Rattle.std.specs.Prelude.{All, filter}
use Rattle.std.specs.List.{list_any, flat_map}
use Rattle.std.specs.Str.{bytes_eq}
use Rattle.std.specs.List.Sorted.{IsPermutation}
use Rattle.std.proofs.lemmas.Slice.Eq.{bytes_eq-Decides}
use Rattle.std.proofs.lemmas.List.{append-nil}
use Rattle.std.proofs.lemmas.List.Elements.{All-append, All-map, All-filter, All-weaker, All-nil}
use Rattle.std.proofs.lemmas.Bool.{true≢false, false≢true, cases_Bool}
use Rattle.hop_base.specs.declared.value.Val.{Val}
use Rattle.hop_base.specs.declared.value.Pair.{Pair}
use Rattle.hop_base.specs.Order.{key_cmp, val_cmp, IsValid, IsValidPair}
use Rattle.hop_base.specs.Sorted.{ord}
use Rattle.hop_base.proofs.Sorted.{count, count-append, SameItems, ord_same}
use Rattle.hop_base.proofs.OrderLaws.{val_total, val_exact}
use Rattle.hop_laws.specs.Groups.{has_key, values_of, keys_of, red}
use Rattle.hop_laws.specs.Stands.{StandsFor, pairs_at, combined_pairs}
use Rattle.hop_laws.specs.Laws.{AlwaysCombinesWell, ReducesAlike}
use Rattle.hop_laws.proofs.Keys.{IsBelowAll, IsStrict, strict_keys, keys_same, has_same, has_keys, has_key-append, has_key-IsPermutation, not_below}
use Rattle.hop_laws.proofs.Values.{values_of-append, values_none, values_permuted, each_alike}

-- values in order, by what they are
pub ord_alike : (xs ys : List Val) → SameItems val_cmp xs ys → ord val_cmp xs ≡ ord val_cmp ys
ord_alike = ord_same val_cmp val_total val_exact

pub valid_values : (k : List ℕ) (ps : List Pair) → All IsValidPair ps → All IsValid (values_of k ps)
valid_values k ps h = All-map IsValid (λ (p : Pair). p.val) (filter (λ p. bytes_eq k p.key) ps) (All-filter (λ (p : Pair). bytes_eq k p.key) (λ (p : Pair). IsValid p.val) ps (All-weaker IsValidPair (λ p. IsValid p.val) (λ p v. v.value) ps h))

-- a sheet stands for its pairs in any order
pub stands_sorted : {X : Type 0} (reduce : List ℕ → List Val → X) (ps sheet : List Pair) → IsPermutation ps sheet → StandsFor reduce sheet ps
stands_sorted reduce ps sheet h = record {
  same_keys = sym (keys_same ps sheet (λ k. has_key-IsPermutation k ps sheet h));
  same_reduce = λ k ws v.
      let s : SameItems val_cmp (values_of k ps) (values_of k sheet) = values_permuted k ps sheet h in
      ap (reduce k) (ord_alike (values_of k sheet ++ ws) (values_of k ps ++ ws)
      (record { counts = λ x. omega (arith, count-append val_cmp x (values_of k sheet) ws, count-append val_cmp x (values_of k ps) ws, s.counts x) }));
}

-- two sheets as one
pub stands_merged : {X : Type 0} (reduce : List ℕ → List Val → X) (a b sheet ps qs : List Pair) → All IsValidPair b → All IsValidPair ps → IsPermutation (a ++ b) sheet → StandsFor reduce a ps → StandsFor reduce b qs → StandsFor reduce sheet (ps ++ qs)
stands_merged reduce a b sheet ps qs vb vps h sa sb = record {
  same_keys = keys_same sheet (ps ++ qs) (λ k.
      sym (has_key-IsPermutation k (a ++ b) sheet h) ∙ has_key-append k a b
      ∙ ap (λ x. x || has_key k b) (has_same a ps sa.same_keys k) ∙ ap (λ x. has_key k ps || x) (has_same b qs sb.same_keys k)
      ∙ sym (has_key-append k ps qs));
  same_reduce = λ k ws v.
      let s : SameItems val_cmp (values_of k (a ++ b)) (values_of k sheet) = values_permuted k (a ++ b) sheet h in
      let one : ord val_cmp (values_of k sheet ++ ws) ≡ ord val_cmp (values_of k a ++ (values_of k b ++ ws)) =
      ord_alike (values_of k sheet ++ ws) (values_of k a ++ (values_of k b ++ ws)) (record { counts = λ x. omega (arith, count-append val_cmp x (values_of k sheet) ws, count-append val_cmp x (values_of k a) (values_of k b ++ ws), count-append val_cmp x (values_of k b) ws, count-append val_cmp x (values_of k a) (values_of k b), ap (count val_cmp x) (values_of-append k a b), s.counts x) }) in
      let two : ord val_cmp (values_of k ps ++ (values_of k b ++ ws)) ≡ ord val_cmp (values_of k b ++ (values_of k ps ++ ws)) =
      ord_alike (values_of k ps ++ (values_of k b ++ ws)) (values_of k b ++ (values_of k ps ++ ws)) (record { counts = λ x. omega (arith, count-append val_cmp x (values_of k ps) (values_of k b ++ ws), count-append val_cmp x (values_of k b) ws, count-append val_cmp x (values_of k b) (values_of k ps ++ ws), count-append val_cmp x (values_of k ps) ws) }) in
      let three : ord val_cmp (values_of k qs ++ (values_of k ps ++ ws)) ≡ ord val_cmp (values_of k (ps ++ qs) ++ ws) =
      ord_alike (values_of k qs ++ (values_of k ps ++ ws)) (values_of k (ps ++ qs) ++ ws) (record { counts = λ x. omega (arith, count-append val_cmp x (values_of k qs) (values_of k ps ++ ws), count-append val_cmp x (values_of k ps) ws, count-append val_cmp x (values_of k (ps ++ qs)) ws, count-append val_cmp x (values_of k ps) (values_of k qs), ap (count val_cmp x) (values_of-append k ps qs)) }) in
      ap (reduce k) one ∙ sa.same_reduce k (values_of k b ++ ws) (All-append IsValid (values_of k b) ws (valid_values k b vb) v)
      ∙ ap (reduce k) two ∙ sb.same_reduce k (values_of k ps ++ ws) (All-append IsValid (values_of k ps) ws (valid_values k ps vps) v)
      ∙ ap (reduce k) three;
}

-- the reduction of a sheet is that of what it stands for
pub red_stands : (reduce : List ℕ → List Val → List ℕ) (sheet ps : List Pair) → StandsFor reduce sheet ps → red reduce sheet ≡ red reduce ps
red_stands reduce sheet ps s =
    each_alike reduce sheet ps s.same_keys
    (λ k. ap (λ x. reduce k (ord val_cmp x)) (sym (append-nil (values_of k sheet))) ∙ s.same_reduce k [] (All-nil IsValid) ∙ ap (λ x. reduce k (ord val_cmp x)) (append-nil (values_of k ps)))

-- ---- combining

key_itself : (k : List ℕ) → bytes_eq k k ≡ true
key_itself k = (bytes_eq-Decides k k).1 refl

values_here : (k : List ℕ) (vs : List Val) → values_of k (pairs_at k vs) ≡ vs
values_here k [] = refl
values_here k (v ∷ vs) =
    ap (λ b. map (λ (q : Pair). q.val) (cond b (record { key = k; val = v } ∷ filter (λ q. bytes_eq k q.key) (pairs_at k vs)) (filter (λ q. bytes_eq k q.key) (pairs_at k vs)))) (key_itself k)
    ∙ ap (λ xs. v ∷ xs) (values_here k vs)

has_other : (k l : List ℕ) (vs : List Val) → bytes_eq k l ≡ false → has_key k (pairs_at l vs) ≡ false
has_other k l [] e = refl
has_other k l (v ∷ vs) e = ap (λ b. b || has_key k (pairs_at l vs)) e ∙ has_other k l vs e

pub has_here : (k l : List ℕ) (vs : List Val) → 0 < length vs → has_key k (pairs_at l vs) ≡ bytes_eq k l
has_here k l [] h = absurd (omega arith)
has_here k l (v ∷ []) h = or_false (bytes_eq k l)
  where
    or_false : (b : Bool) → (b || false) ≡ b
    or_false true = refl
    or_false false = refl
has_here k l (v ∷ w ∷ vs) h = ap (λ b. bytes_eq k l || b) (has_here k l (w ∷ vs) (omega arith)) ∙ or_both (bytes_eq k l)
  where
    or_both : (b : Bool) → (b || b) ≡ b
    or_both true = refl
    or_both false = refl

-- pairs of each of some keys, by a function
abbrev groups : (List ℕ → List Val) → List (List ℕ) → List Pair
groups f ks = flat_map (λ k. pairs_at k (f k)) ks

has_groups : (k : List ℕ) (f : List ℕ → List Val) (ks : List (List ℕ)) → ((l : List ℕ) → list_any (bytes_eq l) ks ≡ true → 0 < length (f l)) → has_key k (groups f ks) ≡ list_any (bytes_eq k) ks
has_groups k f [] h = refl
has_groups k f (l ∷ ls) h =
    has_key-append k (pairs_at l (f l)) (groups f ls)
    ∙ ap (λ b. b || has_key k (groups f ls)) (has_here k l (f l) (h l (ap (λ b. b || list_any (bytes_eq l) ls) (key_itself l))))
    ∙ ap (λ b. bytes_eq k l || b) (has_groups k f ls (λ m e. h m (later m e)))
  where
    later : (m : List ℕ) → list_any (bytes_eq m) ls ≡ true → list_any (bytes_eq m) (l ∷ ls) ≡ true
    later m e = ap (λ b. bytes_eq m l || b) e ∙ or_true (bytes_eq m l)
      where
        or_true : (b : Bool) → (b || true) ≡ true
        or_true true = refl
        or_true false = refl

values_groups_at : (k l : List ℕ) (f : List ℕ → List Val) (ls : List (List ℕ)) (b : Bool) → bytes_eq k l ≡ b → IsBelowAll l ls → (list_any (bytes_eq k) ls ≡ true → values_of k (groups f ls) ≡ f k) → ((m : List ℕ) → list_any (bytes_eq m) ls ≡ false → values_of m (groups f ls) ≡ []) → (b || list_any (bytes_eq k) ls) ≡ true → values_of k (pairs_at l (f l)) ++ values_of k (groups f ls) ≡ f k
values_groups_at k l f ls true e below r none h =
    let same : k ≡ l = (bytes_eq-Decides k l).0 e in
    subst (λ m. values_of k (pairs_at m (f m)) ++ values_of k (groups f ls) ≡ f k) same
    (ap (λ xs. xs ++ values_of k (groups f ls)) (values_here k (f k)) ∙ ap (λ xs. f k ++ xs) (none k (subst (λ m. list_any (bytes_eq m) ls ≡ false) (sym same) (not_below l ls below))) ∙ append-nil (f k))
values_groups_at k l f ls false e below r none h =
    ap (λ xs. xs ++ values_of k (groups f ls)) (values_none k (pairs_at l (f l)) (has_other k l (f l) e)) ∙ r h

no_groups : (m : List ℕ) (f : List ℕ → List Val) (ls : List (List ℕ)) → list_any (bytes_eq m) ls ≡ false → has_key m (groups f ls) ≡ false
no_groups m f [] e = refl
no_groups m f (l ∷ ls) e =
    has_key-append m (pairs_at l (f l)) (groups f ls) ∙ ap (λ b. b || has_key m (groups f ls)) (has_other m l (f l) (parts (bytes_eq m l) (list_any (bytes_eq m) ls) e).0) ∙ no_groups m f ls (parts (bytes_eq m l) (list_any (bytes_eq m) ls) e).1
  where
    parts : (x y : Bool) → (x || y) ≡ false → (x ≡ false) × (y ≡ false)
    parts true y e = absurd (true≢false e)
    parts false y e = (refl, e)

values_groups : (k : List ℕ) (f : List ℕ → List Val) (ks : List (List ℕ)) → IsStrict ks → list_any (bytes_eq k) ks ≡ true → values_of k (groups f ks) ≡ f k
values_groups k f [] s h = absurd (false≢true h)
values_groups k f (l ∷ ls) s h =
    values_of-append k (pairs_at l (f l)) (groups f ls)
    ∙ values_groups_at k l f ls (bytes_eq k l) refl s.0 (values_groups k f ls s.1) (λ m e. values_none m (groups f ls) (no_groups m f ls e)) h

-- a key that is there has values
pub some_values : (k : List ℕ) (ps : List Pair) → has_key k ps ≡ true → 0 < length (values_of k ps)
some_values k [] h = absurd (false≢true h)
some_values k (p ∷ ps) h = some_at (bytes_eq k p.key) h (some_values k ps)
  where
    some_at : (b : Bool) → (b || has_key k ps) ≡ true → (has_key k ps ≡ true → 0 < length (values_of k ps)) → 0 < length (map (λ (q : Pair). q.val) (cond b (p ∷ filter (λ q. bytes_eq k q.key) ps) (filter (λ q. bytes_eq k q.key) ps)))
    some_at true h r = omega arith
    some_at false h r = r h

-- combining each key's values
pub stands_combined : (combine : List ℕ → List Val → List Val) (reduce : List ℕ → List Val → List ℕ) (a sheet ps : List Pair) → AlwaysCombinesWell combine → ReducesAlike combine reduce → All IsValidPair a → IsPermutation (combined_pairs combine a) sheet → StandsFor reduce a ps → StandsFor reduce sheet ps
stands_combined combine reduce a sheet ps well alike va h s =
    let f : List ℕ → List Val = λ k. combine k (ord val_cmp (values_of k a)) in
    let c : List Pair = combined_pairs combine a in
    let t : StandsFor reduce sheet c = stands_sorted reduce c sheet h in
    let same : (k : List ℕ) → has_key k c ≡ has_key k a = λ k. has_groups k f (keys_of a) (λ l e. (well l (values_of l a) (some_values l a (sym (has_keys l a) ∙ e)) (valid_values l a va)).some) ∙ has_keys k a in
    record {
      same_keys = t.same_keys ∙ keys_same c a same ∙ s.same_keys;
      same_reduce = λ k ws v.
          t.same_reduce k ws v
          ∙ (elim (cases_Bool (has_key k a)) [
            | inl there ↦ ap (λ xs. reduce k (ord val_cmp (xs ++ ws))) (values_groups k f (keys_of a) (strict_keys a) (has_keys k a ∙ there)) ∙ alike k (values_of k a) ws (some_values k a there) (valid_values k a va) v
            | inr absent ↦ ap (λ xs. reduce k (ord val_cmp (xs ++ ws))) (values_none k c (same k ∙ absent) ∙ sym (values_none k a absent))
          ])
          ∙ s.same_reduce k ws v;
    }

-- pairs stand for themselves
pub stands_itself : {X : Type 0} (reduce : List ℕ → List Val → X) (ps : List Pair) → StandsFor reduce ps ps
stands_itself reduce ps = record { same_keys = refl; same_reduce = λ k ws v. refl }

-- and for what pairs that they stand for stand for
pub stands_through : {X : Type 0} (reduce : List ℕ → List Val → X) (ps qs rs : List Pair) → StandsFor reduce ps qs → StandsFor reduce qs rs → StandsFor reduce ps rs
stands_through reduce ps qs rs h k = record {
  same_keys = h.same_keys ∙ k.same_keys;
  same_reduce = λ key ws v. h.same_reduce key ws v ∙ k.same_reduce key ws v;
}

-- the same is combined of pairs, and of what they stand for to combine
pub combined_alike : (combine : List ℕ → List Val → List Val) (sheet ps : List Pair) → StandsFor combine sheet ps → combined_pairs combine sheet ≡ combined_pairs combine ps
combined_alike combine sheet ps s =
    each_alike (λ k vs. pairs_at k (combine k vs)) sheet ps s.same_keys
    (λ k. ap (pairs_at k) (ap (λ x. combine k (ord val_cmp x)) (sym (append-nil (values_of k sheet))) ∙ s.same_reduce k [] (All-nil IsValid) ∙ ap (λ x. combine k (ord val_cmp x)) (append-nil (values_of k ps))))

-- one value stands for two of its key, if it does so at that key
pub stands_two : {X : Type 0} (reduce : List ℕ → List Val → X) (key : List ℕ) (v w u : Val) → ((ws : List Val) → All IsValid ws → reduce key (ord val_cmp (u ∷ ws)) ≡ reduce key (ord val_cmp (v ∷ w ∷ ws))) → StandsFor reduce (pairs_at key (u ∷ [])) (pairs_at key (v ∷ w ∷ []))
stands_two reduce key v w u h = record {
  same_keys = sym (ap (λ b. cond b (key ∷ []) (cond (is_gt (key_cmp key key)) (key ∷ key ∷ []) (key ∷ key ∷ []))) (key_itself key));
  same_reduce = λ k ws valid. at k ws valid (bytes_eq k key) refl;
}
  where
    at : (k : List ℕ) (ws : List Val) → All IsValid ws → (b : Bool) → bytes_eq k key ≡ b → reduce k (ord val_cmp (values_of k (pairs_at key (u ∷ [])) ++ ws)) ≡ reduce k (ord val_cmp (values_of k (pairs_at key (v ∷ w ∷ [])) ++ ws))
    at k ws valid true e =
        subst (λ l. reduce l (ord val_cmp (values_of l (pairs_at key (u ∷ [])) ++ ws)) ≡ reduce l (ord val_cmp (values_of l (pairs_at key (v ∷ w ∷ [])) ++ ws))) (sym ((bytes_eq-Decides k key).0 e))
        (ap (λ vs. reduce key (ord val_cmp (vs ++ ws))) (values_here key (u ∷ [])) ∙ h ws valid ∙ ap (λ vs. reduce key (ord val_cmp (vs ++ ws))) (sym (values_here key (v ∷ w ∷ []))))
    at k ws valid false e =
        ap (λ vs. reduce k (ord val_cmp (vs ++ ws))) (values_none k (pairs_at key (u ∷ [])) (has_other k key (u ∷ []) e) ∙ sym (values_none k (pairs_at key (v ∷ w ∷ [])) (has_other k key (v ∷ w ∷ []) e)))
