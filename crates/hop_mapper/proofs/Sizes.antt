-- How many pairs a combined sheet has, and of which partition they are.
use Rattle.std.proofs.Common.{◌≡◌, ℕ, suc, ◌+◌, ◌*◌, ◌≤◌, Bool, true, false, ◌||◌, List, [], ◌∷◌, length, refl, sym, ap, ◌∙◌, subst, arith, cond, if◌then◌else◌}
use Rattle.std.specs.Prelude.{All, map, filter, ◌==◌}
use Rattle.std.specs.List.{list_any, flat_map}
use Rattle.std.specs.Str.{bytes_eq}
use Rattle.std.specs.Ordering.{is_gt}
use Rattle.std.proofs.lemmas.Slice.Eq.{bytes_eq-Decides}
use Rattle.std.proofs.lemmas.Bool.{true≢false, eqb-true}
use Rattle.std.proofs.lemmas.List.{length-map, length-append}
use Rattle.std.proofs.lemmas.List.Elements.{All-nil, All-cons, All-append, All-head, All-tail}
use Rattle.hop_base.specs.declared.value.Val.{Val}
use Rattle.hop_base.specs.declared.value.Pair.{Pair}
use Rattle.hop_base.specs.Meaning.{Meaning}
use Rattle.hop_base.specs.Order.{key_cmp, val_cmp, IsKey, IsValid, IsValidPair, IsSheet}
use Rattle.hop_laws.proofs.Combined.{combined_sorted}
use Rattle.hop_base.specs.Sorted.{ord}
use Rattle.hop_laws.specs.Groups.{values_of, keys_of, add_key}
use Rattle.hop_laws.specs.Laws.{AlwaysCombinesWell, IsLawful}
use Rattle.hop_laws.specs.Partition.{partition_of, of_partition}
use Rattle.hop_laws.specs.Stands.{pairs_at, combined_pairs}
use Rattle.hop_laws.proofs.Keys.{IsStrict, strict_keys, has_keys, not_below}
use Rattle.hop_laws.proofs.StandsLaws.{some_values, valid_values}

-- how many values of some keys there are
total : List (List ℕ) → List Pair → ℕ
total [] ps = 0
total (k ∷ ks) ps = length (values_of k ps) + total ks ps

-- how often a key is among some
hits : List ℕ → List (List ℕ) → ℕ
hits j [] = 0
hits j (k ∷ ks) = (if bytes_eq k j then 1 else 0) + hits j ks

one_value : (b : Bool) (p : Pair) (xs : List Pair) → length (map (λ (q : Pair). q.val) (cond b (p ∷ xs) xs)) ≡ (if b then 1 else 0) + length (map (λ (q : Pair). q.val) xs)
one_value true p xs = omega arith
one_value false p xs = omega arith

total_more : (ks : List (List ℕ)) (p : Pair) (ps : List Pair) → total ks (p ∷ ps) ≡ hits p.key ks + total ks ps
unfolding total hits
total_more [] p ps = refl
total_more (k ∷ ks) p ps = omega (arith, one_value (bytes_eq k p.key) p (filter (λ q. bytes_eq k q.key) ps), total_more ks p ps)

other_way : (j k : List ℕ) (b : Bool) → bytes_eq k j ≡ b → bytes_eq j k ≡ false → b ≡ false
other_way j k false e n = refl
other_way j k true e n = absurd (true≢false (sym ((bytes_eq-Decides j k).1 (sym ((bytes_eq-Decides k j).0 e))) ∙ n))

parts_false : (x y : Bool) → (x || y) ≡ false → (x ≡ false) × (y ≡ false)
parts_false true y e = absurd (true≢false e)
parts_false false y e = (refl, e)

no_hits : (j : List ℕ) (ks : List (List ℕ)) → list_any (bytes_eq j) ks ≡ false → hits j ks ≡ 0
unfolding hits
no_hits j [] n = refl
no_hits j (k ∷ ks) n =
    let h = parts_false (bytes_eq j k) (list_any (bytes_eq j) ks) n in
    ap (λ (b : Bool). (if b then 1 else 0) + hits j ks) (other_way j k (bytes_eq k j) refl h.0) ∙ ap (λ n. 0 + n) (no_hits j ks h.1)

one_hit_at : (j k : List ℕ) (ks : List (List ℕ)) (b : Bool) → bytes_eq k j ≡ b → list_any (bytes_eq k) ks ≡ false → hits j ks ≤ 1 → (if b then 1 else 0) + hits j ks ≤ 1
one_hit_at j k ks true e n h =
    let same : k ≡ j = (bytes_eq-Decides k j).0 e in
    let none : hits j ks ≡ 0 = no_hits j ks (subst (λ x. list_any (bytes_eq x) ks ≡ false) same n) in omega arith
one_hit_at j k ks false e n h = omega arith

one_hit : (j : List ℕ) (ks : List (List ℕ)) → IsStrict ks → hits j ks ≤ 1
unfolding hits
one_hit j [] s = omega arith
one_hit j (k ∷ ks) s = one_hit_at j k ks (bytes_eq k j) refl (not_below k ks s.0) (one_hit j ks s.1)

total_none : (ks : List (List ℕ)) → total ks [] ≡ 0
unfolding total
total_none [] = refl
total_none (k ∷ ks) = ap (λ n. 0 + n) (total_none ks)

total_few : (ps : List Pair) (ks : List (List ℕ)) → IsStrict ks → total ks ps ≤ length ps
total_few [] ks s = let e = total_none ks in omega arith
total_few (p ∷ ps) ks s = let e = total_more ks p ps in let h = one_hit p.key ks s in let r = total_few ps ks s in omega arith

or_true : (b : Bool) → (b || true) ≡ true
or_true true = refl
or_true false = refl

itself : (k : List ℕ) → bytes_eq k k ≡ true
itself k = (bytes_eq-Decides k k).1 refl

groups_few : (f : List ℕ → List Val) (ps : List Pair) (ks : List (List ℕ)) → ((k : List ℕ) → list_any (bytes_eq k) ks ≡ true → length (f k) ≤ length (values_of k ps)) → length (flat_map (λ k. pairs_at k (f k)) ks) ≤ total ks ps
unfolding total
groups_few f ps [] h = omega arith
groups_few f ps (k ∷ ks) h =
    let a : length (flat_map (λ k. pairs_at k (f k)) (k ∷ ks)) ≡ length (pairs_at k (f k)) + length (flat_map (λ k. pairs_at k (f k)) ks) = length-append (pairs_at k (f k)) (flat_map (λ k. pairs_at k (f k)) ks) in
    let m : length (pairs_at k (f k)) ≡ length (f k) = length-map (f k) (λ (v : Val). record { key = k; val = v }) in
    let here = h k (ap (λ b. b || list_any (bytes_eq k) ks) (itself k)) in
    let r = groups_few f ps ks (λ l e. h l (ap (λ b. bytes_eq l k || b) e ∙ or_true (bytes_eq l k))) in omega arith

-- combining makes no more pairs
pub combined_few : (combine : List ℕ → List Val → List Val) (ps : List Pair) → AlwaysCombinesWell combine → All IsValidPair ps → length (combined_pairs combine ps) ≤ length ps
combined_few combine ps well valid =
    let g = groups_few (λ k. combine k (ord val_cmp (values_of k ps))) ps (keys_of ps) (λ k e. (well k (values_of k ps) (some_values k ps (sym (has_keys k ps) ∙ e)) (valid_values k ps valid)).few) in
    let t = total_few ps (keys_of ps) (strict_keys ps) in omega arith

-- # Of which partition

module _ (P : List ℕ → Type 0) where
  abbrev Keyed : Pair → Type 0
  Keyed pair = P pair.key

  keyed_group : (k : List ℕ) (vs : List Val) → P k → All Keyed (pairs_at k vs)
  keyed_group k [] h = All-nil Keyed
  keyed_group k (v ∷ vs) h = All-cons Keyed (record { key = k; val = v }) (pairs_at k vs) h (keyed_group k vs h)

  keyed_groups : (f : List ℕ → List Val) (ks : List (List ℕ)) → All P ks → All Keyed (flat_map (λ k. pairs_at k (f k)) ks)
  keyed_groups f [] h = All-nil Keyed
  keyed_groups f (k ∷ ks) h =
      All-append Keyed (pairs_at k (f k)) (flat_map (λ k. pairs_at k (f k)) ks) (keyed_group k (f k) (All-head P k ks h)) (keyed_groups f ks (All-tail P k ks h))

  key_added : (k l : List ℕ) (ls more : List (List ℕ)) (b c : Bool) → P k → All P (l ∷ ls) → All P more → All P (cond b (l ∷ ls) (cond c (l ∷ more) (k ∷ (l ∷ ls))))
  key_added k l ls more true c h hs r = hs
  key_added k l ls more false true h hs r = All-cons P l more (All-head P l ls hs) r
  key_added k l ls more false false h hs r = All-cons P k (l ∷ ls) h hs

  keys_added : (k : List ℕ) (ks : List (List ℕ)) → P k → All P ks → All P (add_key k ks)
  keys_added k [] h hs = All-cons P k [] h hs
  keys_added k (l ∷ ls) h hs = key_added k l ls (add_key k ls) (bytes_eq k l) (is_gt (key_cmp k l)) h hs (keys_added k ls h (All-tail P l ls hs))

  keyed_keys : (ps : List Pair) → All Keyed ps → All P (keys_of ps)
  keyed_keys [] h = All-nil P
  keyed_keys (p ∷ ps) h = keys_added p.key (keys_of ps) (All-head Keyed p ps h) (keyed_keys ps (All-tail Keyed p ps h))

  -- combining makes no new keys
  pub combined_keyed : (combine : List ℕ → List Val → List Val) (ps : List Pair) → All (λ (pair : Pair). P pair.key) ps → All (λ (pair : Pair). P pair.key) (combined_pairs combine ps)
  combined_keyed combine ps h = keyed_groups (λ k. combine k (ord val_cmp (values_of k ps))) (keys_of ps) (keyed_keys ps h)

passing_at : (P : Pair → Type 0) (b : Bool) (x : Pair) (xs : List Pair) → (b ≡ true → P x) → All P xs → All P (cond b (x ∷ xs) xs)
passing_at P true x xs h hs = All-cons P x xs (h refl) hs
passing_at P false x xs h hs = hs

-- the pairs of a partition are of it
pub of_partition_all : (p r : ℕ) (ps : List Pair) → All (λ (pair : Pair). partition_of pair.key r ≡ p) (of_partition p r ps)
of_partition_all p r [] = All-nil (λ (pair : Pair). partition_of pair.key r ≡ p)
of_partition_all p r (q ∷ ps) =
    passing_at (λ (pair : Pair). partition_of pair.key r ≡ p) (partition_of q.key r == p) q (of_partition p r ps) (λ e. eqb-true (partition_of q.key r) p e) (of_partition_all p r ps)

of_partition_few_at : (b : Bool) (x : Pair) (xs ys : List Pair) → length xs ≤ length ys → length (cond b (x ∷ xs) xs) ≤ suc (length ys)
of_partition_few_at true x xs ys h = omega arith
of_partition_few_at false x xs ys h = omega arith

of_partition_few : (p r : ℕ) (ps : List Pair) → length (of_partition p r ps) ≤ length ps
of_partition_few p r [] = omega arith
of_partition_few p r (q ∷ ps) = of_partition_few_at (partition_of q.key r == p) q (of_partition p r ps) ps (of_partition_few p r ps)

emits_few : (meaning : Meaning) → IsLawful meaning → (rs : List (List ℕ)) → All (λ line. length line ≤ 131050) rs → length (flat_map meaning.emits rs) ≤ 65536 * length rs
emits_few meaning laws [] h = omega arith
emits_few meaning laws (line ∷ rs) h =
    let a : length (flat_map meaning.emits (line ∷ rs)) ≡ length (meaning.emits line) + length (flat_map meaning.emits rs) = length-append (meaning.emits line) (flat_map meaning.emits rs) in
    let e = (laws.emits_well line (All-head (λ line. length line ≤ 131050) line rs h)).few in
    let r = emits_few meaning laws rs (All-tail (λ line. length line ≤ 131050) line rs h) in omega arith

-- of so many records, each partition has so many pairs at most
pub emitted_few : (meaning : Meaning) → IsLawful meaning → (rs : List (List ℕ)) → All (λ line. length line ≤ 131050) rs → (p r : ℕ) → length (of_partition p r (flat_map meaning.emits rs)) ≤ 65536 * length rs
emitted_few meaning laws rs h p r = let a = of_partition_few p r (flat_map meaning.emits rs) in let b = emits_few meaning laws rs h in omega arith

-- # Within the limits, and in order

valid_group : (k : List ℕ) (vs : List Val) → IsKey k → All IsValid vs → All IsValidPair (pairs_at k vs)
valid_group k [] h v = All-nil IsValidPair
valid_group k (v ∷ vs) h w = All-cons IsValidPair (record { key = k; val = v }) (pairs_at k vs) (record { key = h; value = All-head IsValid v vs w }) (valid_group k vs h (All-tail IsValid v vs w))

valid_groups : (f : List ℕ → List Val) (ks : List (List ℕ)) → All IsKey ks → ((k : List ℕ) → list_any (bytes_eq k) ks ≡ true → All IsValid (f k)) → All IsValidPair (flat_map (λ k. pairs_at k (f k)) ks)
valid_groups f [] h v = All-nil IsValidPair
valid_groups f (k ∷ ks) h v =
    All-append IsValidPair (pairs_at k (f k)) (flat_map (λ k. pairs_at k (f k)) ks)
    (valid_group k (f k) (All-head IsKey k ks h) (v k (ap (λ b. b || list_any (bytes_eq k) ks) (itself k))))
    (valid_groups f ks (All-tail IsKey k ks h) (λ l e. v l (ap (λ b. bytes_eq l k || b) e ∙ or_true (bytes_eq l k))))

short_keys : (ps : List Pair) → All IsValidPair ps → All (λ (pair : Pair). IsKey pair.key) ps
short_keys [] h = All-nil (λ (pair : Pair). IsKey pair.key)
short_keys (p ∷ ps) h = All-cons (λ (pair : Pair). IsKey pair.key) p ps (All-head IsValidPair p ps h).key (short_keys ps (All-tail IsValidPair p ps h))

-- a combined sheet is a sheet
pub combined_sheet : (combine : List ℕ → List Val → List Val) (ps : List Pair) → AlwaysCombinesWell combine → All IsValidPair ps → IsSheet (combined_pairs combine ps)
combined_sheet combine ps well valid = record {
  sorted = combined_sorted combine ps well valid;
  valid = valid_groups (λ k. combine k (ord val_cmp (values_of k ps))) (keys_of ps) (keyed_keys IsKey ps (short_keys ps valid))
      (λ k e. (well k (values_of k ps) (some_values k ps (sym (has_keys k ps) ∙ e)) (valid_values k ps valid)).valid);
}
