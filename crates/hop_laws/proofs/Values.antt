-- The values of a key, and the reduction of all pairs.
use Rattle.std.proofs.Common.{◌≡◌, ℕ, ◌+◌, Bool, true, false, cond, ◌||◌, if◌then◌else◌, List, [], ◌∷◌, ◌++◌, map, refl, sym, ap, ◌∙◌, arith}
use Rattle.std.specs.Prelude.{filter}
use Rattle.std.specs.List.{flat_map, sum_by}
use Rattle.std.specs.Str.{bytes_eq}
use Rattle.std.specs.List.Sorted.{IsPermutation}
use Rattle.std.specs.Ordering.{is_eq, ordering_reverse}
use Rattle.std.specs.declared.cmp.Ordering.{Ordering}
use Rattle.std.specs.declared.cmp.Ordering.TheVariants.{Less}
use Rattle.std.specs.Cmp.Lexicographic.{texts_ties}
use Rattle.std.proofs.lemmas.List.{map-append, append-nil}
use Rattle.std.proofs.lemmas.List.Elements.{filter-append}
use Rattle.std.proofs.lemmas.List.Sums.{sum_by-cons}
use Rattle.std.proofs.lemmas.List.Sorted.{sum_by-IsPermutation}
use Rattle.std.proofs.lemmas.Bool.{true≢false}
use Rattle.std.proofs.lemmas.Cmp.{tied_itself}
use Rattle.hop_base.specs.declared.value.Val.{Val}
use Rattle.hop_base.specs.declared.value.Pair.{Pair}
use Rattle.hop_base.specs.Order.{key_cmp, val_cmp}
use Rattle.hop_base.specs.Sorted.{ord}
use Rattle.hop_base.proofs.Sorted.{count, SameItems, ord_same}
use Rattle.hop_base.proofs.OrderLaws.{key_total, val_total, val_exact}
use Rattle.hop_laws.specs.Groups.{has_key, values_of, add_key, keys_of, for_each_key, AllHaveKey, AllAboveKey}
use Rattle.hop_laws.proofs.Keys.{IsBelowAll, keys_same, has_key-IsPermutation, below_add}

pub values_of-append : (k : List ℕ) (ps qs : List Pair) → values_of k (ps ++ qs) ≡ values_of k ps ++ values_of k qs
values_of-append k ps qs = ap (map (λ p. p.val)) (filter-append (λ p. bytes_eq k p.key) ps qs) ∙ map-append (λ p. p.val) (filter (λ p. bytes_eq k p.key) ps) (filter (λ p. bytes_eq k p.key) qs)

values_none_at : (k : List ℕ) (p : Pair) (ps : List Pair) (b : Bool) → (b || has_key k ps) ≡ false → (has_key k ps ≡ false → values_of k ps ≡ []) → map (λ (q : Pair). q.val) (cond b (p ∷ filter (λ q. bytes_eq k q.key) ps) (filter (λ q. bytes_eq k q.key) ps)) ≡ []
values_none_at k p ps true e r = absurd (true≢false e)
values_none_at k p ps false e r = r e

pub values_none : (k : List ℕ) (ps : List Pair) → has_key k ps ≡ false → values_of k ps ≡ []
values_none k [] e = refl
values_none k (p ∷ ps) e = values_none_at k p ps (bytes_eq k p.key) e (values_none k ps)

-- how often a value stands at a key, as a sum
abbrev share : List ℕ → Val → Pair → ℕ
share k v p = if bytes_eq k p.key then (if is_eq (val_cmp v p.val) then 1 else 0) else 0

count_values_at : (k : List ℕ) (v : Val) (p : Pair) (ps : List Pair) (b : Bool) → count val_cmp v (values_of k ps) ≡ sum_by (share k v) ps → count val_cmp v (map (λ (q : Pair). q.val) (cond b (p ∷ filter (λ q. bytes_eq k q.key) ps) (filter (λ q. bytes_eq k q.key) ps))) ≡ (if b then (if is_eq (val_cmp v p.val) then 1 else 0) else 0) + sum_by (share k v) ps
count_values_at k v p ps true r = omega (arith, r)
count_values_at k v p ps false r = omega (arith, r)

count_values : (k : List ℕ) (v : Val) (ps : List Pair) → count val_cmp v (values_of k ps) ≡ sum_by (share k v) ps
count_values k v [] = refl
count_values k v (p ∷ ps) = count_values_at k v p ps (bytes_eq k p.key) (count_values k v ps) ∙ sym (sum_by-cons (share k v) p ps)

pub values_permuted : (k : List ℕ) (ps qs : List Pair) → IsPermutation ps qs → SameItems val_cmp (values_of k ps) (values_of k qs)
values_permuted k ps qs h = record { counts = λ v. count_values k v ps ∙ sym (sum_by-IsPermutation (share k v) ps qs h) ∙ sym (count_values k v qs) }

flat_map_alike : {X : Type 0} (f g : List ℕ → List X) (ks : List (List ℕ)) → ((k : List ℕ) → f k ≡ g k) → flat_map f ks ≡ flat_map g ks
flat_map_alike f g [] e = refl
flat_map_alike f g (k ∷ ks) e = ap (λ x. x ++ flat_map f ks) (e k) ∙ ap (λ x. g k ++ x) (flat_map_alike f g ks e)

-- the reduction depends on the keys, and on what reduce gives for each
pub each_alike : {X : Type 0} (f : List ℕ → List Val → List X) (ps qs : List Pair) → keys_of ps ≡ keys_of qs → ((k : List ℕ) → f k (ord val_cmp (values_of k ps)) ≡ f k (ord val_cmp (values_of k qs))) → for_each_key f ps ≡ for_each_key f qs
each_alike f ps qs e h = flat_map_alike _ (λ k. f k (ord val_cmp (values_of k qs))) (keys_of ps) h ∙ ap (flat_map (λ k. f k (ord val_cmp (values_of k qs)))) e

-- the order of the pairs doesn't matter
pub each_permuted : {X : Type 0} (f : List ℕ → List Val → List X) (ps qs : List Pair) → IsPermutation ps qs → for_each_key f ps ≡ for_each_key f qs
each_permuted f ps qs h =
    each_alike f ps qs (keys_same ps qs (λ k. has_key-IsPermutation k ps qs h))
    (λ k. ap (f k) (ord_same val_cmp val_total val_exact _ _ (values_permuted k ps qs h)))

-- ---- the pairs of the least key first

other_key : (k l : List ℕ) → key_cmp k l ≡ Less → bytes_eq k l ≡ false
other_key k l e = texts_ties k l ∙ ap is_eq e

pub key_itself : (k : List ℕ) → bytes_eq k k ≡ true
key_itself k = texts_ties k k ∙ ap is_eq (tied_itself key_total k)

pub not_above : (k : List ℕ) (ps : List Pair) → AllAboveKey k ps → has_key k ps ≡ false
not_above k [] h = refl
not_above k (p ∷ ps) h = ap (λ b. b || has_key k ps) (other_key k p.key h.0) ∙ not_above k ps h.1

below_keys : (k : List ℕ) (ps : List Pair) → AllAboveKey k ps → IsBelowAll k (keys_of ps)
below_keys k [] h = tt
below_keys k (p ∷ ps) h = below_add k p.key (keys_of ps) h.0 (below_keys k ps h.1)

add_below : (k : List ℕ) (ks : List (List ℕ)) → IsBelowAll k ks → add_key k ks ≡ k ∷ ks
add_below k [] h = refl
add_below k (l ∷ ls) h = rw (other_key k l h.0, h.0) refl

add_same : (k : List ℕ) (ks : List (List ℕ)) → add_key k (k ∷ ks) ≡ k ∷ ks
add_same k ks = rw (key_itself k) refl

keys_group : (k : List ℕ) (p : Pair) (g rest : List Pair) → AllHaveKey k (p ∷ g) → AllAboveKey k rest → keys_of (p ∷ (g ++ rest)) ≡ k ∷ keys_of rest
keys_group k p [] rest h a = ap (λ l. add_key l (keys_of rest)) h.0 ∙ add_below k (keys_of rest) (below_keys k rest a)
keys_group k p (q ∷ g) rest h a = ap (λ l. add_key l (keys_of (q ∷ (g ++ rest)))) h.0 ∙ ap (add_key k) (keys_group k q g rest h.1 a) ∙ add_same k (keys_of rest)

group_values : (k : List ℕ) (g : List Pair) → AllHaveKey k g → values_of k g ≡ map (λ (p : Pair). p.val) g
group_values k [] h = refl
group_values k (p ∷ g) h =
    let e : bytes_eq k p.key ≡ true = ap (bytes_eq k) h.0 ∙ key_itself k in
    ap (λ b. map (λ (q : Pair). q.val) (cond b (p ∷ filter (λ q. bytes_eq k q.key) g) (filter (λ q. bytes_eq k q.key) g))) e
    ∙ ap (λ vs. p.val ∷ vs) (group_values k g h.1)

group_others : (k l : List ℕ) (g : List Pair) → key_cmp k l ≡ Less → AllHaveKey k g → has_key l g ≡ false
group_others k l [] e h = refl
group_others k l (p ∷ g) e h =
    let n : bytes_eq l p.key ≡ false = ap (bytes_eq l) h.0 ∙ texts_ties l k ∙ ap is_eq (key_total.antisymm l k) ∙ ap (λ (o : Ordering). is_eq (ordering_reverse o)) e in
    ap (λ b. b || has_key l g) n ∙ group_others k l g e h.1

flat_map_below : {X : Type 0} (k : List ℕ) (f g : List ℕ → List X) (ks : List (List ℕ)) → IsBelowAll k ks → ((l : List ℕ) → key_cmp k l ≡ Less → f l ≡ g l) → flat_map f ks ≡ flat_map g ks
flat_map_below k f g [] h e = refl
flat_map_below k f g (l ∷ ls) h e = ap (λ x. x ++ flat_map f ls) (e l h.0) ∙ ap (λ x. g l ++ x) (flat_map_below k f g ls h.1 e)

-- the pairs of the least key are reduced first
pub each_group : {X : Type 0} (f : List ℕ → List Val → List X) (k : List ℕ) (p : Pair) (g rest : List Pair) → AllHaveKey k (p ∷ g) → AllAboveKey k rest → for_each_key f (p ∷ (g ++ rest)) ≡ f k (ord val_cmp (map (λ (q : Pair). q.val) (p ∷ g))) ++ for_each_key f rest
each_group {X} f k p g rest h a =
    let all : List ℕ → List X = λ l. f l (ord val_cmp (values_of l (p ∷ (g ++ rest)))) in
    let later : List ℕ → List X = λ l. f l (ord val_cmp (values_of l rest)) in
    let first : values_of k (p ∷ (g ++ rest)) ≡ map (λ (q : Pair). q.val) (p ∷ g) ++ [] = values_of-append k (p ∷ g) rest ∙ ap (λ x. x ++ values_of k rest) (group_values k (p ∷ g) h) ∙ ap (λ x. map (λ (q : Pair). q.val) (p ∷ g) ++ x) (values_none k rest (not_above k rest a)) in
    let others : (l : List ℕ) → key_cmp k l ≡ Less → values_of l (p ∷ (g ++ rest)) ≡ values_of l rest = λ l e. values_of-append l (p ∷ g) rest ∙ ap (λ x. x ++ values_of l rest) (values_none l (p ∷ g) (group_others k l (p ∷ g) e h)) in
    ap (flat_map all) (keys_group k p g rest h a)
    ∙ ap (λ x. f k (ord val_cmp x) ++ flat_map all (keys_of rest)) (first ∙ append-nil (map (λ (q : Pair). q.val) (p ∷ g)))
    ∙ ap (λ x. f k (ord val_cmp (map (λ (q : Pair). q.val) (p ∷ g))) ++ x) (flat_map_below k all later (keys_of rest) (below_keys k rest a) (λ l e. ap (λ x. f l (ord val_cmp x)) (others l e)))
