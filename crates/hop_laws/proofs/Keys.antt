-- Distinct keys, ascending.
use Rattle.std.proofs.Common.{◌≡◌, ℕ, ◌+◌, Bool, true, false, cond, ◌||◌, if◌then◌else◌, List, [], ◌∷◌, ◌++◌, refl, sym, ap, ◌∙◌, subst, arith}
use Rattle.std.specs.declared.cmp.Ordering.{Ordering}
use Rattle.std.specs.declared.cmp.Ordering.TheVariants.{Less, Equal, Greater}
use Rattle.std.specs.Ordering.{is_gt, is_eq, ordering_reverse}
use Rattle.std.specs.Cmp.Lexicographic.{texts_ties}
use Rattle.std.specs.List.{list_any}
use Rattle.std.specs.Str.{bytes_eq}
use Rattle.std.specs.List.Sorted.{IsPermutation}
use Rattle.std.proofs.lemmas.Slice.Eq.{bytes_eq-Decides}
use Rattle.std.proofs.lemmas.List.Folds.{list_any-append}
use Rattle.std.proofs.lemmas.List.Sorted.{list_any-IsPermutation}
use Rattle.std.proofs.lemmas.Bool.{true≢false, false≢true}
use Rattle.hop_base.specs.declared.value.Pair.{Pair}
use Rattle.hop_base.specs.Order.{key_cmp}
use Rattle.hop_base.proofs.Sorted.{IsUptoAll, IsAscending, count, same_ascending}
use Rattle.hop_base.proofs.OrderLaws.{key_total, key_exact}
use Rattle.hop_laws.specs.Groups.{has_key, add_key, keys_of}

only_less : (o : Ordering) → is_eq o ≡ false → is_gt o ≡ false → o ≡ Less
only_less Less e f = refl
only_less Equal e f = absurd (true≢false e)
only_less Greater e f = absurd (true≢false f)

less_back : (o p : Ordering) → p ≡ ordering_reverse o → is_gt o ≡ true → p ≡ Less
less_back Less p t e = absurd (false≢true e)
less_back Equal p t e = absurd (false≢true e)
less_back Greater p t e = t

-- k is below each of the keys
abbrev pub IsBelowAll : List ℕ → List (List ℕ) → Type 0
IsBelowAll k [] = Unit {0}
IsBelowAll k (l ∷ ls) = (key_cmp k l ≡ Less) × IsBelowAll k ls

-- each key is below the later ones
abbrev pub IsStrict : List (List ℕ) → Type 0
IsStrict [] = Unit {0}
IsStrict (k ∷ ks) = IsBelowAll k ks × IsStrict ks

pub below_more : (j k : List ℕ) (ks : List (List ℕ)) → key_cmp j k ≡ Less → IsBelowAll k ks → IsBelowAll j ks
below_more j k [] e h = tt
below_more j k (l ∷ ls) e h = (key_total.trans j k l e h.0, below_more j k ls e h.1)

below_add_at : (j k l : List ℕ) (ls : List (List ℕ)) (b c : Bool) → key_cmp j k ≡ Less → IsBelowAll j (l ∷ ls) → IsBelowAll j (add_key k ls) → IsBelowAll j (cond b (l ∷ ls) (cond c (l ∷ add_key k ls) (k ∷ l ∷ ls)))
below_add_at j k l ls true c e h r = h
below_add_at j k l ls false true e h r = (h.0, r)
below_add_at j k l ls false false e h r = (e, h)

pub below_add : (j k : List ℕ) (ks : List (List ℕ)) → key_cmp j k ≡ Less → IsBelowAll j ks → IsBelowAll j (add_key k ks)
below_add j k [] e h = (e, tt)
below_add j k (l ∷ ls) e h = below_add_at j k l ls (bytes_eq k l) (is_gt (key_cmp k l)) e h (below_add j k ls e h.1)

strict_add_at : (k l : List ℕ) (ls : List (List ℕ)) (b c : Bool) → bytes_eq k l ≡ b → is_gt (key_cmp k l) ≡ c → IsStrict (l ∷ ls) → IsStrict (add_key k ls) → IsStrict (cond b (l ∷ ls) (cond c (l ∷ add_key k ls) (k ∷ l ∷ ls)))
strict_add_at k l ls true c e f h r = h
strict_add_at k l ls false true e f h r = (below_add l k ls (less_back (key_cmp k l) (key_cmp l k) (key_total.antisymm l k) f) h.0, r)
strict_add_at k l ls false false e f h r =
    let less : key_cmp k l ≡ Less = only_less (key_cmp k l) (sym (texts_ties k l) ∙ e) f in
    ((less, below_more k l ls less h.0), h)

pub strict_add : (k : List ℕ) (ks : List (List ℕ)) → IsStrict ks → IsStrict (add_key k ks)
strict_add k [] h = (tt, tt)
strict_add k (l ∷ ls) h = strict_add_at k l ls (bytes_eq k l) (is_gt (key_cmp k l)) refl refl h (strict_add k ls h.1)

pub strict_keys : (ps : List Pair) → IsStrict (keys_of ps)
strict_keys [] = tt
strict_keys (p ∷ ps) = strict_add p.key (keys_of ps) (strict_keys ps)

or_same : (a x : Bool) → (a || x) ≡ (a || (a || x))
or_same true x = refl
or_same false x = refl

or_swap : (a b x : Bool) → (a || (b || x)) ≡ (b || (a || x))
or_swap true true x = refl
or_swap true false x = refl
or_swap false b x = refl

has_add_at : (j k l : List ℕ) (ls : List (List ℕ)) (b c : Bool) → bytes_eq k l ≡ b → list_any (bytes_eq j) (add_key k ls) ≡ (bytes_eq j k || list_any (bytes_eq j) ls) → list_any (bytes_eq j) (cond b (l ∷ ls) (cond c (l ∷ add_key k ls) (k ∷ l ∷ ls))) ≡ (bytes_eq j k || list_any (bytes_eq j) (l ∷ ls))
has_add_at j k l ls true c e r =
    subst (λ m. list_any (bytes_eq j) (l ∷ ls) ≡ (bytes_eq j m || list_any (bytes_eq j) (l ∷ ls))) (sym ((bytes_eq-Decides k l).0 e)) (or_same (bytes_eq j l) (list_any (bytes_eq j) ls))
has_add_at j k l ls false true e r = ap (λ x. bytes_eq j l || x) r ∙ or_swap (bytes_eq j l) (bytes_eq j k) (list_any (bytes_eq j) ls)
has_add_at j k l ls false false e r = refl

pub has_add : (j k : List ℕ) (ks : List (List ℕ)) → list_any (bytes_eq j) (add_key k ks) ≡ (bytes_eq j k || list_any (bytes_eq j) ks)
has_add j k [] = refl
has_add j k (l ∷ ls) = has_add_at j k l ls (bytes_eq k l) (is_gt (key_cmp k l)) refl (has_add j k ls)

pub has_keys : (j : List ℕ) (ps : List Pair) → list_any (bytes_eq j) (keys_of ps) ≡ has_key j ps
has_keys j [] = refl
has_keys j (p ∷ ps) = has_add j p.key (keys_of ps) ∙ ap (λ x. bytes_eq j p.key || x) (has_keys j ps)

pub not_below : (k : List ℕ) (ks : List (List ℕ)) → IsBelowAll k ks → list_any (bytes_eq k) ks ≡ false
not_below k [] h = refl
not_below k (l ∷ ls) h = ap (λ x. x || list_any (bytes_eq k) ls) (texts_ties k l ∙ ap is_eq h.0) ∙ not_below k ls h.1

count_at : (k l : List ℕ) (ls : List (List ℕ)) (b : Bool) → bytes_eq k l ≡ b → IsBelowAll l ls → count key_cmp k ls ≡ (if list_any (bytes_eq k) ls then 1 else 0) → (if b then 1 else 0) + count key_cmp k ls ≡ (if (b || list_any (bytes_eq k) ls) then 1 else 0)
count_at k l ls true e h r =
    let none : list_any (bytes_eq k) ls ≡ false = subst (λ m. list_any (bytes_eq m) ls ≡ false) (sym ((bytes_eq-Decides k l).0 e)) (not_below l ls h) in
    omega (arith, r ∙ ap {B = ℕ} (λ b. if b then 1 else 0) none)
count_at k l ls false e h r = omega (arith, r)

count_strict : (k : List ℕ) (ks : List (List ℕ)) → IsStrict ks → count key_cmp k ks ≡ (if list_any (bytes_eq k) ks then 1 else 0)
count_strict k [] h = refl
count_strict k (l ∷ ls) h =
    ap (λ b. (if b then 1 else 0) + count key_cmp k ls) (sym (texts_ties k l)) ∙ count_at k l ls (bytes_eq k l) refl h.0 (count_strict k ls h.1)

below_upto : (k : List ℕ) (ks : List (List ℕ)) → IsBelowAll k ks → IsUptoAll key_cmp k ks
below_upto k [] h = tt
below_upto k (l ∷ ls) h = (ap is_gt h.0, below_upto k ls h.1)

strict_ascending : (ks : List (List ℕ)) → IsStrict ks → IsAscending key_cmp ks
strict_ascending [] h = tt
strict_ascending (k ∷ ks) h = (below_upto k ks h.0, strict_ascending ks h.1)

-- distinct ascending keys are determined by which keys are among them
pub strict_same : (xs ys : List (List ℕ)) → IsStrict xs → IsStrict ys → ((k : List ℕ) → list_any (bytes_eq k) xs ≡ list_any (bytes_eq k) ys) → xs ≡ ys
strict_same xs ys h k e =
    same_ascending key_cmp key_total key_exact xs ys (strict_ascending xs h) (strict_ascending ys k)
    (record { counts = λ x. count_strict x xs h ∙ ap (λ b. if b then 1 else 0) (e x) ∙ sym (count_strict x ys k) })

pub keys_same : (ps qs : List Pair) → ((k : List ℕ) → has_key k ps ≡ has_key k qs) → keys_of ps ≡ keys_of qs
keys_same ps qs e = strict_same _ _ (strict_keys ps) (strict_keys qs) (λ k. has_keys k ps ∙ e k ∙ sym (has_keys k qs))

pub has_same : (ps qs : List Pair) → keys_of ps ≡ keys_of qs → (k : List ℕ) → has_key k ps ≡ has_key k qs
has_same ps qs e k = sym (has_keys k ps) ∙ ap (list_any (bytes_eq k)) e ∙ has_keys k qs

pub has_key-append : (k : List ℕ) (ps qs : List Pair) → has_key k (ps ++ qs) ≡ (has_key k ps || has_key k qs)
has_key-append k ps qs = list_any-append (λ p. bytes_eq k p.key) ps qs

pub has_key-IsPermutation : (k : List ℕ) (ps qs : List Pair) → IsPermutation ps qs → has_key k ps ≡ has_key k qs
has_key-IsPermutation k ps qs h = list_any-IsPermutation (λ p. bytes_eq k p.key) ps qs h
