-- The groups of pairs in order.
use Rattle.std.proofs.Common.{◌≡◌, ℕ, zero, suc, ◌+◌, ◌<◌, ◌≤◌, false, List, [], ◌∷◌, ◌++◌, length, map, get_or, take, drop, refl, sym, ap, ◌∙◌, subst, arith, append_assoc}
use Rattle.std.specs.Prelude.{IsSorted}
use Rattle.std.specs.Str.{bytes_eq}
use Rattle.std.specs.declared.cmp.Ordering.{Ordering}
use Rattle.std.specs.declared.cmp.Ordering.TheVariants.{Less, Equal, Greater}
use Rattle.std.specs.Ordering.{is_gt, is_eq, ordering_then}
use Rattle.std.specs.Cmp.{alike_right, tied_itself}
use Rattle.std.specs.Cmp.Lexicographic.{texts_ties}
use Rattle.std.proofs.lemmas.List.{take-append-drop}
use Rattle.std.proofs.lemmas.Bool.{true≢false}
use Rattle.hop_base.specs.declared.value.Val.{Val}
use Rattle.hop_base.specs.declared.value.Pair.{Pair}
use Rattle.hop_base.specs.Order.{key_cmp, val_cmp, pair_cmp}
use Rattle.hop_base.specs.Sorted.{ord}
use Rattle.hop_base.proofs.Sorted.{IsUptoAll, IsAscending, IsAscending-IsSorted, IsSorted-IsAscending, ord_ascending}
use Rattle.hop_base.proofs.OrderLaws.{key_total, val_total, val_exact, pair_total}
use Rattle.hop_laws.specs.Stands.{pairs_at, combined_pairs}
use Rattle.hop_laws.proofs.Values as values
use Rattle.hop_laws.specs.Groups.{for_each_key, first_key, AllHaveKey, AllAboveKey, IsFirstGroup}

-- k is above no key
abbrev KeyUpto : List ℕ → List Pair → Type 0
KeyUpto k [] = Unit {0}
KeyUpto k (p ∷ ps) = (is_gt (key_cmp k p.key) ≡ false) × KeyUpto k ps

first_upto : (o p : Ordering) → is_gt (ordering_then o p) ≡ false → is_gt o ≡ false
first_upto Less p e = refl
first_upto Equal p e = refl
first_upto Greater p e = e

keys_upto : (p : Pair) (ps : List Pair) → IsUptoAll pair_cmp p ps → KeyUpto p.key ps
keys_upto p [] h = tt
keys_upto p (q ∷ qs) h = (first_upto (key_cmp p.key q.key) (val_cmp p.val q.val) h.0, keys_upto p qs h.1)

only_less : (o : Ordering) → is_eq o ≡ false → is_gt o ≡ false → o ≡ Less
only_less Less e f = refl
only_less Equal e f = absurd (true≢false e)
only_less Greater e f = absurd (true≢false f)

-- below j, which is not above l
less_upto : (k j l : List ℕ) (o : Ordering) → key_cmp j l ≡ o → key_cmp k j ≡ Less → is_gt o ≡ false → key_cmp k l ≡ Less
less_upto k j l Less e h u = key_total.trans k j l h e
less_upto k j l Equal e h u = sym (alike_right key_total j l k e) ∙ h
less_upto k j l Greater e h u = absurd (true≢false u)

all_above : (k j : List ℕ) (ps : List Pair) → key_cmp k j ≡ Less → KeyUpto j ps → AllAboveKey k ps
all_above k j [] h u = tt
all_above k j (p ∷ ps) h u = (less_upto k j p.key (key_cmp j p.key) refl h u.0, all_above k j ps h u.1)

rest_above : (k : List ℕ) (ps : List Pair) (n : ℕ) (d : Pair) → IsAscending pair_cmp ps → KeyUpto k ps → (n < length ps → bytes_eq k (get_or ps n d).key ≡ false) → AllAboveKey k (drop n ps)
rest_above k [] zero d a u e = tt
rest_above k [] (suc n) d a u e = tt
rest_above k (p ∷ ps) zero d a u e =
    let less : key_cmp k p.key ≡ Less = only_less (key_cmp k p.key) (sym (texts_ties k p.key) ∙ e (omega arith)) u.0 in
    (less, all_above k p.key ps less (keys_upto p ps a.0))
rest_above k (p ∷ ps) (suc n) d a u e = rest_above k ps n d a.1 u.1 (λ h. e (omega arith))

upto_itself : (p : Pair) → is_gt (key_cmp p.key p.key) ≡ false
upto_itself p = ap is_gt (tied_itself key_total p.key)

-- where the first n pairs have the first key and the next one has not
pub IsFirstGroup-from : (ps : List Pair) (n : ℕ) (d : Pair) → IsSorted pair_cmp ps → 0 < n → n ≤ length ps → AllHaveKey (first_key ps) (take n ps) → (n < length ps → bytes_eq (first_key ps) (get_or ps n d).key ≡ false) → IsFirstGroup ps n
IsFirstGroup-from [] n d s some within together next = absurd (omega arith)
IsFirstGroup-from (p ∷ ps) n d s some within together next =
    let a : IsAscending pair_cmp (p ∷ ps) = IsAscending-IsSorted pair_cmp pair_total (p ∷ ps) s in
    record { some = some; within = within; together = together; above = rest_above p.key (p ∷ ps) n d a (upto_itself p, keys_upto p ps a.0) next }

-- one more pair of the key
pub together_more : (k : List ℕ) (ps : List Pair) (n : ℕ) (d : Pair) → n < length ps → AllHaveKey k (take n ps) → (get_or ps n d).key ≡ k → AllHaveKey k (take (n + 1) ps)
together_more k ps n d h t e = let s : n + 1 ≡ suc n = omega arith in subst (λ m. AllHaveKey k (take m ps)) (sym s) (more ps n h t e)
  where
    more : (ps : List Pair) (n : ℕ) → n < length ps → AllHaveKey k (take n ps) → (get_or ps n d).key ≡ k → AllHaveKey k (take (suc n) ps)
    more [] n h t e = absurd (omega arith)
    more (p ∷ ps) zero h t e = (e, tt)
    more (p ∷ ps) (suc n) h t e = (t.0, more ps n (omega arith) t.1 e)

pub together_one : (ps : List Pair) → 0 < length ps → AllHaveKey (first_key ps) (take 1 ps)
together_one [] h = absurd (omega arith)
together_one (p ∷ ps) h = (refl, tt)

-- ---- what a group gives

pub each_first : {X : Type 0} (f : List ℕ → List Val → List X) (ps : List Pair) (n : ℕ) → IsFirstGroup ps n → for_each_key f ps ≡ f (first_key ps) (ord val_cmp (map (λ (q : Pair). q.val) (take n ps))) ++ for_each_key f (drop n ps)
each_first f [] n g = absurd (omega (arith, g.some, g.within))
each_first f (p ∷ ps) zero g = absurd (omega (arith, g.some))
each_first f (p ∷ ps) (suc n) g =
    ap (λ qs. for_each_key f (p ∷ qs)) (sym (take-append-drop n ps))
    ∙ values.each_group f p.key p (take n ps) (drop n ps) g.together g.above

ascending_take : (ps : List Pair) (n : ℕ) → IsAscending pair_cmp ps → IsAscending pair_cmp (take n ps)
ascending_take [] zero a = tt
ascending_take [] (suc n) a = tt
ascending_take (p ∷ ps) zero a = tt
ascending_take (p ∷ ps) (suc n) a = (upto_take ps n a.0, ascending_take ps n a.1)
  where
    upto_take : (qs : List Pair) (n : ℕ) → IsUptoAll pair_cmp p qs → IsUptoAll pair_cmp p (take n qs)
    upto_take [] zero u = tt
    upto_take [] (suc n) u = tt
    upto_take (q ∷ qs) zero u = tt
    upto_take (q ∷ qs) (suc n) u = (u.0, upto_take qs n u.1)

ascending_drop : (ps : List Pair) (n : ℕ) → IsAscending pair_cmp ps → IsAscending pair_cmp (drop n ps)
ascending_drop [] zero a = tt
ascending_drop [] (suc n) a = tt
ascending_drop (p ∷ ps) zero a = a
ascending_drop (p ∷ ps) (suc n) a = ascending_drop ps n a.1

second_upto : (o p : Ordering) → o ≡ Equal → is_gt (ordering_then o p) ≡ false → is_gt p ≡ false
second_upto o p e h = subst (λ x. is_gt (ordering_then x p) ≡ false) e h

same_keys : (k l m : List ℕ) → l ≡ k → m ≡ k → key_cmp l m ≡ Equal
same_keys k l m e f = ap (λ x. key_cmp x m) e ∙ ap (key_cmp k) f ∙ tied_itself key_total k

values_upto : (k : List ℕ) (p : Pair) (ps : List Pair) → p.key ≡ k → AllHaveKey k ps → IsUptoAll pair_cmp p ps → IsUptoAll val_cmp p.val (map (λ (q : Pair). q.val) ps)
values_upto k p [] e h u = tt
values_upto k p (q ∷ qs) e h u = (second_upto (key_cmp p.key q.key) (val_cmp p.val q.val) (same_keys k p.key q.key e h.0) u.0, values_upto k p qs e h.1 u.1)

values_ascending : (k : List ℕ) (ps : List Pair) → AllHaveKey k ps → IsAscending pair_cmp ps → IsAscending val_cmp (map (λ (q : Pair). q.val) ps)
values_ascending k [] h a = tt
values_ascending k (p ∷ ps) h a = (values_upto k p ps h.0 h.1 a.0, values_ascending k ps h.1 a.1)

-- the values of a group are in order
pub group_sorted : (ps : List Pair) (n : ℕ) → IsSorted pair_cmp ps → IsFirstGroup ps n → IsSorted val_cmp (map (λ (q : Pair). q.val) (take n ps))
group_sorted ps n s g = IsSorted-IsAscending val_cmp val_total _ (values_ascending (first_key ps) (take n ps) g.together (ascending_take ps n (IsAscending-IsSorted pair_cmp pair_total ps s)))

pub group_ord : (ps : List Pair) (n : ℕ) → IsSorted pair_cmp ps → IsFirstGroup ps n → ord val_cmp (map (λ (q : Pair). q.val) (take n ps)) ≡ map (λ (q : Pair). q.val) (take n ps)
group_ord ps n s g = ord_ascending val_cmp val_total val_exact _ (values_ascending (first_key ps) (take n ps) g.together (ascending_take ps n (IsAscending-IsSorted pair_cmp pair_total ps s)))

pub sorted_drop : (ps : List Pair) (n : ℕ) → IsSorted pair_cmp ps → IsSorted pair_cmp (drop n ps)
sorted_drop ps n s = IsSorted-IsAscending pair_cmp pair_total (drop n ps) (ascending_drop ps n (IsAscending-IsSorted pair_cmp pair_total ps s))

pub first_at : (ps : List Pair) (d : Pair) → 0 < length ps → first_key ps ≡ (get_or ps 0 d).key
first_at [] d h = absurd (omega arith)
first_at (p ∷ ps) d h = refl

-- the key of the first pair of a group
pub first_of_group : (ps group : List Pair) (n : ℕ) (d : Pair) → IsFirstGroup ps n → group ≡ take n ps → first_key ps ≡ (get_or group 0 d).key
first_of_group [] group n d g e = absurd (omega (arith, g.some, g.within))
first_of_group (q ∷ ps) group zero d g e = absurd (omega (arith, g.some))
first_of_group (q ∷ ps) group (suc n) d g e = ap (λ qs. (get_or qs 0 d).key) (sym e)

-- one more group is done
pub told_more : {X : Type 0} (f : List ℕ → List Val → List X) (ps later : List Pair) (n : ℕ) (key : List ℕ) (vals : List Val) (done done' : List X) → IsSorted pair_cmp ps → IsFirstGroup ps n → first_key ps ≡ key → vals ≡ map (λ (q : Pair). q.val) (take n ps) → later ≡ drop n ps → done' ≡ done ++ f key vals → done' ++ for_each_key f later ≡ done ++ for_each_key f ps
told_more f ps later n key vals done done' s g k v l t =
    ap (λ x. x ++ for_each_key f later) t
    ∙ append_assoc done (f key vals) (for_each_key f later)
    ∙ ap (λ x. done ++ (x ++ for_each_key f later)) (ap (λ x. f x vals) (sym k) ∙ ap (f (first_key ps)) (v ∙ sym (group_ord ps n s g)))
    ∙ ap (λ x. done ++ (f (first_key ps) (ord val_cmp (map (λ (q : Pair). q.val) (take n ps))) ++ for_each_key f x)) l
    ∙ ap (λ x. done ++ x) (sym (each_first f ps n g))

-- the same where a group was combined
pub combined_more : (combine : List ℕ → List Val → List Val) (ps later : List Pair) (n : ℕ) (key : List ℕ) (vals combined : List Val) (done done' : List Pair) → IsSorted pair_cmp ps → IsFirstGroup ps n → first_key ps ≡ key → vals ≡ map (λ (q : Pair). q.val) (take n ps) → later ≡ drop n ps → combined ≡ combine key vals → done' ≡ done ++ pairs_at key combined → done' ++ combined_pairs combine later ≡ done ++ combined_pairs combine ps
combined_more combine ps later n key vals combined done done' s g k v l e t =
    told_more (λ k vs. pairs_at k (combine k vs)) ps later n key vals done done' s g k v l (t ∙ ap (λ x. done ++ pairs_at key x) e)
