-- What one event more, or a merge, leaves of the runs.
use Rattle.std.proofs.Common.{◌≡◌, ◌≢◌, ℕ, zero, suc, ◌+◌, ◌<◌, ◌⊎◌, inl, inr, Bool, true, false, not, cond, if◌then◌else◌, Option, Some, None, List, [], ◌∷◌, ◌++◌, length, map, filter, get_or, set, take, drop, refl, sym, ap, ◌∙◌, subst, arith, eqb, ◌||◌}
use Rattle.std.specs.Prelude.{All, AllPairs}
use Rattle.std.specs.List.{sum_by, remove, AllByRecursion}
use Rattle.std.proofs.lemmas.Bool.{cases_eq, true≢false}
use Rattle.std.proofs.lemmas.Bool.Decides.{nat_tests}
use Rattle.std.proofs.lemmas.List.Elements.{All-set, All-take, All-drop, filter-append, All-push, All-append, All-weaker, All-map, All-filter, filter_passes, All-from_recursion, recursion_from_All}
use Rattle.std.proofs.lemmas.List.Concat.{flat_map-append}
use Rattle.std.proofs.lemmas.List.Quantifiers.{all_pairs_push, all_pairs_remove}
use Rattle.std.proofs.lemmas.List.{append-nil, length-map, get_or-map, get_or-set_other, get_or-set_same, length-set, get_or_default}
use Rattle.std.proofs.lemmas.List.Sums.{sum_by-cons, sum_by-set, sum_by-remove}
use Rattle.hop_base.specs.Sorted.{ord}
use Rattle.hop_base.proofs.Sorted.{SameItems, SameItems-ord, SameItems-sym, SameItems-append, SameItems-refl, ord_same, count, count-append, All-ord}
use Rattle.hop_base.specs.declared.part.Part.{Part}
use Rattle.hop_run.specs.Runs.{RunValue}
use Rattle.hop_event.specs.declared.event.Event.{Event}
use Rattle.hop_event.specs.declared.event.Event.TheVariants.{Arrive, Ignore, Won, Revoked, Restart}
use Rattle.hop_event.specs.declared.event.Via.{Via}
use Rattle.hop_event.specs.History.{upto, winner, is_revoked, same_attempt}
use Rattle.hop_shelf.specs.declared.kept.Kept.{Kept}
use Rattle.hop_shelf.specs.declared.kept.Owner.{Owner}
use Rattle.hop_shelf.specs.declared.kept.Owner.TheVariants.{Committed, Attempt}
use Rattle.hop_shelf.specs.Kept.{all_parts, owned_by, is_other, committed_by, kept_at, no_kept}
use Rattle.hop_shelf.specs.Parts.{part_cmp, is_of, parts_of, IsChain}
use Rattle.hop_shelf.specs.Sound.{AreOwned, IsKept, IsConsecutive, RunsFit}
use Rattle.hop_shelf.proofs.Chains.{AllOf, ord_chain, chain-append, part_total, part_exact}

-- ---- tests on attempts

pub same_yes : (j b i a : ℕ) → j ≡ i → b ≡ a → same_attempt j b i a ≡ true
same_yes j b i a e f = grind (arith, nat_tests)

pub same_no : (j b i a : ℕ) → (j ≡ i → b ≡ a → ⊥) → same_attempt j b i a ≡ false
same_no j b i a h = grind (arith, nat_tests)

pub same_means : (j b i a : ℕ) → same_attempt j b i a ≡ true → (j ≡ i) × (b ≡ a)
same_means j b i a h = (grind (arith, nat_tests), grind (arith, nat_tests))

pub same_cases : (j b i a : ℕ) → ((j ≡ i) × (b ≡ a)) ⊎ (j ≡ i → b ≡ a → ⊥)
same_cases j b i a = both (cases_eq j i) (cases_eq b a)
  where
    both : (j ≡ i) ⊎ (j ≢ i) → (b ≡ a) ⊎ (b ≢ a) → ((j ≡ i) × (b ≡ a)) ⊎ (j ≡ i → b ≡ a → ⊥)
    both (inl e) (inl f) = inl (e, f)
    both (inl e) (inr f) = inr (λ x y. f y)
    both (inr e) f = inr (λ x y. e x)

-- ---- filtered parts

filter_all : (i a : ℕ) (qs : List Part) → AllOf i a qs → filter (is_of i a) qs ≡ qs
filter_all i a [] h = refl
filter_all i a (q ∷ qs) h = ap {B = List Part} (λ (b : Bool). cond b (q ∷ filter (is_of i a) qs) (filter (is_of i a) qs)) (same_yes q.split q.attempt i a h.0.0 h.0.1) ∙ ap (λ rest. q ∷ rest) (filter_all i a qs h.1)

filter_none : (i a : ℕ) (qs : List Part) → AllByRecursion (λ q. q.split ≡ i → q.attempt ≡ a → ⊥) qs → filter (is_of i a) qs ≡ []
filter_none i a [] h = refl
filter_none i a (q ∷ qs) h = ap {B = List Part} (λ (b : Bool). cond b (q ∷ filter (is_of i a) qs) (filter (is_of i a) qs)) (same_no q.split q.attempt i a h.0) ∙ filter_none i a qs h.1

all_of_filtered : (i a : ℕ) (qs : List Part) → AllOf i a (filter (is_of i a) qs)
all_of_filtered i a qs = recursion_from_All (λ q. (q.split ≡ i) × (q.attempt ≡ a)) _ (All-weaker (λ q. is_of i a q ≡ true) (λ q. (q.split ≡ i) × (q.attempt ≡ a)) (λ q. same_means q.split q.attempt i a) _ (filter_passes (is_of i a) qs))

pub parts_all_of : (i a : ℕ) (qs : List Part) → AllOf i a (parts_of i a qs)
parts_all_of i a qs = recursion_from_All (λ q. (q.split ≡ i) × (q.attempt ≡ a)) _ (All-ord part_cmp (λ q. (q.split ≡ i) × (q.attempt ≡ a)) _ (All-from_recursion (λ q. (q.split ≡ i) × (q.attempt ≡ a)) _ (all_of_filtered i a qs)))

all_of_append : (i a : ℕ) (xs ys : List Part) → AllOf i a xs → AllOf i a ys → AllOf i a (xs ++ ys)
all_of_append i a [] ys h k = k
all_of_append i a (x ∷ xs) ys h k = (h.0, all_of_append i a xs ys h.1 k)

other_attempts : (i a j b : ℕ) (qs : List Part) → (j ≡ i → b ≡ a → ⊥) → AllOf j b qs → AllByRecursion (λ (q : Part). q.split ≡ i → q.attempt ≡ a → ⊥) qs
other_attempts i a j b [] differ h = tt
other_attempts i a j b (q ∷ qs) differ h = ((λ e f. differ (sym h.0.0 ∙ e) (sym h.0.1 ∙ f)), other_attempts i a j b qs differ h.1)

-- ---- an arrival

-- a range of the attempt that goes on where it ended
pub chain_more : (i a u t : ℕ) (qs new : List Part) → IsChain 0 u (parts_of i a qs) → IsChain u t new → AllOf i a new → IsChain 0 t (parts_of i a (qs ++ new))
chain_more i a u t qs new c d h =
    let e = filter-append (is_of i a) qs new ∙ ap (λ n. filter (is_of i a) qs ++ n) (filter_all i a new h) in
    let joined = chain-append 0 u t (parts_of i a qs) new c d in
    let all : AllOf i a (parts_of i a qs ++ new) = all_of_append i a (parts_of i a qs) new (parts_all_of i a qs) h in
    let same = SameItems-append part_cmp _ _ _ _ (SameItems-sym part_cmp _ _ (SameItems-ord part_cmp (filter (is_of i a) qs))) (SameItems-refl part_cmp new) in
    subst (IsChain 0 t) (sym (ap (ord part_cmp) e ∙ ord_chain i a 0 t (filter (is_of i a) qs ++ new) (parts_of i a qs ++ new) same joined all)) joined

pub chain_other : (i a j b t : ℕ) (qs new : List Part) → (j ≡ i → b ≡ a → ⊥) → AllOf j b new → IsChain 0 t (parts_of i a qs) → IsChain 0 t (parts_of i a (qs ++ new))
chain_other i a j b t qs new differ h c =
    let e = filter-append (is_of i a) qs new ∙ ap (λ n. filter (is_of i a) qs ++ n) (filter_none i a new (other_attempts i a j b new differ h)) ∙ append-nil (filter (is_of i a) qs) in
    subst (λ l. IsChain 0 t (ord part_cmp l)) (sym e) c

all_parts_push : (kept : List Kept) (k : Kept) → all_parts (kept ++ k ∷ []) ≡ all_parts kept ++ k.run.parts
all_parts_push kept k = flat_map-append (λ (k : Kept). k.run.parts) kept (k ∷ []) ∙ ap (λ ps. all_parts kept ++ ps) (append-nil k.run.parts)

consecutive_arrived : (h : List Event) (kept : List Kept) (part : Part) (via : Via) (k : Kept) → IsConsecutive h kept → part.from ≡ upto part.split part.attempt h → IsChain part.from part.to k.run.parts → AllOf part.split part.attempt k.run.parts → (i a : ℕ) → ((part.split ≡ i) × (part.attempt ≡ a)) ⊎ (part.split ≡ i → part.attempt ≡ a → ⊥) → IsChain 0 (upto i a (Arrive part via ∷ h)) (parts_of i a (all_parts kept ++ k.run.parts))
consecutive_arrived h kept part via k c e d all i a (inl s) =
    let u : upto i a (Arrive part via ∷ h) ≡ part.to = ap {B = ℕ} (λ (b : Bool). cond b part.to (upto i a h)) (same_yes part.split part.attempt i a s.0 s.1) in
    let f : part.from ≡ upto i a h = subst (λ j. part.from ≡ upto j a h) s.0 (subst (λ b. part.from ≡ upto part.split b h) s.1 e) in
    let all' : AllOf i a k.run.parts = subst (λ j. AllOf j a k.run.parts) s.0 (subst (λ b. AllOf part.split b k.run.parts) s.1 all) in
    subst (λ n. IsChain 0 n (parts_of i a (all_parts kept ++ k.run.parts))) (sym u) (chain_more i a (upto i a h) part.to (all_parts kept) k.run.parts (c i a) (subst (λ n. IsChain n part.to k.run.parts) f d) all')
consecutive_arrived h kept part via k c e d all i a (inr differ) =
    let u : upto i a (Arrive part via ∷ h) ≡ upto i a h = ap {B = ℕ} (λ (b : Bool). cond b part.to (upto i a h)) (same_no part.split part.attempt i a differ) in
    subst (λ n. IsChain 0 n (parts_of i a (all_parts kept ++ k.run.parts))) (sym u) (chain_other i a part.split part.attempt (upto i a h) (all_parts kept) k.run.parts differ all (c i a))

owned_arrived : (h : List Event) (part : Part) (via : Via) (parts : List Part) (o : Owner) → AreOwned h parts o → AreOwned (Arrive part via ∷ h) parts o
owned_arrived h part via parts Committed w = w
owned_arrived h part via parts (Attempt i a) w = w

kept_arrived : (h : List Event) (part : Part) (via : Via) (k : Kept) → IsKept h k → IsKept (Arrive part via ∷ h) k
kept_arrived h part via k w = record { number = omega (arith, w.number); owned = owned_arrived h part via k.run.parts k.owner w.owned }

-- a run that came with the event
pub arrived_fit : (h : List Event) (kept : List Kept) (part : Part) (via : Via) (k : Kept) → RunsFit h kept → part.from ≡ upto part.split part.attempt h → IsChain part.from part.to k.run.parts → AllOf part.split part.attempt k.run.parts → k.number ≡ length h → AreOwned h k.run.parts k.owner → RunsFit (Arrive part via ∷ h) (kept ++ k ∷ [])
arrived_fit h kept part via k r e d all n o = record {
  each = All-push (IsKept (Arrive part via ∷ h)) kept k (All-weaker (IsKept h) (IsKept (Arrive part via ∷ h)) (kept_arrived h part via) kept r.each) (record { number = omega (arith, n); owned = owned_arrived h part via k.run.parts k.owner o });
  apart = all_pairs_push (λ (k l : Kept). k.number ≢ l.number) kept k r.apart (λ i x l same. absurd (omega (arith, (r.each i x l).number, n, same)));
  consecutive = λ i a. subst (λ ps. IsChain 0 (upto i a (Arrive part via ∷ h)) (parts_of i a ps)) (sym (all_parts_push kept k)) (consecutive_arrived h kept part via k r.consecutive e d all i a (same_cases part.split part.attempt i a));
}

-- ---- a range that is ignored

owned_ignored : (h : List Event) (part : Part) (via : Via) (have : ℕ) (parts : List Part) (o : Owner) → AreOwned h parts o → AreOwned (Ignore part via have ∷ h) parts o
owned_ignored h part via have parts Committed w = w
owned_ignored h part via have parts (Attempt i a) w = w

pub ignored_fit : (h : List Event) (kept : List Kept) (part : Part) (via : Via) (have : ℕ) → RunsFit h kept → RunsFit (Ignore part via have ∷ h) kept
ignored_fit h kept part via have r = record {
  each = All-weaker (IsKept h) (IsKept (Ignore part via have ∷ h)) (λ k w. record { number = omega (arith, w.number); owned = owned_ignored h part via have k.run.parts k.owner w.owned }) kept r.each;
  apart = r.apart;
  consecutive = r.consecutive;
}

-- ---- a restart

pub restarted_fit : (h : List Event) → RunsFit (Restart ∷ h) []
restarted_fit h = record { each = λ k d l. absurd (omega (arith, l)); apart = λ i j d l m. absurd (omega (arith, m)); consecutive = λ i a. refl }

-- ---- an attempt that won

parts_committed : (i a : ℕ) (k : Kept) (b : Bool) → (if b then record k { owner = Committed } else k).run.parts ≡ k.run.parts
parts_committed i a k true = refl
parts_committed i a k false = refl

number_committed : (i a : ℕ) (k : Kept) (b : Bool) → (if b then record k { owner = Committed } else k).number ≡ k.number
number_committed i a k true = refl
number_committed i a k false = refl

all_parts_committed : (i a : ℕ) (kept : List Kept) → all_parts (map (committed_by i a) kept) ≡ all_parts kept
all_parts_committed i a [] = refl
all_parts_committed i a (k ∷ kept) =
    let e = parts_committed i a k (owned_by i a k.owner) in
    let f = all_parts_committed i a kept in
    cc

apart_map : (f : Kept → Kept) (kept : List Kept) → ((k : Kept) → (f k).number ≡ k.number) → AllPairs (λ (k l : Kept). k.number ≢ l.number) kept → AllPairs (λ (k l : Kept). k.number ≢ l.number) (map f kept)
apart_map f kept e h = λ i j d l m same.
    let n = length-map kept f in
    let inside : j < length kept = omega (arith, m, n) in
    let before : i < length kept = omega arith in
    let at_i = ap (λ (k : Kept). k.number) (get_or-map f kept i d d before) ∙ e (get_or kept i d) in
    let at_j = ap (λ (k : Kept). k.number) (get_or-map f kept j d d inside) ∙ e (get_or kept j d) in
    h i j d l inside (sym at_i ∙ same ∙ at_j)

winner_by : (i a j b : ℕ) (w : Option ℕ) → w ≡ Some b → (i ≡ j → w ≡ None) → (i ≡ j) ⊎ (i ≢ j) → (if eqb i j then Some a else w) ≡ Some b
winner_by i a j b w e n (inl s) = absurd (let n' = n s in (cc))
winner_by i a j b w e n (inr s) = let f : eqb i j ≡ false = grind (arith, nat_tests) in ap {B = Option ℕ} (λ (t : Bool). cond t (Some a) w) f ∙ e

winner_kept : (h : List Event) (i a j b : ℕ) → winner i h ≡ None → winner j h ≡ Some b → winner j (Won i a ∷ h) ≡ Some b
winner_kept h i a j b n w = winner_by i a j b (winner j h) w (λ e. subst (λ k. winner k h ≡ None) e n) (cases_eq i j)

winner_new : (h : List Event) (i a : ℕ) → winner i (Won i a ∷ h) ≡ Some a
winner_new h i a = let f : eqb i i ≡ true = grind (arith, nat_tests) in ap {B = Option ℕ} (λ (t : Bool). cond t (Some a) (winner i h)) f

loser_by : (i a j b : ℕ) (w : Option ℕ) → same_attempt j b i a ≡ false → (w ≡ Some b → ⊥) → (if eqb i j then Some a else w) ≡ Some b → (i ≡ j) ⊎ (i ≢ j) → ⊥
loser_by i a j b w differ n e (inl s) =
    let f : eqb i j ≡ true = grind (arith, nat_tests) in
    let g : Some a ≡ Some b = sym (ap {B = Option ℕ} (λ (t : Bool). cond t (Some a) w) f) ∙ e in
    let same : a ≡ b = cc in
    true≢false (sym (same_yes j b i a (sym s) (sym same)) ∙ differ)
loser_by i a j b w differ n e (inr s) = let f : eqb i j ≡ false = grind (arith, nat_tests) in n (sym (ap {B = Option ℕ} (λ (t : Bool). cond t (Some a) w) f) ∙ e)

owned_parts : (h : List Event) (i a : ℕ) (parts : List Part) (o : Owner) → owned_by i a o ≡ true → AreOwned h parts o → All (λ q. (q.split ≡ i) × (q.attempt ≡ a)) parts
owned_parts h i a parts Committed e w = absurd (true≢false (sym e))
owned_parts h i a parts (Attempt j b) e w =
    let s = same_means j b i a e in
    All-weaker (λ q. (q.split ≡ j) × (q.attempt ≡ b)) (λ q. (q.split ≡ i) × (q.attempt ≡ a)) (λ q p. (p.0 ∙ s.0, p.1 ∙ s.1)) parts w.0

owned_still : (h : List Event) (i a : ℕ) (parts : List Part) (o : Owner) → winner i h ≡ None → owned_by i a o ≡ false → AreOwned h parts o → AreOwned (Won i a ∷ h) parts o
owned_still h i a parts Committed n e w = All-weaker (λ q. winner q.split h ≡ Some q.attempt) (λ q. winner q.split (Won i a ∷ h) ≡ Some q.attempt) (λ q p. winner_kept h i a q.split q.attempt n p) parts w
owned_still h i a parts (Attempt j b) n e w = (w.0, w.1, λ win. loser_by i a j b (winner j h) e w.2 win (cases_eq i j))

kept_won : (h : List Event) (i a : ℕ) (k : Kept) (b : Bool) → winner i h ≡ None → owned_by i a k.owner ≡ b → IsKept h k → IsKept (Won i a ∷ h) (if b then record k { owner = Committed } else k)
kept_won h i a k true n e w = record {
  number = omega (arith, w.number);
  owned = All-weaker (λ q. (q.split ≡ i) × (q.attempt ≡ a)) (λ q. winner q.split (Won i a ∷ h) ≡ Some q.attempt) (λ q p. subst (λ j. winner j (Won i a ∷ h) ≡ Some q.attempt) (sym p.0) (winner_new h i a ∙ ap (λ c. Some c) (sym p.1))) k.run.parts (owned_parts h i a k.run.parts k.owner e w.owned);
}
kept_won h i a k false n e w = record { number = omega (arith, w.number); owned = owned_still h i a k.run.parts k.owner n e w.owned }

-- the winner's runs are committed
pub won_fit : (h : List Event) (kept : List Kept) (i a : ℕ) → winner i h ≡ None → RunsFit h kept → RunsFit (Won i a ∷ h) (map (committed_by i a) kept)
won_fit h kept i a n r = record {
  each = All-map (IsKept (Won i a ∷ h)) (committed_by i a) kept (All-weaker (IsKept h) (λ k. IsKept (Won i a ∷ h) (committed_by i a k)) (λ k w. kept_won h i a k (owned_by i a k.owner) n refl w) kept r.each);
  apart = apart_map (committed_by i a) kept (λ k. number_committed i a k (owned_by i a k.owner)) r.apart;
  consecutive = λ j b. subst (λ ps. IsChain 0 (upto j b h) (parts_of j b ps)) (sym (all_parts_committed i a kept)) (r.consecutive j b);
}

-- ---- an attempt that was revoked

none_committed : (h : List Event) (i a : ℕ) (parts : List Part) → (winner i h ≡ Some a → ⊥) → AllByRecursion (λ (q : Part). winner q.split h ≡ Some q.attempt) parts → AllByRecursion (λ (q : Part). q.split ≡ i → q.attempt ≡ a → ⊥) parts
none_committed h i a [] loses w = tt
none_committed h i a (q ∷ parts) loses w = ((λ e f. loses (subst (λ j. winner j h ≡ Some a) e (w.0 ∙ ap (λ c. Some c) f))), none_committed h i a parts loses w.1)

-- a run of another owner has none of the attempt's parts
none_owned : (h : List Event) (i a : ℕ) (parts : List Part) (o : Owner) → (winner i h ≡ Some a → ⊥) → owned_by i a o ≡ false → AreOwned h parts o → filter (is_of i a) parts ≡ []
none_owned h i a parts Committed loses e w = filter_none i a parts (none_committed h i a parts loses (recursion_from_All (λ (q : Part). winner q.split h ≡ Some q.attempt) parts w))
none_owned h i a parts (Attempt j b) loses e w = filter_none i a parts (other_attempts i a j b parts (λ x y. true≢false (sym (same_yes j b i a x y) ∙ e)) (recursion_from_All (λ (q : Part). (q.split ≡ j) × (q.attempt ≡ b)) parts w.0))

-- the attempt's runs have no parts of others
none_other : (h : List Event) (i a j b : ℕ) (parts : List Part) (o : Owner) → (i ≡ j → a ≡ b → ⊥) → owned_by i a o ≡ true → AreOwned h parts o → filter (is_of j b) parts ≡ []
none_other h i a j b parts o differ e w = filter_none j b parts (other_attempts j b i a parts differ (recursion_from_All (λ (q : Part). (q.split ≡ i) × (q.attempt ≡ a)) parts (owned_parts h i a parts o e w)))

own_gone_step : (h : List Event) (i a : ℕ) (k : Kept) (rest : List Kept) (b : Bool) → owned_by i a k.owner ≡ b → (winner i h ≡ Some a → ⊥) → AreOwned h k.run.parts k.owner → filter (is_of i a) (all_parts rest) ≡ [] → filter (is_of i a) (all_parts (cond (not b) (k ∷ rest) rest)) ≡ []
own_gone_step h i a k rest true e loses w ih = ih
own_gone_step h i a k rest false e loses w ih = filter-append (is_of i a) k.run.parts (all_parts rest) ∙ ap (λ ps. ps ++ filter (is_of i a) (all_parts rest)) (none_owned h i a k.run.parts k.owner loses e w) ∙ ih

own_gone : (h : List Event) (i a : ℕ) (kept : List Kept) → (winner i h ≡ Some a → ⊥) → AllByRecursion (IsKept h) kept → filter (is_of i a) (all_parts (filter (is_other i a) kept)) ≡ []
own_gone h i a [] loses r = refl
own_gone h i a (k ∷ kept) loses r = own_gone_step h i a k (filter (is_other i a) kept) (owned_by i a k.owner) refl loses r.0.owned (own_gone h i a kept loses r.1)

others_stay_step : (h : List Event) (i a j b : ℕ) (k : Kept) (rest kept : List Kept) (t : Bool) → owned_by i a k.owner ≡ t → (i ≡ j → a ≡ b → ⊥) → AreOwned h k.run.parts k.owner → filter (is_of j b) (all_parts rest) ≡ filter (is_of j b) (all_parts kept) → filter (is_of j b) (all_parts (cond (not t) (k ∷ rest) rest)) ≡ filter (is_of j b) (all_parts (k ∷ kept))
others_stay_step h i a j b k rest kept true e differ w ih = ih ∙ sym (filter-append (is_of j b) k.run.parts (all_parts kept) ∙ ap (λ ps. ps ++ filter (is_of j b) (all_parts kept)) (none_other h i a j b k.run.parts k.owner differ e w))
others_stay_step h i a j b k rest kept false e differ w ih = filter-append (is_of j b) k.run.parts (all_parts rest) ∙ ap (λ ps. filter (is_of j b) k.run.parts ++ ps) ih ∙ sym (filter-append (is_of j b) k.run.parts (all_parts kept))

others_stay : (h : List Event) (i a j b : ℕ) (kept : List Kept) → (i ≡ j → a ≡ b → ⊥) → AllByRecursion (IsKept h) kept → filter (is_of j b) (all_parts (filter (is_other i a) kept)) ≡ filter (is_of j b) (all_parts kept)
others_stay h i a j b [] differ r = refl
others_stay h i a j b (k ∷ kept) differ r = others_stay_step h i a j b k (filter (is_other i a) kept) kept (owned_by i a k.owner) refl differ r.0.owned (others_stay h i a j b kept differ r.1)

revoked_still : (h : List Event) (i a : ℕ) (parts : List Part) (o : Owner) → owned_by i a o ≡ false → AreOwned h parts o → AreOwned (Revoked i a ∷ h) parts o
revoked_still h i a parts Committed e w = w
revoked_still h i a parts (Attempt j b) e w =
    let f : same_attempt i a j b ≡ false = same_no i a j b (λ x y. true≢false (sym (same_yes j b i a (sym x) (sym y)) ∙ e)) in
    (w.0, ap {B = Bool} (λ (t : Bool). t || is_revoked j b h) f ∙ w.1, w.2)

each_revoked_step : (h : List Event) (i a : ℕ) (k : Kept) (rest : List Kept) (t : Bool) → owned_by i a k.owner ≡ t → IsKept h k → AllByRecursion (IsKept (Revoked i a ∷ h)) rest → AllByRecursion (IsKept (Revoked i a ∷ h)) (cond (not t) (k ∷ rest) rest)
each_revoked_step h i a k rest true e w r = r
each_revoked_step h i a k rest false e w r = (record { number = omega (arith, w.number); owned = revoked_still h i a k.run.parts k.owner e w.owned }, r)

each_revoked : (h : List Event) (i a : ℕ) (kept : List Kept) → AllByRecursion (IsKept h) kept → AllByRecursion (IsKept (Revoked i a ∷ h)) (filter (is_other i a) kept)
each_revoked h i a [] r = tt
each_revoked h i a (k ∷ kept) r = each_revoked_step h i a k (filter (is_other i a) kept) (owned_by i a k.owner) refl r.0 (each_revoked h i a kept r.1)

-- numbers apart, by recursion
abbrev NumberedApart : List Kept → Type 0
NumberedApart [] = Unit {0}
NumberedApart (k ∷ kept) = AllByRecursion (λ (l : Kept). k.number ≢ l.number) kept × NumberedApart kept

pub apart_by_recursion : (kept : List Kept) → AllPairs (λ (k l : Kept). k.number ≢ l.number) kept → NumberedApart kept
apart_by_recursion [] h = tt
apart_by_recursion (k ∷ kept) h =
    (recursion_from_All (λ (l : Kept). k.number ≢ l.number) kept (λ j d l. h 0 (suc j) d (omega arith) (omega arith)), apart_by_recursion kept (λ i j d l m. h (suc i) (suc j) d (omega arith) (omega arith)))

apart_cons : (k : Kept) (kept : List Kept) → AllByRecursion (λ (l : Kept). k.number ≢ l.number) kept → AllPairs (λ (k l : Kept). k.number ≢ l.number) kept → AllPairs (λ (k l : Kept). k.number ≢ l.number) (k ∷ kept)
apart_cons k kept h r = apart_at
  where
    apart_at : AllPairs (λ (k l : Kept). k.number ≢ l.number) (k ∷ kept)
    apart_at zero zero d l m = absurd (omega (arith, l))
    apart_at zero (suc j) d l m = All-from_recursion (λ (l : Kept). k.number ≢ l.number) kept h j d (omega arith)
    apart_at (suc i) zero d l m = absurd (omega (arith, l))
    apart_at (suc i) (suc j) d l m = r i j d (omega arith) (omega arith)

pub apart_from_recursion : (kept : List Kept) → NumberedApart kept → AllPairs (λ (k l : Kept). k.number ≢ l.number) kept
apart_from_recursion [] h = λ i j d l m. absurd (omega (arith, m))
apart_from_recursion (k ∷ kept) h = apart_cons k kept h.0 (apart_from_recursion kept h.1)

all_kept_filter : (P : Kept → Type 0) (p : Kept → Bool) (kept : List Kept) → AllByRecursion P kept → AllByRecursion P (filter p kept)
all_kept_filter P p kept h = recursion_from_All P (filter p kept) (All-filter p P kept (All-from_recursion P kept h))

apart_filter_step : (p : Kept → Bool) (k : Kept) (kept : List Kept) (b : Bool) → AllByRecursion (λ (l : Kept). k.number ≢ l.number) (filter p kept) → NumberedApart (filter p kept) → NumberedApart (cond b (k ∷ filter p kept) (filter p kept))
apart_filter_step p k kept true h r = (h, r)
apart_filter_step p k kept false h r = r

pub apart_filter : (p : Kept → Bool) (kept : List Kept) → NumberedApart kept → NumberedApart (filter p kept)
apart_filter p [] h = tt
apart_filter p (k ∷ kept) h = apart_filter_step p k kept (p k) (all_kept_filter (λ (l : Kept). k.number ≢ l.number) p kept h.0) (apart_filter p kept h.1)

consecutive_revoked : (h : List Event) (kept : List Kept) (i a : ℕ) → (winner i h ≡ Some a → ⊥) → RunsFit h kept → (j b : ℕ) → ((i ≡ j) × (a ≡ b)) ⊎ (i ≡ j → a ≡ b → ⊥) → IsChain 0 (upto j b (Revoked i a ∷ h)) (parts_of j b (all_parts (filter (is_other i a) kept)))
consecutive_revoked h kept i a loses r j b (inl s) =
    let u : upto j b (Revoked i a ∷ h) ≡ 0 = ap {B = ℕ} (λ (t : Bool). cond t 0 (upto j b h)) (same_yes i a j b s.0 s.1) in
    let e = own_gone h i a kept loses (recursion_from_All (IsKept h) kept r.each) in
    let f : filter (is_of j b) (all_parts (filter (is_other i a) kept)) ≡ [] = subst (λ n. filter (is_of n b) (all_parts (filter (is_other i a) kept)) ≡ []) s.0 (subst (λ n. filter (is_of i n) (all_parts (filter (is_other i a) kept)) ≡ []) s.1 e) in
    subst (λ n. IsChain 0 n (parts_of j b (all_parts (filter (is_other i a) kept)))) (sym u) (subst (λ ps. IsChain 0 0 (ord part_cmp ps)) (sym f) refl)
consecutive_revoked h kept i a loses r j b (inr differ) =
    let u : upto j b (Revoked i a ∷ h) ≡ upto j b h = ap {B = ℕ} (λ (t : Bool). cond t 0 (upto j b h)) (same_no i a j b differ) in
    let e = others_stay h i a j b kept differ (recursion_from_All (IsKept h) kept r.each) in
    subst (λ n. IsChain 0 n (parts_of j b (all_parts (filter (is_other i a) kept)))) (sym u) (subst (λ ps. IsChain 0 (upto j b h) (ord part_cmp ps)) (sym e) (r.consecutive j b))

-- the runs of the revoked attempt are gone
pub revoked_fit : (h : List Event) (kept : List Kept) (i a : ℕ) → (winner i h ≡ Some a → ⊥) → RunsFit h kept → RunsFit (Revoked i a ∷ h) (filter (is_other i a) kept)
revoked_fit h kept i a loses r = record {
  each = All-from_recursion (IsKept (Revoked i a ∷ h)) _ (each_revoked h i a kept (recursion_from_All (IsKept h) kept r.each));
  apart = apart_from_recursion _ (apart_filter (is_other i a) kept (apart_by_recursion kept r.apart));
  consecutive = λ j b. consecutive_revoked h kept i a loses r j b (same_cases i a j b);
}

-- ---- a merge

-- how often a part occurs among the attempt's parts of a run
abbrev pub weight : ℕ → ℕ → Part → Kept → ℕ
weight i a x k = count part_cmp x (filter (is_of i a) k.run.parts)

pub counts_by_runs : (i a : ℕ) (x : Part) (kept : List Kept) → count part_cmp x (filter (is_of i a) (all_parts kept)) ≡ sum_by (weight i a x) kept
counts_by_runs i a x [] = refl
counts_by_runs i a x (k ∷ kept) =
    let e = ap (count part_cmp x) (filter-append (is_of i a) k.run.parts (all_parts kept)) in
    let f = count-append part_cmp x (filter (is_of i a) k.run.parts) (filter (is_of i a) (all_parts kept)) in
    omega (arith, e, f, counts_by_runs i a x kept, sum_by-cons (weight i a x) k kept)

pub all_remove : {X : Type 0} (P : X → Type 0) (xs : List X) (i : ℕ) → All P xs → All P (remove xs i)
all_remove P xs i h = All-append P (take i xs) (drop (suc i) xs) (All-take P i xs h) (All-drop P (suc i) xs h)

pub owned_joined : (h : List Event) (o : Owner) (ps qs : List Part) → AreOwned h ps o → AreOwned h qs o → AreOwned h (ps ++ qs) o
owned_joined h Committed ps qs v w = All-append (λ q. winner q.split h ≡ Some q.attempt) ps qs v w
owned_joined h (Attempt i a) ps qs v w = (All-append (λ q. (q.split ≡ i) × (q.attempt ≡ a)) ps qs v.0 w.0, v.1, v.2)

module _ (h : List Event) (kept : List Kept) (r : RunsFit h kept) (m n : ℕ) (run : RunValue) (m_in : m < length kept) (n_in : n < length kept) (differ : n ≢ m) (one_owner : (kept_at kept m).owner ≡ (kept_at kept n).owner) (joined : run.parts ≡ (kept_at kept m).run.parts ++ (kept_at kept n).run.parts) where
  abbrev pub merged : Kept
  merged = record (kept_at kept m) { run = run }

  abbrev pub after_merge : List Kept
  after_merge = remove (set kept m merged) n

  same_parts : (i a : ℕ) → SameItems part_cmp (filter (is_of i a) (all_parts kept)) (filter (is_of i a) (all_parts after_merge))
  same_parts i a = record {
    counts = λ x.
        let at_n = ap (weight i a x) (get_or-set_other kept m n merged no_kept differ) in
        let grown = sum_by-set (weight i a x) kept m merged no_kept m_in in
        let n_in' : n < length (set kept m merged) = omega (arith, length-set kept m merged) in
        let shrunk = sum_by-remove (weight i a x) (set kept m merged) n no_kept n_in' in
        let whole : weight i a x merged ≡ weight i a x (kept_at kept m) + weight i a x (kept_at kept n) = ap (λ ps. count part_cmp x (filter (is_of i a) ps)) joined ∙ ap (count part_cmp x) (filter-append (is_of i a) (kept_at kept m).run.parts (kept_at kept n).run.parts) ∙ count-append part_cmp x (filter (is_of i a) (kept_at kept m).run.parts) (filter (is_of i a) (kept_at kept n).run.parts) in
        omega (arith, at_n, grown, shrunk, whole, counts_by_runs i a x kept, counts_by_runs i a x after_merge);
  }

  number_set : (i : ℕ) (d : Kept) → i < length kept → (i ≡ m) ⊎ (i ≢ m) → (get_or (set kept m merged) i d).number ≡ (get_or kept i d).number
  number_set i d l (inl e) = subst (λ j. (get_or (set kept m merged) j d).number ≡ (get_or kept j d).number) (sym e) (ap (λ (k : Kept). k.number) (get_or-set_same kept m merged d m_in ∙ refl) ∙ ap (λ (k : Kept). k.number) (get_or_default kept m no_kept d m_in))
  number_set i d l (inr e) = ap (λ (k : Kept). k.number) (get_or-set_other kept m i merged d e)

  kept_merged : IsKept h merged
  kept_merged = record {
    number = (r.each m no_kept m_in).number;
    owned = subst (λ ps. AreOwned h ps (kept_at kept m).owner) (sym joined) (owned_joined h (kept_at kept m).owner _ _ (r.each m no_kept m_in).owned (subst (λ o. AreOwned h (kept_at kept n).run.parts o) (sym one_owner) (r.each n no_kept n_in).owned));
  }

  pub merged_fit : RunsFit h after_merge
  merged_fit = record {
    each = all_remove (IsKept h) (set kept m merged) n (All-set (IsKept h) kept m merged kept_merged r.each);
    apart = all_pairs_remove (λ (k l : Kept). k.number ≢ l.number) (set kept m merged) n (omega (arith, length-set kept m merged, n_in)) (λ i j d l u same. let j_in : j < length kept = omega (arith, length-set kept m merged, u) in let i_in : i < length kept = omega arith in r.apart i j d l j_in (sym (number_set i d i_in (cases_eq i m)) ∙ same ∙ number_set j d j_in (cases_eq j m)));
    consecutive = λ i a. subst (IsChain 0 (upto i a h)) (ord_same part_cmp part_total part_exact _ _ (same_parts i a)) (r.consecutive i a);
  }
