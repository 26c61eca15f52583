-- The runs of an owner give way to one.
use Rattle.std.proofs.Common.{◌≡◌, ◌≢◌, ℕ, zero, suc, ◌+◌, ◌<◌, ◌≤◌, ◌⊎◌, inl, inr, Bool, true, false, not, cond, List, [], ◌∷◌, ◌++◌, length, filter, get_or, refl, sym, ap, ◌∙◌, subst, arith}
use Rattle.std.specs.Prelude.{All, IsTrue}
use Rattle.std.specs.List.{sum_by, AllByRecursion}
use Rattle.std.proofs.lemmas.Bool.{cases_eq, cases_lt, true≢false}
use Rattle.std.proofs.lemmas.List.{get_or_default, length-append}
use Rattle.std.proofs.lemmas.List.Elements.{All-push, All-filter, All-nil, All-from_recursion, recursion_from_All}
use Rattle.std.proofs.lemmas.List.Quantifiers.{all_pairs_push}
use Rattle.std.proofs.lemmas.List.Filters.{sum_by-filter_both, length-filter_both}
use Rattle.std.proofs.lemmas.List.Sums.{sum_by-append, sum_by-cons}
use Rattle.hop_base.specs.declared.value.Val.{Val}
use Rattle.hop_base.specs.declared.value.Pair.{Pair}
use Rattle.hop_base.specs.declared.part.Part.{Part}
use Rattle.hop_base.proofs.Sorted.{SameItems, ord_same, count}
use Rattle.hop_run.specs.Runs.{RunValue}
use Rattle.hop_event.specs.declared.event.Event.{Event}
use Rattle.hop_event.specs.History.{upto}
use Rattle.hop_event.specs.Legal.{Rules}
use Rattle.hop_shelf.specs.declared.kept.Kept.{Kept}
use Rattle.hop_shelf.specs.declared.kept.Owner.{Owner}
use Rattle.hop_shelf.specs.declared.kept.Owner.TheVariants.{Committed, Attempt}
use Rattle.hop_shelf.specs.Holds.{RunHolds}
use Rattle.hop_shelf.specs.Journal.{JournalValue}
use Rattle.hop_shelf.specs.Kept.{all_parts, kept_at, no_kept, is_owners, is_anothers, same_owner, IsOneForOwner}
use Rattle.hop_shelf.specs.Parts.{part_cmp, is_of, IsChain}
use Rattle.hop_shelf.specs.Sound.{AreOwned, IsKept, RunsFit, IsSound}
use Rattle.hop_shelf.proofs.Chains.{part_total, part_exact}
use Rattle.hop_shelf.proofs.OwnerLaws.{same_itself, same_is}
use Rattle.hop_shelf.proofs.SoundLaws.{weight, counts_by_runs, owned_joined, apart_by_recursion, apart_from_recursion, apart_filter}

-- no parts are the owner's, where some are
owned_none : (h : List Event) (parts : List Part) (o : Owner) → AreOwned h parts o → AreOwned h [] o
owned_none h parts Committed w = All-nil _
owned_none h parts (Attempt i a) w = (All-nil _, w.1, w.2)

owned_step : (h : List Event) (o : Owner) (k : Kept) (ps : List Kept) (b : Bool) → is_owners o k ≡ b → IsKept h k → AreOwned h (all_parts ps) o → AreOwned h (all_parts (cond b (k ∷ ps) ps)) o
owned_step h o k ps true e w rest = owned_joined h o k.run.parts (all_parts ps) (subst (AreOwned h k.run.parts) (same_is k.owner o e) w.owned) rest
owned_step h o k ps false e w rest = rest

-- the parts of all runs of an owner are the owner's
owned_all : (h : List Event) (o : Owner) → AreOwned h [] o → (kept : List Kept) → AllByRecursion (IsKept h) kept → AreOwned h (all_parts (filter (is_owners o) kept)) o
owned_all h o none [] w = none
owned_all h o none (k ∷ kept) w = owned_step h o k (filter (is_owners o) kept) (is_owners o k) refl w.0 (owned_all h o none kept w.1)

differ_step : (n : ℕ) (k : Kept) (ps : List Kept) (b : Bool) → (b ≡ true → k.number ≢ n) → AllByRecursion (λ (k : Kept). k.number ≢ n) ps → AllByRecursion (λ (k : Kept). k.number ≢ n) (cond b (k ∷ ps) ps)
differ_step n k ps true e w = (e refl, w)
differ_step n k ps false e w = w

differ_all : (n : ℕ) (p : Kept → Bool) (kept : List Kept) → AllByRecursion (λ (k : Kept). p k ≡ true → k.number ≢ n) kept → AllByRecursion (λ (k : Kept). k.number ≢ n) (filter p kept)
differ_all n p [] w = tt
differ_all n p (k ∷ kept) w = differ_step n k (filter p kept) (p k) w.0 (differ_all n p kept w.1)

not_another : (o : Owner) (k : Kept) → k.owner ≡ o → is_anothers o k ≡ true → ⊥
not_another o k e h = true≢false (sym h ∙ ap not (ap (λ x. same_owner x o) e ∙ same_itself o))

module _ (h : List Event) (kept : List Kept) (r : RunsFit h kept) (m : ℕ) (m_in : m < length kept) (run : RunValue) (joined : run.parts ≡ all_parts (filter (is_owners (kept_at kept m).owner) kept)) where
  abbrev o : Owner
  o = (kept_at kept m).owner

  abbrev one : Kept
  one = record (kept_at kept m) { run = run }

  abbrev pub one_for_owner : List Kept
  one_for_owner = filter (is_anothers o) kept ++ one ∷ []

  same_parts : (i a : ℕ) → SameItems part_cmp (filter (is_of i a) (all_parts kept)) (filter (is_of i a) (all_parts one_for_owner))
  same_parts i a = record {
    counts = λ x.
        let whole : weight i a x one ≡ sum_by (weight i a x) (filter (is_owners o) kept) = ap (λ ps. count part_cmp x (filter (is_of i a) ps)) joined ∙ counts_by_runs i a x (filter (is_owners o) kept) in
        let both = sum_by-filter_both (is_owners o) (is_anothers o) (λ k. refl) (weight i a x) kept in
        let after = sum_by-append (weight i a x) (filter (is_anothers o) kept) (one ∷ []) in
        let last = sum_by-cons (weight i a x) one [] in
        omega (arith, whole, both, after, last, counts_by_runs i a x kept, counts_by_runs i a x one_for_owner);
  }

  kept_one : IsKept h one
  kept_one = record {
    number = (r.each m no_kept m_in).number;
    owned = subst (λ ps. AreOwned h ps o) (sym joined) (owned_all h o (owned_none h (kept_at kept m).run.parts o (r.each m no_kept m_in).owned) kept (recursion_from_All (IsKept h) kept r.each));
  }

  -- a run of another owner has another number
  differs_at : (j : ℕ) (d : Kept) (l : j < length kept) → (j ≡ m) ⊎ (j ≢ m) → is_anothers o (get_or kept j d) ≡ true → (get_or kept j d).number ≢ one.number
  differs_at j d l (inl e) other = absurd (not_another o (get_or kept j d) (ap (λ (k : Kept). k.owner) (get_or_default kept j d no_kept l) ∙ ap (λ i. (kept_at kept i).owner) e) other)
  differs_at j d l (inr e) other = λ same. apart_here (cases_lt j m) (ap (λ (k : Kept). k.number) (get_or_default kept j no_kept d l) ∙ same)
    where
      apart_here : (j < m) ⊎ (m ≤ j) → (kept_at kept j).number ≡ (kept_at kept m).number → ⊥
      apart_here (inl b) same = r.apart j m no_kept b m_in same
      apart_here (inr b) same = let above : m < j = omega (arith, b, e) in r.apart m j no_kept above l (sym same)

  differ : All (λ (k : Kept). k.number ≢ one.number) (filter (is_anothers o) kept)
  differ = All-from_recursion (λ (k : Kept). k.number ≢ one.number) _ (differ_all one.number (is_anothers o) kept (recursion_from_All (λ (k : Kept). is_anothers o k ≡ true → k.number ≢ one.number) kept (λ j d l. differs_at j d l (cases_eq j m))))

  pub one_fit : RunsFit h one_for_owner
  one_fit = record {
    each = All-push (IsKept h) (filter (is_anothers o) kept) one (All-filter (is_anothers o) (IsKept h) kept r.each) kept_one;
    apart = all_pairs_push (λ (k l : Kept). k.number ≢ l.number) (filter (is_anothers o) kept) one (apart_from_recursion _ (apart_filter (is_anothers o) kept (apart_by_recursion kept r.apart))) differ;
    consecutive = λ i a. subst (IsChain 0 (upto i a h)) (ord_same part_cmp part_total part_exact _ _ (same_parts i a)) (r.consecutive i a);
  }

-- a sound shelf stays sound where the runs of an owner give way to one that stands for their parts
pub one_sound : (rules : Rules) (p : ℕ) (marks : List ℕ) (tentative : Bool) (tells : Bool) (reduce : List ℕ → List Val → List ℕ) (pairs_of : Part → List Pair) (j : JournalValue) (kept : List Kept) → IsSound rules p marks tentative tells reduce pairs_of j kept
    → (m : ℕ) (run : RunValue) → m < length kept → run.parts ≡ all_parts (filter (is_owners (kept_at kept m).owner) kept) → (IsTrue tells → RunHolds reduce pairs_of run)
    → IsSound rules p marks tentative tells reduce pairs_of j (filter (is_anothers (kept_at kept m).owner) kept ++ record (kept_at kept m) { run = run } ∷ [])
one_sound rules p marks tentative tells reduce pairs_of j kept s m run m_in joined holds = record {
  legal = s.legal;
  lens = s.lens;
  ranges = s.ranges;
  marks_are = s.marks_are;
  marked = s.marked;
  tentative_is = s.tentative_is;
  due = s.due;
  by_records = s.by_records;
  restarts = s.restarts;
  limit = s.limit;
  stand = λ t. All-push (λ (k : Kept). RunHolds reduce pairs_of k.run) _ (record (kept_at kept m) { run = run }) (All-filter (is_anothers (kept_at kept m).owner) (λ (k : Kept). RunHolds reduce pairs_of k.run) kept (s.stand t)) (holds t);
  fit = one_fit j.events kept s.fit m m_in run joined;
}

-- what was read off the shelf's runs, and the runs with that
pub owner_put : (kept items : List Kept) (m : ℕ) (x y : Kept) (run : RunValue) → items ≡ kept → x ≡ kept_at kept m → y ≡ kept_at kept m
    → filter (is_anothers y.owner) items ++ record { number = x.number; owner = y.owner; run = run } ∷ [] ≡ filter (is_anothers (kept_at kept m).owner) kept ++ record (kept_at kept m) { run = run } ∷ []
owner_put kept items m x y run is first second = λ i. filter (is_anothers (second i).owner) (is i) ++ record { number = (first i).number; owner = (second i).owner; run = run } ∷ []

-- # Fewer runs

pass_more : (k : Kept) (ps : List Kept) (b : Bool) (n : ℕ) → n ≤ length ps → n ≤ length (cond b (k ∷ ps) ps)
pass_more k ps true n h = omega (arith, h)
pass_more k ps false n h = h

pass_first : (k : Kept) (ps : List Kept) (b : Bool) (n : ℕ) → b ≡ true → n ≤ length ps → n + 1 ≤ length (cond b (k ∷ ps) ps)
pass_first k ps true n e h = omega (arith, h)
pass_first k ps false n e h = absurd (true≢false (sym e))

one_passes : (p : Kept → Bool) (xs : List Kept) (n : ℕ) → n < length xs → p (get_or xs n no_kept) ≡ true → 1 ≤ length (filter p xs)
one_passes p [] n l e = absurd (omega (arith, l))
one_passes p (x ∷ xs) zero l e = pass_first x (filter p xs) (p x) 0 e (omega arith)
one_passes p (x ∷ xs) (suc n) l e = pass_more x (filter p xs) (p x) 1 (one_passes p xs n (omega (arith, l)) e)

two_pass : (p : Kept → Bool) (xs : List Kept) (m n : ℕ) → m < n → n < length xs → p (get_or xs m no_kept) ≡ true → p (get_or xs n no_kept) ≡ true → 2 ≤ length (filter p xs)
two_pass p [] m n b l e f = absurd (omega (arith, l))
two_pass p (x ∷ xs) m zero b l e f = absurd (omega (arith, b))
two_pass p (x ∷ xs) zero (suc n) b l e f = pass_first x (filter p xs) (p x) 1 e (one_passes p xs n (omega (arith, l)) f)
two_pass p (x ∷ xs) (suc m) (suc n) b l e f = pass_more x (filter p xs) (p x) 2 (two_pass p xs m n (omega (arith, b)) (omega (arith, l)) e f)

-- one run in the place of two or more: there are fewer then
pub fewer_runs : (kept new : List Kept) (m n : ℕ) → m < n → n < length kept → (kept_at kept m).owner ≡ (kept_at kept n).owner → IsOneForOwner kept m new → length new < length kept
fewer_runs kept new m n l n_in same one =
    let o = (kept_at kept m).owner in
    let own = two_pass (is_owners o) kept m n l n_in (same_itself o) (ap (λ x. same_owner x o) (sym same) ∙ same_itself o) in
    let both = length-filter_both (is_owners o) (is_anothers o) (λ k. refl) kept in
    let after = ap (λ (ks : List Kept). length ks) one.are ∙ length-append (filter (is_anothers o) kept) (record (kept_at kept m) { run = one.run } ∷ []) in
    omega (arith, own, both, after)
