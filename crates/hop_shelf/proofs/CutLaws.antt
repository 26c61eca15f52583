-- The runs of a cut stand together for what it declares.
use Rattle.std.proofs.Common.{◌≡◌, ◌≢◌, ℕ, zero, suc, ◌+◌, ◌<◌, ◌≤◌, ◌⊎◌, inl, inr, Bool, true, false, cond, if◌then◌else◌, Option, Some, None, List, [], ◌∷◌, ◌++◌, length, map, filter, get_or, sum, refl, sym, ap, ◌∙◌, subst, arith, eqb, ◌==◌}
use Rattle.std.specs.Prelude.{All, IsTrue}
use Rattle.std.specs.List.{flat_map, AllByRecursion, range_with_len}
use Rattle.std.proofs.lemmas.Bool.{true≢false, false≢true}
use Rattle.std.proofs.lemmas.Bool.Decides.{nat_tests}
use Rattle.std.proofs.lemmas.List.Elements.{filter-append, recursion_from_All}
use Rattle.std.proofs.lemmas.List.{get_or_past}
use Rattle.std.proofs.lemmas.List.Sums.{sum_by-cons}
use Rattle.std.specs.Ordering.{is_eq}
use Rattle.hop_base.specs.declared.value.Val.{Val}
use Rattle.hop_base.specs.declared.value.Pair.{Pair}
use Rattle.hop_base.proofs.Truth.{eq_of}
use Rattle.hop_base.proofs.Sorted.{SameItems, count, count-append, count-ord, length-ord}
use Rattle.hop_base.specs.declared.part.Part.{Part}
use Rattle.hop_run.specs.Runs.{RunValue}
use Rattle.hop_event.specs.declared.event.Event.{Event}
use Rattle.hop_event.specs.declared.event.Event.TheVariants.{Arrive, Ignore, Won, Revoked, Restart, Finish}
use Rattle.hop_event.specs.declared.declared.Declared.{Declared}
use Rattle.hop_event.specs.History.{upto, winner, same_attempt}
use Rattle.hop_event.specs.Legal.{Rules, GrowsLegally}
use Rattle.hop_event.specs.Coverage.{declared, declared_by, tentative_records}
use Rattle.hop_event.proofs.Sums.{sum_changed, sum_bound}
use Rattle.hop_shelf.specs.declared.kept.Kept.{Kept}
use Rattle.hop_shelf.specs.declared.kept.Owner.{Owner}
use Rattle.hop_shelf.specs.declared.kept.Owner.TheVariants.{Committed, Attempt}
use Rattle.hop_shelf.specs.Kept.{all_parts, pairs_where}
use Rattle.hop_shelf.specs.Parts.{part_cmp, is_of, parts_of, IsChain}
use Rattle.hop_shelf.specs.Sound.{AreOwned, IsKept, IsConsecutive, RunsFit}
use Rattle.hop_shelf.specs.Covered.{IsOfRanges, declares}
use Rattle.hop_shelf.proofs.CoveredParts.{covered_by, covers_owner, covered_runs, whole_parts}
use Rattle.hop_shelf.proofs.RecordLaws.{flat_same_in}
use Rattle.hop_shelf.proofs.Chains.{part_exact, chain_backward}
use Rattle.hop_shelf.proofs.SoundLaws.{same_yes, same_means}
use Rattle.hop_shelf.proofs.Together.{parts_at, declared_means, covered_pairs, runs_together, stands_permuted, flat_same}
use Rattle.hop_cut.specs.Covered.{StandTogether, part_declared, covered_parts, declared_at}
use Rattle.hop_shelf.specs.Holds.{RunHolds}
use Rattle.std.proofs.lemmas.Bool.{cases_lt}
use Rattle.std.proofs.lemmas.List.Elements.{All-map, All-filter, filter_agree}
use Rattle.std.proofs.lemmas.List.FromFn.{get_or-map-range_with_len, length-map-range_with_len}
use Rattle.hop_shelf.specs.Journal.{JournalValue}
use Rattle.hop_shelf.specs.Sound.{IsSound}
use Rattle.hop_shelf.specs.Covered.{covers_in}
use Rattle.hop_event.specs.Legal.{AllWon}
use Rattle.hop_laws.specs.Groups.{red}
use Rattle.hop_fold.specs.Folding.{Folds}
use Rattle.hop_fold.proofs.FoldingLaws.{red_folds}
use Rattle.hop_laws.proofs.StandsLaws.{red_stands}
use Rattle.hop_shelf.proofs.Together.{whole_pairs}

-- whether the part's attempt is declared
abbrev pub declares_part : Bool → List Event → Part → Bool
declares_part tentative h q = declares (declared tentative h q.split) q.attempt

-- ---- an attempt with a part has records

some_filtered_step : (p : Part → Bool) (x : Part) (xs : List Part) (b : Bool) → p x ≡ b → (b ≡ true) ⊎ (0 < length (filter p xs)) → 0 < length (cond b (x ∷ filter p xs) (filter p xs))
some_filtered_step p x xs true e h = omega arith
some_filtered_step p x xs false e (inl f) = absurd (false≢true f)
some_filtered_step p x xs false e (inr f) = f

some_filtered : (p : Part → Bool) (xs : List Part) (k : ℕ) (d : Part) → k < length xs → p (get_or xs k d) ≡ true → 0 < length (filter p xs)
some_filtered p [] k d l e = absurd (omega (arith, l))
some_filtered p (x ∷ xs) zero d l e = some_filtered_step p x xs (p x) refl (inl e)
some_filtered p (x ∷ xs) (suc k) d l e = some_filtered_step p x xs (p x) refl (inr (some_filtered p xs k d (omega arith) e))

chain_some : (u : ℕ) (qs : List Part) → IsChain 0 u qs → 0 < length qs → 0 < u
chain_some u [] c l = absurd (omega (arith, l))
chain_some u (q ∷ qs) c l = omega (arith, c.0, c.1, chain_backward q.to u qs c.2)

-- an attempt that has a part has records
pub has_records : (h : List Event) (kept : List Kept) → IsConsecutive h kept → AllByRecursion (λ (q : Part). 0 < upto q.split q.attempt h) (all_parts kept)
has_records h kept c = recursion_from_All (λ (q : Part). 0 < upto q.split q.attempt h) (all_parts kept) (λ k d l.
    let q = get_or (all_parts kept) k d in
    let some = some_filtered (is_of q.split q.attempt) (all_parts kept) k d l (same_yes q.split q.attempt q.split q.attempt refl refl) in
    let n = length-ord part_cmp (filter (is_of q.split q.attempt) (all_parts kept)) in
    chain_some (upto q.split q.attempt h) (parts_of q.split q.attempt (all_parts kept)) (c q.split q.attempt) (omega (arith, some, n)))

-- ---- the parts of the covered runs are those of declared attempts

committed_declares : (a n : ℕ) → 0 < n → (b : Bool) → eqb n 0 ≡ b → declares (cond b None (Some (record { attempt = a; records = n; committed = true }))) a ≡ true
committed_declares a n some true e = absurd (let z : n ≡ 0 = grind (arith, nat_tests) in omega (arith, z, some))
committed_declares a n some false e = let f : eqb a a ≡ true = grind (arith, nat_tests) in f

winner_declares : (tentative : Bool) (h : List Event) (q : Part) → winner q.split h ≡ Some q.attempt → 0 < upto q.split q.attempt h → declares_part tentative h q ≡ true
winner_declares tentative h q w some =
    ap (λ w. declares (declared_by w tentative (tentative_records q.split h) (λ a. upto q.split a h)) q.attempt) w ∙ committed_declares q.attempt (upto q.split q.attempt h) some (eqb (upto q.split q.attempt h) 0) refl

all_pass : (p : Part → Bool) (xs : List Part) → AllByRecursion (λ (q : Part). p q ≡ true) xs → filter p xs ≡ xs
all_pass p [] h = refl
all_pass p (x ∷ xs) h = ap {B = List Part} (λ (b : Bool). cond b (x ∷ filter p xs) (filter p xs)) h.0 ∙ ap (λ l. x ∷ l) (all_pass p xs h.1)

none_pass : (p : Part → Bool) (xs : List Part) → AllByRecursion (λ (q : Part). p q ≡ false) xs → filter p xs ≡ []
none_pass p [] h = refl
none_pass p (x ∷ xs) h = ap {B = List Part} (λ (b : Bool). cond b (x ∷ filter p xs) (filter p xs)) h.0 ∙ none_pass p xs h.1

committed_parts_pass : (tentative : Bool) (h : List Event) (parts : List Part) → AllByRecursion (λ (q : Part). winner q.split h ≡ Some q.attempt) parts → AllByRecursion (λ (q : Part). 0 < upto q.split q.attempt h) parts → AllByRecursion (λ (q : Part). declares_part tentative h q ≡ true) parts
committed_parts_pass tentative h [] w u = tt
committed_parts_pass tentative h (q ∷ parts) w u = (winner_declares tentative h q w.0 u.0, committed_parts_pass tentative h parts w.1 u.1)

own_parts_pass : (tentative : Bool) (h : List Event) (i a : ℕ) (b : Bool) (parts : List Part) → declares (declared tentative h i) a ≡ b → AllByRecursion (λ (q : Part). (q.split ≡ i) × (q.attempt ≡ a)) parts → AllByRecursion (λ (q : Part). declares_part tentative h q ≡ b) parts
own_parts_pass tentative h i a b [] e o = tt
own_parts_pass tentative h i a b (q ∷ parts) e o = (ap (λ j. declares (declared tentative h j) q.attempt) o.0.0 ∙ ap (declares (declared tentative h i)) o.0.1 ∙ e, own_parts_pass tentative h i a b parts e o.1)

-- a run's parts pass where the run is covered, and else none does
owner_parts : (tentative : Bool) (h : List Event) (parts : List Part) (o : Owner) (b : Bool) → covers_owner tentative h o ≡ b → AreOwned h parts o → AllByRecursion (λ (q : Part). 0 < upto q.split q.attempt h) parts → filter (declares_part tentative h) parts ≡ (if b then parts else [])
owner_parts tentative h parts Committed true e w u = all_pass (declares_part tentative h) parts (committed_parts_pass tentative h parts (recursion_from_All (λ (q : Part). winner q.split h ≡ Some q.attempt) parts w) u)
owner_parts tentative h parts Committed false e w u = absurd (true≢false e)
owner_parts tentative h parts (Attempt i a) true e w u = all_pass (declares_part tentative h) parts (own_parts_pass tentative h i a true parts e (recursion_from_All (λ (q : Part). (q.split ≡ i) × (q.attempt ≡ a)) parts w.0))
owner_parts tentative h parts (Attempt i a) false e w u = none_pass (declares_part tentative h) parts (own_parts_pass tentative h i a false parts e (recursion_from_All (λ (q : Part). (q.split ≡ i) × (q.attempt ≡ a)) parts w.0))

all_append_left : (P : Part → Type 0) (xs ys : List Part) → AllByRecursion P (xs ++ ys) → AllByRecursion P xs × AllByRecursion P ys
all_append_left P [] ys h = (tt, h)
all_append_left P (x ∷ xs) ys h = let r = all_append_left P xs ys h.1 in ((h.0, r.0), r.1)

covered_step : (tentative : Bool) (h : List Event) (k : Kept) (kept : List Kept) (b : Bool) → covers_owner tentative h k.owner ≡ b → filter (declares_part tentative h) k.run.parts ≡ (if b then k.run.parts else []) → flat_map (λ (r : RunValue). r.parts) (covered_runs tentative h kept) ≡ filter (declares_part tentative h) (all_parts kept) → flat_map (λ (r : RunValue). r.parts) (map (λ (k : Kept). k.run) (cond b (k ∷ filter (λ (k : Kept). covers_owner tentative h k.owner) kept) (filter (λ (k : Kept). covers_owner tentative h k.owner) kept))) ≡ filter (declares_part tentative h) (all_parts (k ∷ kept))
covered_step tentative h k kept true e f ih = ap (λ ps. k.run.parts ++ ps) ih ∙ ap (λ ps. ps ++ filter (declares_part tentative h) (all_parts kept)) (sym f) ∙ sym (filter-append (declares_part tentative h) k.run.parts (all_parts kept))
covered_step tentative h k kept false e f ih = ih ∙ ap (λ ps. ps ++ filter (declares_part tentative h) (all_parts kept)) (sym f) ∙ sym (filter-append (declares_part tentative h) k.run.parts (all_parts kept))

pub covered_run_parts : (tentative : Bool) (h : List Event) (kept : List Kept) → AllByRecursion (IsKept h) kept → AllByRecursion (λ (q : Part). 0 < upto q.split q.attempt h) (all_parts kept) → flat_map (λ (r : RunValue). r.parts) (covered_runs tentative h kept) ≡ filter (declares_part tentative h) (all_parts kept)
covered_run_parts tentative h [] r u = refl
covered_run_parts tentative h (k ∷ kept) r u =
    let both = all_append_left (λ (q : Part). 0 < upto q.split q.attempt h) k.run.parts (all_parts kept) u in
    covered_step tentative h k kept (covers_owner tentative h k.owner) refl (owner_parts tentative h k.run.parts k.owner (covers_owner tentative h k.owner) refl r.0.owned both.0) (covered_run_parts tentative h kept r.1 both.1)

-- ---- and those are the parts of the declared attempts, split by split

count_filter_step : (p : Part → Bool) (x q : Part) (qs : List Part) (b e c : Bool) → p q ≡ b → is_eq (part_cmp x q) ≡ e → p x ≡ c → (e ≡ true → b ≡ c) → count part_cmp x (filter p qs) ≡ (if c then count part_cmp x qs else 0) → count part_cmp x (cond b (q ∷ filter p qs) (filter p qs)) ≡ (if c then ((if e then 1 else 0) + count part_cmp x qs) else 0)
count_filter_step p x q qs true e true pq eq pc same ih = ap {B = ℕ} (λ (t : Bool). (if t then 1 else 0) + count part_cmp x (filter p qs)) eq ∙ ap {B = ℕ} (λ n. (if e then 1 else 0) + n) ih
count_filter_step p x q qs true true false pq eq pc same ih = absurd (true≢false (same refl))
count_filter_step p x q qs true false false pq eq pc same ih = ap {B = ℕ} (λ (t : Bool). (if t then 1 else 0) + count part_cmp x (filter p qs)) eq ∙ omega (arith, ih)
count_filter_step p x q qs false true true pq eq pc same ih = absurd (false≢true (same refl))
count_filter_step p x q qs false false true pq eq pc same ih = omega (arith, ih)
count_filter_step p x q qs false e false pq eq pc same ih = ih

-- an item is kept as often as it stood there, or not at all
pub count_filter : (p : Part → Bool) (x : Part) (qs : List Part) → count part_cmp x (filter p qs) ≡ (if p x then count part_cmp x qs else 0)
count_filter p x [] = nothing (p x)
  where
    nothing : (b : Bool) → ◌≡◌ {A = ℕ} 0 (if b then 0 else 0)
    nothing true = refl
    nothing false = refl
count_filter p x (q ∷ qs) =
    count_filter_step p x q qs (p q) (is_eq (part_cmp x q)) (p x) refl refl refl (λ e. ap p (sym (part_exact x q (eq_of (part_cmp x q) e)))) (count_filter p x qs)
    ∙ ap {B = ℕ} (λ n. if p x then n else 0) refl

module _ (tentative : Bool) (h : List Event) (qs : List Part) (x : Part) where
  abbrev term : ℕ → ℕ
  term i = count part_cmp x (parts_at i (declared tentative h i) qs)

  term_other_by : (i : ℕ) (o : Option Declared) → i ≢ x.split → count part_cmp x (parts_at i o qs) ≡ 0
  term_other_by i None differ = refl
  term_other_by i (Some d) differ =
      let f : same_attempt x.split x.attempt i d.attempt ≡ false = grind (arith, nat_tests) in
      count-ord part_cmp x (filter (is_of i d.attempt) qs) ∙ count_filter (is_of i d.attempt) x qs ∙ ap {B = ℕ} (λ (b : Bool). if b then count part_cmp x qs else 0) f

  term_same_by : (o : Option Declared) → count part_cmp x (parts_at x.split o qs) ≡ (if declares o x.attempt then count part_cmp x qs else 0)
  term_same_by None = refl
  term_same_by (Some d) =
      let f : same_attempt x.split x.attempt x.split d.attempt ≡ (d.attempt == x.attempt) = grind (arith, nat_tests) in
      count-ord part_cmp x (filter (is_of x.split d.attempt) qs) ∙ count_filter (is_of x.split d.attempt) x qs ∙ ap {B = ℕ} (λ (b : Bool). if b then count part_cmp x qs else 0) f

  count_terms : (is : List ℕ) → count part_cmp x (flat_map (λ i. parts_at i (declared tentative h i) qs) is) ≡ sum (map term is)
  count_terms [] = refl
  count_terms (i ∷ is) = omega (arith, count-append part_cmp x (parts_at i (declared tentative h i) qs) (flat_map (λ i. parts_at i (declared tentative h i) qs) is), count_terms is, sum_by-cons (λ (n : ℕ). n) (term i) (map term is))

  zero_terms : (n : ℕ) → n ≤ x.split → sum (map term (range_with_len 0 n)) ≡ 0
  zero_terms n l = let b = sum_bound term 0 0 n (λ i k m. let differ : i ≢ x.split = λ e. absurd (omega (arith, e, m, l)) in omega (arith, term_other_by i (declared tentative h i) differ)) in omega (arith, b)

  one_term : (n : ℕ) → x.split < n → sum (map term (range_with_len 0 n)) ≡ term x.split
  one_term n l =
      let change = sum_changed term (λ i. 0) 0 n x.split (omega arith) (omega (arith, l)) (λ i differ. term_other_by i (declared tentative h i) differ) in
      let none = sum_bound (λ (i : ℕ). 0) 0 0 n (λ i k m. omega arith) in
      omega (arith, change, none)

  -- each part of a declared attempt stands among them as often as before
  count_declared : (n : ℕ) → (declares_part tentative h x ≡ true → x.split < n) → (x.split < n) ⊎ (n ≤ x.split) → count part_cmp x (filter (declares_part tentative h) qs) ≡ count part_cmp x (flat_map (λ i. parts_at i (declared tentative h i) qs) (range_with_len 0 n))
  count_declared n within (inl l) = count_filter (declares_part tentative h) x qs ∙ sym (count_terms (range_with_len 0 n) ∙ one_term n l ∙ term_same_by (declared tentative h x.split))
  count_declared n within (inr l) = count_filter (declares_part tentative h) x qs ∙ past (declares_part tentative h x) refl ∙ sym (count_terms (range_with_len 0 n) ∙ zero_terms n l)
    where
      past : (b : Bool) → declares_part tentative h x ≡ b → (if b then count part_cmp x qs else 0) ≡ 0
      past true e = let m = within e in absurd (omega (arith, m, l))
      past false e = refl

-- ---- in a legal history only splits have records

legal_arrive : (rules : Rules) (n i a to rest : ℕ) (j b : ℕ) (t : Bool) → same_attempt j b i a ≡ t → j < n → (0 < rest → i < n) → 0 < (if t then to else rest) → i < n
legal_arrive rules n i a to rest j b true e l ih some = subst (λ k. k < n) (same_means j b i a e).0 l
legal_arrive rules n i a to rest j b false e l ih some = ih some

legal_revoked : (n i rest : ℕ) (t : Bool) → (0 < rest → i < n) → 0 < (if t then 0 else rest) → i < n
legal_revoked n i rest true ih some = absurd (omega (arith, some))
legal_revoked n i rest false ih some = ih some

pub legal_split : (rules : Rules) (p : ℕ) (h : List Event) (i a : ℕ) → GrowsLegally rules p h → 0 < upto i a h → i < length rules.lens
legal_split rules p [] i a legal some = absurd (omega (arith, some))
legal_split rules p (Arrive part via ∷ h) i a legal some = legal_arrive rules (length rules.lens) i a part.to (upto i a h) part.split part.attempt (same_attempt part.split part.attempt i a) refl legal.0.rule.0.attempt.split (legal_split rules p h i a legal.1) some
legal_split rules p (Ignore part via have ∷ h) i a legal some = legal_split rules p h i a legal.1 some
legal_split rules p (Won j b ∷ h) i a legal some = legal_split rules p h i a legal.1 some
legal_split rules p (Revoked j b ∷ h) i a legal some = legal_revoked (length rules.lens) i (upto i a h) (same_attempt j b i a) (legal_split rules p h i a legal.1) some
legal_split rules p (Restart ∷ h) i a legal some = absurd (omega (arith, some))
legal_split rules p (Finish ∷ h) i a legal some = legal_split rules p h i a legal.1 some

declares_split_by : (rules : Rules) (p : ℕ) (h : List Event) (tentative : Bool) (i a : ℕ) (o : Option Declared) → GrowsLegally rules p h → declared tentative h i ≡ o → declares o a ≡ true → i < length rules.lens
declares_split_by rules p h tentative i a None legal e t = absurd (false≢true t)
declares_split_by rules p h tentative i a (Some d) legal e t = legal_split rules p h i d.attempt legal (declared_means i h tentative d e).1

-- ---- the theorem

-- the covered runs stand together for what is covered
pub cut_stands : (rules : Rules) (p : ℕ) (tentative : Bool) (reduce : List ℕ → List Val → List ℕ) (pairs_of : Part → List Pair) (h : List Event) (kept : List Kept) → GrowsLegally rules p h → RunsFit h kept → IsOfRanges pairs_of → All (λ (k : Kept). RunHolds reduce pairs_of k.run) kept → StandTogether reduce (covered_runs tentative h kept) (flat_map pairs_of (covered_by tentative rules.lens h))
cut_stands rules p tentative reduce pairs_of h kept legal fit ranges holds =
    let covers = λ (k : Kept). covers_owner tentative h k.owner in
    let each = recursion_from_All (RunHolds reduce pairs_of) (covered_runs tentative h kept) (All-map (RunHolds reduce pairs_of) (λ (k : Kept). k.run) (filter covers kept) (All-filter covers (λ (k : Kept). RunHolds reduce pairs_of k.run) kept holds)) in
    let together = runs_together reduce pairs_of ranges.valid (covered_runs tentative h kept) each in
    let parts = covered_run_parts tentative h kept (recursion_from_All (IsKept h) kept fit.each) (has_records h kept fit.consecutive) in
    let by_split = flat_map (λ i. parts_at i (declared tentative h i) (all_parts kept)) (range_with_len 0 (length rules.lens)) in
    let same : SameItems part_cmp (filter (declares_part tentative h) (all_parts kept)) by_split = record { counts = λ x. count_declared tentative h (all_parts kept) x (length rules.lens) (declares_split_by rules p h tentative x.split x.attempt (declared tentative h x.split) legal refl) (cases_lt x.split (length rules.lens)) } in
    subst (StandTogether reduce (covered_runs tentative h kept)) (covered_pairs pairs_of ranges h tentative (all_parts kept) fit.consecutive (range_with_len 0 (length rules.lens)))
    (stands_permuted reduce (flat_map (λ (r : RunValue). r.sheet) (covered_runs tentative h kept)) (flat_map pairs_of (filter (declares_part tentative h) (all_parts kept))) (flat_map pairs_of by_split) (flat_same pairs_of _ _ same)
    (subst (λ ps. StandTogether reduce (covered_runs tentative h kept) (flat_map pairs_of ps)) parts together))

covers_past : (rules : Rules) (p : ℕ) (h : List Event) (tentative : Bool) (i a : ℕ) (b : Bool) → GrowsLegally rules p h → length rules.lens ≤ i → declares (declared tentative h i) a ≡ b → false ≡ b
covers_past rules p h tentative i a true legal past e = absurd (let m = declares_split_by rules p h tentative i a (declared tentative h i) legal refl e in omega (arith, m, past))
covers_past rules p h tentative i a false legal past e = refl

covers_same_by : (rules : Rules) (p : ℕ) (h : List Event) (tentative : Bool) (n i a : ℕ) → GrowsLegally rules p h → n ≡ length rules.lens → (i < n) ⊎ (n ≤ i) → declares (get_or (map (declared tentative h) (range_with_len 0 n)) i None) a ≡ declares (declared tentative h i) a
covers_same_by rules p h tentative n i a legal e (inl l) = ap (λ o. declares o a) (get_or-map-range_with_len (declared tentative h) 0 n i i None l (omega arith))
covers_same_by rules p h tentative n i a legal e (inr l) =
    ap (λ o. declares o a) (get_or_past (map (declared tentative h) (range_with_len 0 n)) i None (omega (arith, length-map-range_with_len (declared tentative h) 0 n, l))) ∙ covers_past rules p h tentative i a (declares (declared tentative h i) a) legal (omega (arith, e, l)) refl

covers_same : (rules : Rules) (p : ℕ) (h : List Event) (tentative : Bool) (n : ℕ) → GrowsLegally rules p h → n ≡ length rules.lens → (o : Owner) → covers_in (map (declared tentative h) (range_with_len 0 n)) o ≡ covers_owner tentative h o
covers_same rules p h tentative n legal e Committed = refl
covers_same rules p h tentative n legal e (Attempt i a) = covers_same_by rules p h tentative n i a legal e (cases_lt i n)

-- ---- what a cut declares, and what the history covers

pub covered_same : (tentative : Bool) (lens : List ℕ) (h : List Event) → covered_parts (map (declared tentative h) (range_with_len 0 (length lens))) ≡ covered_by tentative lens h
covered_same tentative lens h =
    let c : List (Option Declared) = map (declared tentative h) (range_with_len 0 (length lens)) in
    ap (λ n. flat_map (λ i. part_declared i (declared_at c i)) (range_with_len 0 n)) (length-map-range_with_len (declared tentative h) 0 (length lens))
    ∙ flat_same_in (λ i. part_declared i (declared_at c i)) (λ i. part_declared i (declared tentative h i)) 0 (length lens) (λ i l m. ap (part_declared i) (get_or-map-range_with_len (declared tentative h) 0 (length lens) i i None (omega arith) (omega arith)))

module _ (rules : Rules) (p : ℕ) (marks : List ℕ) (wanted : Bool) (tells : Bool) (reduce : List ℕ → List Val → List ℕ) (pairs_of : Part → List Pair) (j : JournalValue) (kept : List Kept) (s : IsSound rules p marks wanted tells reduce pairs_of j kept) where
  sound_together : (declarations : List (Option Declared)) (runs : List RunValue) → declarations ≡ map (declared j.tentative j.events) (range_with_len 0 (length j.lens)) → runs ≡ map (λ (k : Kept). k.run) (filter (λ (k : Kept). covers_in declarations k.owner) kept) → IsTrue tells → StandTogether reduce runs (flat_map pairs_of (covered_by j.tentative j.lens j.events))
  sound_together declarations runs d r t =
      let agree : filter (λ (k : Kept). covers_in declarations k.owner) kept ≡ filter (λ (k : Kept). covers_owner j.tentative j.events k.owner) kept =
      filter_agree (λ (k : Kept). covers_in declarations k.owner) (λ (k : Kept). covers_owner j.tentative j.events k.owner) (λ k. ap (λ ds. covers_in ds k.owner) d ∙ covers_same rules p j.events j.tentative (length j.lens) s.legal (ap length s.lens) k.owner) kept in
      subst (λ rs. StandTogether reduce rs (flat_map pairs_of (covered_by j.tentative j.lens j.events))) (sym (r ∙ ap (map (λ (k : Kept). k.run)) agree))
      (subst (λ l. StandTogether reduce (covered_runs j.tentative j.events kept) (flat_map pairs_of (covered_by j.tentative l j.events))) (sym s.lens) (cut_stands rules p j.tentative reduce pairs_of j.events kept s.legal s.fit s.by_records.ranges (s.stand t)))

  -- the runs that were copied for a cut stand together for what it declares
  pub sound_cut : (declarations : List (Option Declared)) (runs : List RunValue) → declarations ≡ map (declared j.tentative j.events) (range_with_len 0 (length j.lens)) → runs ≡ map (λ (k : Kept). k.run) (filter (λ (k : Kept). covers_in declarations k.owner) kept) → IsTrue tells → StandTogether reduce runs (flat_map pairs_of (covered_parts declarations))
  sound_cut declarations runs d r t =
      subst (λ parts. StandTogether reduce runs (flat_map pairs_of parts)) (sym (ap covered_parts d ∙ covered_same j.tentative j.lens j.events)) (sound_together declarations runs d r t)

  -- where all splits are won whole, the reduction of the covered runs is that of all records
  pub sound_reduced : AllWon j.lens j.events → (declarations : List (Option Declared)) (folded : List Pair) → declarations ≡ map (declared j.tentative j.events) (range_with_len 0 (length j.lens)) → Folds reduce folded (pairs_where (λ (k : Kept). covers_in declarations k.owner) kept) → IsTrue tells → red reduce folded ≡ red reduce (flat_map pairs_of (whole_parts j.lens))
  sound_reduced won declarations folded d f t =
      let runs : List RunValue = map (λ (k : Kept). k.run) (filter (λ (k : Kept). covers_in declarations k.owner) kept) in
      red_folds reduce folded (pairs_where (λ (k : Kept). covers_in declarations k.owner) kept) f
      ∙ red_stands reduce (flat_map (λ (r : RunValue). r.sheet) runs) (flat_map pairs_of (covered_by j.tentative j.lens j.events)) (sound_together declarations runs d refl t)
      ∙ ap (red reduce) (whole_pairs pairs_of s.by_records j.tentative j.lens j.events (λ i l. (won i l, (s.ranges.each i 0 l).some)))
