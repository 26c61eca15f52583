-- Runs that stand together.
use Rattle.std.proofs.Common.{◌≡◌, ℕ, zero, suc, ◌+◌, ◌<◌, ◌≤◌, Bool, true, false, cond, if◌then◌else◌, Option, Some, None, List, [], ◌∷◌, ◌++◌, length, refl, sym, ap, ◌∙◌, subst, arith, append_assoc}
use Rattle.std.specs.Prelude.{All}
use Rattle.std.specs.List.{flat_map, AllByRecursion, range_with_len}
use Rattle.std.specs.List.Sorted.{IsPermutation}
use Rattle.std.proofs.lemmas.List.Sorted.{IsPermutation-refl, IsPermutation-trans, IsPermutation-append_right, IsPermutation-append_left, IsPermutation-append_comm, IsPermutation-sym}
use Rattle.std.proofs.lemmas.List.Elements.{All-append, All-nil}
use Rattle.std.proofs.lemmas.List.Concat.{flat_map-append}
use Rattle.std.specs.Ordering.{is_gt}
use Rattle.hop_base.specs.declared.value.Val.{Val}
use Rattle.hop_base.specs.declared.value.Pair.{Pair}
use Rattle.hop_base.specs.Order.{IsValidPair}
use Rattle.hop_base.specs.Sorted.{ord, insert_in_order}
use Rattle.hop_base.proofs.Sorted.{SameItems, ord_same}
use Rattle.hop_laws.specs.Stands.{StandsFor}
use Rattle.hop_laws.proofs.StandsLaws.{stands_sorted, stands_merged, stands_through}
use Rattle.hop_base.specs.declared.part.Part.{Part}
use Rattle.hop_run.specs.Runs.{RunValue}
use Rattle.hop_cut.specs.Covered.{StandTogether, part_declared}
use Rattle.hop_shelf.specs.Holds.{RunHolds}
use Rattle.hop_shelf.specs.Parts.{part_cmp, parts_of, IsChain}
use Rattle.hop_shelf.specs.Covered.{IsByRecords, IsOfRanges}
use Rattle.hop_shelf.proofs.CoveredParts.{covered_by, whole_split, whole_parts}
use Rattle.hop_shelf.proofs.Chains.{AllOf, part_total, part_exact, chain_backward}
use Rattle.hop_shelf.proofs.SoundLaws.{parts_all_of}
use Rattle.hop_event.specs.declared.event.Event.{Event}
use Rattle.hop_event.specs.declared.declared.Declared.{Declared}
use Rattle.hop_event.specs.History.{upto, winner, is_revoked}
use Rattle.hop_event.specs.Coverage.{leader, declared, declared_by, tentative_records, records_of, committed_part}
use Rattle.std.specs.Prelude.{nat_lt}
use Rattle.std.proofs.Common.{eqb}
use Rattle.std.proofs.lemmas.List.{append-nil}
use Rattle.std.proofs.Common.{slice_index}
use Rattle.hop_event.specs.Legal.{IsWon}
use Rattle.std.proofs.lemmas.Bool.Decides.{nat_tests}

pub stands_permuted : (reduce : List ℕ → List Val → List ℕ) (sheet ps qs : List Pair) → IsPermutation ps qs → StandsFor reduce sheet ps → StandsFor reduce sheet qs
stands_permuted reduce sheet ps qs p h = stands_through reduce sheet ps qs h (stands_sorted reduce qs ps (IsPermutation-sym ps qs p))

stands_nothing : (reduce : List ℕ → List Val → List ℕ) → StandsFor reduce [] []
stands_nothing reduce = stands_sorted reduce [] [] (IsPermutation-refl [])

valid_sheets : (reduce : List ℕ → List Val → List ℕ) (pairs_of : Part → List Pair) (runs : List RunValue) → AllByRecursion (RunHolds reduce pairs_of) runs → All IsValidPair (flat_map (λ (r : RunValue). r.sheet) runs)
valid_sheets reduce pairs_of [] h = All-nil IsValidPair
valid_sheets reduce pairs_of (r ∷ runs) h = All-append IsValidPair r.sheet (flat_map (λ (r : RunValue). r.sheet) runs) h.0.valid (valid_sheets reduce pairs_of runs h.1)

valid_pairs : (pairs_of : Part → List Pair) → ((q : Part) → All IsValidPair (pairs_of q)) → (qs : List Part) → All IsValidPair (flat_map pairs_of qs)
valid_pairs pairs_of v [] = All-nil IsValidPair
valid_pairs pairs_of v (q ∷ qs) = All-append IsValidPair (pairs_of q) (flat_map pairs_of qs) (v q) (valid_pairs pairs_of v qs)

-- runs stand together for all their parts
pub runs_together : (reduce : List ℕ → List Val → List ℕ) (pairs_of : Part → List Pair) → ((q : Part) → All IsValidPair (pairs_of q)) → (runs : List RunValue) → AllByRecursion (RunHolds reduce pairs_of) runs → StandTogether reduce runs (flat_map pairs_of (flat_map (λ (r : RunValue). r.parts) runs))
runs_together reduce pairs_of v [] h = stands_nothing reduce
runs_together reduce pairs_of v (r ∷ runs) h =
    subst (StandsFor reduce (r.sheet ++ flat_map (λ (r : RunValue). r.sheet) runs)) (sym (flat_map-append pairs_of r.parts (flat_map (λ (r : RunValue). r.parts) runs)))
    (stands_merged reduce r.sheet (flat_map (λ (r : RunValue). r.sheet) runs) (r.sheet ++ flat_map (λ (r : RunValue). r.sheet) runs) (flat_map pairs_of r.parts) (flat_map pairs_of (flat_map (λ (r : RunValue). r.parts) runs))
    (valid_sheets reduce pairs_of runs h.1) (valid_pairs pairs_of v r.parts) (IsPermutation-refl _) h.0.stands (runs_together reduce pairs_of v runs h.1))

-- ---- the order of the parts doesn't matter

module _ {A : Type 0} (f : Part → List A) where
  flat_swap : (x y : Part) (rest after : List A) → IsPermutation (f x ++ rest) after → IsPermutation (f x ++ (f y ++ rest)) (f y ++ after)
  flat_swap x y rest after h =
      let front : IsPermutation ((f x ++ f y) ++ rest) ((f y ++ f x) ++ rest) = IsPermutation-append_left rest _ _ (IsPermutation-append_comm (f x) (f y)) in
      let flat : IsPermutation (f x ++ (f y ++ rest)) (f y ++ (f x ++ rest)) = subst (λ l. IsPermutation l (f y ++ (f x ++ rest))) (append_assoc (f x) (f y) rest) (subst (IsPermutation ((f x ++ f y) ++ rest)) (append_assoc (f y) (f x) rest) front) in
      IsPermutation-trans _ _ _ flat (IsPermutation-append_right (f y) _ _ h)

  flat_insert_step : (x y : Part) (ys : List Part) (b : Bool) → IsPermutation (f x ++ flat_map f ys) (flat_map f (insert_in_order part_cmp x ys)) → IsPermutation (f x ++ (f y ++ flat_map f ys)) (flat_map f (cond b (y ∷ insert_in_order part_cmp x ys) (x ∷ y ∷ ys)))
  flat_insert_step x y ys true h = flat_swap x y (flat_map f ys) (flat_map f (insert_in_order part_cmp x ys)) h
  flat_insert_step x y ys false h = IsPermutation-refl _

  flat_insert : (x : Part) (ys : List Part) → IsPermutation (f x ++ flat_map f ys) (flat_map f (insert_in_order part_cmp x ys))
  flat_insert x [] = IsPermutation-refl _
  flat_insert x (y ∷ ys) = flat_insert_step x y ys (is_gt (part_cmp x y)) (flat_insert x ys)

  pub flat_ord : (xs : List Part) → IsPermutation (flat_map f xs) (flat_map f (ord part_cmp xs))
  flat_ord [] = IsPermutation-refl _
  flat_ord (x ∷ xs) = IsPermutation-trans _ _ _ (IsPermutation-append_right (f x) _ _ (flat_ord xs)) (flat_insert x (ord part_cmp xs))

  pub flat_same : (xs ys : List Part) → SameItems part_cmp xs ys → IsPermutation (flat_map f xs) (flat_map f ys)
  flat_same xs ys s = IsPermutation-trans _ _ _ (flat_ord xs) (subst (λ l. IsPermutation (flat_map f l) (flat_map f ys)) (sym (ord_same part_cmp part_total part_exact xs ys s)) (IsPermutation-sym _ _ (flat_ord ys)))

-- ---- a chain of parts is one range

chain_pairs : (pairs_of : Part → List Pair) → IsOfRanges pairs_of → (i a n t : ℕ) (qs : List Part) → IsChain n t qs → AllOf i a qs → flat_map pairs_of qs ≡ pairs_of (record { split = i; attempt = a; from = n; to = t })
chain_pairs pairs_of r i a n t [] c h = sym (subst (λ m. pairs_of (record { split = i; attempt = a; from = n; to = m }) ≡ []) c (r.nothing i a n))
chain_pairs pairs_of r i a n t (q ∷ qs) c h =
    let here : q ≡ record { split = i; attempt = a; from = n; to = q.to } = ap (λ j. record q { split = j }) h.0.0 ∙ ap (λ b. record { split = i; attempt = b; from = q.from; to = q.to }) h.0.1 ∙ ap (λ m. record { split = i; attempt = a; from = m; to = q.to }) c.0 in
    ap (λ (q : Part). pairs_of q ++ flat_map pairs_of qs) here ∙ ap (λ ps. pairs_of (record { split = i; attempt = a; from = n; to = q.to }) ++ ps) (chain_pairs pairs_of r i a q.to t qs c.2 h.1)
    ∙ sym (r.pieces i a n q.to t (omega (arith, c.0, c.1)) (chain_backward q.to t qs c.2))

-- ---- what is declared

leader_means_step : (f : ℕ → ℕ) (a : ℕ) (d : Declared) (b : Bool) → nat_lt (records_of (leader f a)) (f a) ≡ b → (leader f a ≡ Some d → (d.records ≡ f d.attempt) × (0 < f d.attempt)) → cond b (Some (record { attempt = a; records = f a; committed = false })) (leader f a) ≡ Some d → (d.records ≡ f d.attempt) × (0 < f d.attempt)
leader_means_step f a d true t ih e =
    let same : record { attempt = a; records = f a; committed = false } ≡ d = cc in
    let some : 0 < f a = grind (arith, nat_tests) in
    (sym (ap (λ (d : Declared). d.records) same) ∙ ap f (ap (λ (d : Declared). d.attempt) same), subst (λ b. 0 < f b) (ap (λ (d : Declared). d.attempt) same) some)
leader_means_step f a d false t ih e = ih e

leader_means : (f : ℕ → ℕ) (n : ℕ) (d : Declared) → leader f n ≡ Some d → (d.records ≡ f d.attempt) × (0 < f d.attempt)
unfolding leader
leader_means f zero d e = absurd (let g : None ≡ Some d = e in cc)
leader_means f (suc a) d e = leader_means_step f a d (nat_lt (records_of (leader f a)) (f a)) refl (leader_means f a d) e

live_means : (b : Bool) (u : ℕ) → 0 < (if b then 0 else u) → (if b then 0 else u) ≡ u
live_means true u h = absurd (omega (arith, h))
live_means false u h = refl

committed_means_step : (a n : ℕ) (d : Declared) (b : Bool) → eqb n 0 ≡ b → cond b None (Some (record { attempt = a; records = n; committed = true })) ≡ Some d → (d.records ≡ n) × (0 < n) × (d.attempt ≡ a)
committed_means_step a n d true t e = absurd (let g : None ≡ Some d = e in cc)
committed_means_step a n d false t e =
    let same : record { attempt = a; records = n; committed = true } ≡ d = cc in
    (sym (ap (λ (d : Declared). d.records) same), grind (arith, nat_tests), sym (ap (λ (d : Declared). d.attempt) same))

declared_means_by : (i : ℕ) (h : List Event) (tentative : Bool) (w : Option ℕ) (d : Declared) → declared_by w tentative (tentative_records i h) (λ a. upto i a h) ≡ Some d → (d.records ≡ upto i d.attempt h) × (0 < upto i d.attempt h)
declared_means_by i h tentative (Some a) d e =
    let m = committed_means_step a (upto i a h) d (eqb (upto i a h) 0) refl e in
    (m.0 ∙ ap (λ b. upto i b h) (sym m.2), subst (λ b. 0 < upto i b h) (sym m.2) m.1)
declared_means_by i h true None d e =
    let m = leader_means (tentative_records i h) 16 d e in
    let live = live_means (is_revoked i d.attempt h) (upto i d.attempt h) m.1 in
    (m.0 ∙ live, subst (λ n. 0 < n) live m.1)
declared_means_by i h false None d e = absurd (let g : None ≡ Some d = e in cc)

-- a declared attempt has so many records, and some
pub declared_means : (i : ℕ) (h : List Event) (tentative : Bool) (d : Declared) → declared tentative h i ≡ Some d → (d.records ≡ upto i d.attempt h) × (0 < upto i d.attempt h)
declared_means i h tentative d e = declared_means_by i h tentative (winner i h) d e

-- the parts of the declared attempt
abbrev pub parts_at : ℕ → Option Declared → List Part → List Part
parts_at i None qs = []
parts_at i (Some d) qs = parts_of i d.attempt qs

parts_at_pairs : (pairs_of : Part → List Pair) → IsOfRanges pairs_of → (h : List Event) (tentative : Bool) (qs : List Part) → ((i a : ℕ) → IsChain 0 (upto i a h) (parts_of i a qs)) → (i : ℕ) (o : Option Declared) → declared tentative h i ≡ o → flat_map pairs_of (parts_at i o qs) ≡ flat_map pairs_of (part_declared i o)
parts_at_pairs pairs_of r h tentative qs c i None e = refl
parts_at_pairs pairs_of r h tentative qs c i (Some d) e =
    let m = declared_means i h tentative d e in
    chain_pairs pairs_of r i d.attempt 0 d.records (parts_of i d.attempt qs) (subst (λ n. IsChain 0 n (parts_of i d.attempt qs)) (sym m.0) (c i d.attempt)) (parts_all_of i d.attempt qs) ∙ sym (append-nil _)

-- the parts of the declared attempts emit what is covered
pub covered_pairs : (pairs_of : Part → List Pair) → IsOfRanges pairs_of → (h : List Event) (tentative : Bool) (qs : List Part) → ((i a : ℕ) → IsChain 0 (upto i a h) (parts_of i a qs)) → (is : List ℕ) → flat_map pairs_of (flat_map (λ i. parts_at i (declared tentative h i) qs) is) ≡ flat_map pairs_of (flat_map (λ i. part_declared i (declared tentative h i)) is)
covered_pairs pairs_of r h tentative qs c [] = refl
covered_pairs pairs_of r h tentative qs c (i ∷ is) =
    flat_map-append pairs_of (parts_at i (declared tentative h i) qs) (flat_map (λ i. parts_at i (declared tentative h i) qs) is)
    ∙ ap (λ ps. ps ++ flat_map pairs_of (flat_map (λ i. parts_at i (declared tentative h i) qs) is)) (parts_at_pairs pairs_of r h tentative qs c i (declared tentative h i) refl)
    ∙ ap (λ ps. flat_map pairs_of (part_declared i (declared tentative h i)) ++ ps) (covered_pairs pairs_of r h tentative qs c is)
    ∙ sym (flat_map-append pairs_of (part_declared i (declared tentative h i)) (flat_map (λ i. part_declared i (declared tentative h i)) is))

-- ---- a finished history covers whole splits

won_declares : (tentative : Bool) (h : List Event) (i a n : ℕ) → winner i h ≡ Some a → upto i a h ≡ n → 0 < n → declared tentative h i ≡ Some (record { attempt = a; records = n; committed = true })
won_declares tentative h i a n w u some =
    let f : eqb n 0 ≡ false = grind (arith, nat_tests) in
    ap (λ w. declared_by w tentative (tentative_records i h) (λ a. upto i a h)) w ∙ ap (committed_part a) u ∙ ap (λ (b : Bool). cond b None (Some (record { attempt = a; records = n; committed = true }))) f

whole_pairs_at : (pairs_of : Part → List Pair) → IsByRecords pairs_of → (tentative : Bool) (lens : List ℕ) (h : List Event) (i : ℕ) → IsWon lens h i → 1 ≤ slice_index lens i → flat_map pairs_of (part_declared i (declared tentative h i)) ≡ flat_map pairs_of (whole_split lens i ∷ [])
whole_pairs_at pairs_of r tentative lens h i w some =
    ap (λ o. flat_map pairs_of (part_declared i o)) (won_declares tentative h i w.0 (slice_index lens i) w.1 w.2 some) ∙ ap (λ ps. ps ++ []) (r.alike i w.0 0 0 (slice_index lens i))

whole_pairs_in : (pairs_of : Part → List Pair) → IsByRecords pairs_of → (tentative : Bool) (lens : List ℕ) (h : List Event) → (a n : ℕ) → ((i : ℕ) → a ≤ i → i < a + n → IsWon lens h i × (1 ≤ slice_index lens i)) → flat_map pairs_of (flat_map (λ i. part_declared i (declared tentative h i)) (range_with_len a n)) ≡ flat_map pairs_of (flat_map (λ i. whole_split lens i ∷ []) (range_with_len a n))
whole_pairs_in pairs_of r tentative lens h a zero w = refl
whole_pairs_in pairs_of r tentative lens h a (suc n) w =
    let here = w a (omega arith) (omega arith) in
    let rest = whole_pairs_in pairs_of r tentative lens h (a + 1) n (λ i k l. w i (omega arith) (omega arith)) in
    flat_map-append pairs_of (part_declared a (declared tentative h a)) (flat_map (λ i. part_declared i (declared tentative h i)) (range_with_len (a + 1) n))
    ∙ ap (λ ps. ps ++ flat_map pairs_of (flat_map (λ i. part_declared i (declared tentative h i)) (range_with_len (a + 1) n))) (whole_pairs_at pairs_of r tentative lens h a here.0 here.1)
    ∙ ap (λ ps. flat_map pairs_of (whole_split lens a ∷ []) ++ ps) rest
    ∙ sym (flat_map-append pairs_of (whole_split lens a ∷ []) (flat_map (λ i. whole_split lens i ∷ []) (range_with_len (a + 1) n)))

-- where each winner is there with all its records, what is covered is everything
pub whole_pairs : (pairs_of : Part → List Pair) → IsByRecords pairs_of → (tentative : Bool) (lens : List ℕ) (h : List Event) → ((i : ℕ) → i < length lens → IsWon lens h i × (1 ≤ slice_index lens i)) → flat_map pairs_of (covered_by tentative lens h) ≡ flat_map pairs_of (whole_parts lens)
whole_pairs pairs_of r tentative lens h w = whole_pairs_in pairs_of r tentative lens h 0 (length lens) (λ i k l. w i (omega (arith, l)))
