-- What is read back of a held range stands for it.
use Rattle.std.proofs.Common.{◌≡◌, ℕ, ◌<◌, ◌≤◌, List, [], ◌∷◌, ◌++◌, map, Option, Some, None, append-nil, Bool, refl, sym, ap, ◌∙◌, subst, arith}
use Rattle.std.specs.Prelude.{All, IsSome, IsTrue}
use Rattle.std.specs.List.{AllByRecursion}
use Rattle.std.specs.FinMap as files_map
use Rattle.std.proofs.lemmas.Bool.{true≢false}
use Rattle.std.proofs.lemmas.List.FromFn.{get_or-map-range_with_len}
use Rattle.std.proofs.lemmas.List.Elements.{All-from_recursion, recursion_from_All}
use Rattle.std.proofs.lemmas.List.Sorted.{IsPermutation-refl, IsPermutation-sym, All-permutation}
use Rattle.hop_base.specs.Files.{Files}
use Rattle.hop_base.specs.Meaning.{Meaning}
use Rattle.hop_base.specs.Run.{RunSettings}
use Rattle.hop_base.specs.Sorted.{ord}
use Rattle.hop_base.specs.Order.{IsValidPair, pair_cmp}
use Rattle.hop_base.specs.declared.part.Part.{Part}
use Rattle.hop_base.specs.declared.value.Pair.{Pair}
use Rattle.hop_base.specs.declared.value.Val.{Val}
use Rattle.hop_run.specs.Runs.{RunValue, RunStands}
use Rattle.hop_shelf.specs.Sound.{IsParcel}
use Rattle.hop_shelf.specs.Parts.{IsChain as AreConsecutive}
use Rattle.hop_inner.specs.Messages.{FitsParcel}
use Rattle.hop_laws.specs.Stands.{StandsFor}
use Rattle.hop_laws.proofs.Emitted.{valid_part}
use Rattle.hop_laws.proofs.StandsLaws.{stands_itself, stands_through, stands_sorted, stands_merged, stands_combined}
use Rattle.hop_run.proofs.MergeLaws.{ord_permutes}
use Rattle.hop_shelf.specs.Names.{IsRun, pairs_of}
use Rattle.hop_shelf.proofs.RecordLaws.{by_records}
use Rattle.hop_spill.specs.declared.spill.Spill.{Spill}
use Rattle.hop_spill.specs.Spelling.{spill_text}
use Rattle.hop_spill.specs.SpillFiles.{name_of, sheet_made}
use Rattle.hop_vault.specs.declared.kept.Kept.{Kept}
use Rattle.hop_vault.specs.Rows.{Table, row_of, range_of, IsChain, IsStretch}
use Rattle.hop_vault.specs.Stored.{AreHeldFrom, sheet_of}
use Rattle.hop_vault.specs.Vaults.{AreOfHeld}
use Rattle.hop_press.specs.Fits.{made_at, IsMade, KeepsMade, IsWhole}
use Rattle.hop_press.specs.Faults.{pairs_in}
use Rattle.hop_press.proofs.ChainLaws.{chain_le}

-- what holds of all holds of those behind
all_behind : {X : Type 0} (P : X → Type 0) (xs ys : List X) → AllByRecursion P (xs ++ ys) → AllByRecursion P ys
all_behind P [] ys h = h
all_behind P (x ∷ xs) ys h = all_behind P xs ys h.1

all_before : {X : Type 0} (P : X → Type 0) (xs ys : List X) → AllByRecursion P (xs ++ ys) → AllByRecursion P xs
all_before P [] ys h = tt
all_before P (x ∷ xs) ys h = (h.0, all_before P xs ys h.1)

-- what holds of all spills of a row holds of a stretch of it
all_within : (P : Kept → Type 0) (row : List Kept) (from to : ℕ) (spills : List Kept) → IsStretch row from to spills → All P row → AllByRecursion P spills
all_within P row from to spills x h =
    all_before P spills x.after (all_behind P x.before (spills ++ x.after) (subst (λ (r : List Kept). AllByRecursion P r) x.parts (recursion_from_All P row h)))

map_twice : {X Y Z : Type 0} (g : Y → Z) (f : X → Y) (xs : List X) → map g (map f xs) ≡ map (λ x. g (f x)) xs
map_twice g f [] = refl
map_twice g f (x ∷ xs) = ap (λ t. g (f x) ∷ t) (map_twice g f xs)

module _ (job : Meaning) (records : List (List ℕ)) (settings : RunSettings) (run : IsRun job records settings) where
  -- a range of an attempt
  abbrev part_at : ℕ → ℕ → ℕ → ℕ → Part
  part_at i a from to = record { split = i; attempt = a; from = from; to = to }

  module _ (files : Files) (i a : ℕ) where
    -- the texts of spills that the run makes are held
    held_from : (from : ℕ) (spills : List Kept) (to : ℕ) → IsChain from spills to → AllByRecursion (IsMade job records settings (Some files) i a) spills → AreHeldFrom files i a from (map (made_at job records settings i a) spills) to
    held_from from [] to chain each = chain
    held_from from (kept ∷ spills) to chain each =
        (each.0.is_spill, chain.0, subst (λ n. files_map.get files (name_of i a n) ≡ Some (spill_text (made_at job records settings i a kept))) chain.0 each.0.text_is, held_from kept.to spills to chain.2 each.1)

  module _ (p : ℕ) (below : p < settings.reducers) (i a : ℕ) where
    abbrev sheet_at : Kept → List Pair
    sheet_at kept = sheet_of (made_at job records settings i a kept) p

    abbrev pairs_at : ℕ → ℕ → List Pair
    pairs_at from to = pairs_of job records settings p (part_at i a from to)

    valid : (q : Part) → All IsValidPair (pairs_of job records settings p q)
    valid q = valid_part job run.lawful records run.short settings.split p settings.reducers q

    -- a sheet that the run makes stands for its range
    sheet_stands : (kept : Kept) → StandsFor job.reduced (sheet_at kept) (pairs_at kept.from kept.to)
    sheet_stands kept =
        let pairs : List Pair = pairs_at kept.from kept.to in
        let made = sheet_made job records settings.split settings.reducers (range_of i a kept) in
        let stands = stands_combined job.combined job.reduced pairs (made p) pairs run.lawful.combines_well run.lawful.reduces_alike (valid (range_of i a kept)) (IsPermutation-refl (made p)) (stands_itself job.reduced pairs) in
        subst (λ (sheet : List Pair). StandsFor job.reduced sheet pairs) (sym (get_or-map-range_with_len made 0 settings.reducers p p [] below (omega arith))) stands

    -- the sheets of ranges that follow each other stand for them together
    sheets_stand : (from : ℕ) (spills : List Kept) (to : ℕ) → IsChain from spills to → AllByRecursion IsValidPair (pairs_in (map sheet_at spills)) → StandsFor job.reduced (pairs_in (map sheet_at spills)) (pairs_at from to)
    sheets_stand from [] to chain each =
        let none : pairs_at from to ≡ [] = ap (λ n. pairs_at from n) (sym chain) ∙ (by_records job records settings p run).ranges.nothing i a from in
        subst (λ (ps : List Pair). StandsFor job.reduced [] ps) (sym none) (stands_itself job.reduced [])
    sheets_stand from (kept ∷ spills) to chain each =
        let later : List Pair = pairs_in (map sheet_at spills) in
        let behind : AllByRecursion IsValidPair later = all_behind IsValidPair (sheet_at kept) later each in
        let l : kept.to ≤ to = chain_le kept.to spills to chain.2 in
        let f : from ≤ kept.to = let t = chain.1 in omega arith in
        let whole : pairs_at from to ≡ pairs_at from kept.to ++ pairs_at kept.to to = (by_records job records settings p run).ranges.pieces i a from kept.to to f l in
        let here : StandsFor job.reduced (sheet_at kept) (pairs_at from kept.to) = subst (λ n. StandsFor job.reduced (sheet_at kept) (pairs_at n kept.to)) chain.0 (sheet_stands kept) in
        let rest : StandsFor job.reduced later (pairs_at kept.to to) = sheets_stand kept.to spills to chain.2 behind in
        subst (λ (ps : List Pair). StandsFor job.reduced (sheet_at kept ++ later) ps) (sym whole)
        (stands_merged job.reduced (sheet_at kept) later (sheet_at kept ++ later) (pairs_at from kept.to) (pairs_at kept.to to) (All-from_recursion IsValidPair later behind) (valid (part_at i a from kept.to)) (IsPermutation-refl (sheet_at kept ++ later)) here rest)

  -- what is read back of a held range stands for it, where the folder tells
  pub held_stands : (held : Option Files) (table : Table) (part : Part) (p : ℕ) (sheets : List (List Pair)) → p < settings.reducers → KeepsMade job records settings held table → IsWhole table part → AreOfHeld held part p sheets → IsSome held → All IsValidPair (pairs_in sheets)
      → StandsFor job.reduced (ord pair_cmp (pairs_in sheets)) (pairs_of job records settings p part)
  held_stands None table part p sheets below keeps whole of_held some each = absurd (true≢false (sym some))
  held_stands (Some files) table part p sheets below keeps whole of_held some each =
      let i = part.split in let a = part.attempt in
      let made = all_within (IsMade job records settings (Some files) i a) (row_of table i a) part.from part.to whole.spills whole.stretch (keeps.made i a) in
      let spills : List Spill = map (made_at job records settings i a) whole.spills in
      let are : sheets ≡ map (sheet_at p below i a) whole.spills =
      of_held files spills refl (held_from files i a part.from whole.spills part.to whole.stretch.chain made)
      ∙ map_twice (λ (spill : Spill). sheet_of spill p) (made_at job records settings i a) whole.spills in
      let known : All IsValidPair (pairs_in (map (sheet_at p below i a) whole.spills)) = subst (λ (t : List (List Pair)). All IsValidPair (pairs_in t)) are each in
      let stands : StandsFor job.reduced (pairs_in sheets) (pairs_of job records settings p part) =
      subst (λ (t : List (List Pair)). StandsFor job.reduced (pairs_in t) (pairs_of job records settings p part)) (sym are)
      (sheets_stand p below i a part.from whole.spills part.to whole.stretch.chain (recursion_from_All IsValidPair (pairs_in (map (sheet_at p below i a) whole.spills)) known)) in
      stands_through job.reduced (ord pair_cmp (pairs_in sheets)) (pairs_in sheets) (pairs_of job records settings p part) (stands_sorted job.reduced (pairs_in sheets) (ord pair_cmp (pairs_in sheets)) (ord_permutes (pairs_in sheets))) stands

  -- each kept spill of an attempt has a sheet of partition p
  pub have_sheets : (held : Option Files) (table : Table) (i a p : ℕ) → p < settings.reducers → KeepsMade job records settings held table → All (λ (kept : Kept). p < kept.sheets) (row_of table i a)
  have_sheets held table i a p below keeps k d lt = let t = (keeps.made i a k d lt).sheets_are in subst (λ n. p < n) (sym t) below

-- a run of one part is a parcel of it
pub fits_parcel : (tells : Bool) (reduced : List ℕ → List Val → List ℕ) (pairs : Part → List Pair) (part : Part) (run : RunValue) → run.parts ≡ part ∷ [] → part.from < part.to → All IsValidPair run.sheet → (IsTrue tells → RunStands reduced pairs run) → FitsParcel tells reduced pairs (record { part = part; run = run })
fits_parcel tells reduced pairs part run is some valid stands =
    let Own : Part → Type 0 = λ q. (q.split ≡ part.split) × (q.attempt ≡ part.attempt) in
    record {
      parts = record {
        chain = subst (λ (qs : List Part). AreConsecutive part.from part.to qs) (sym is) (refl, some, refl);
        own = subst (λ (qs : List Part). All Own qs) (sym is) (All-from_recursion Own (part ∷ []) ((refl, refl), tt));
      };
      stands = λ told. record { valid = valid; stands = stands told };
    }

-- a run of one part stands for what its pairs stand for
pub one_part : (reduced : List ℕ → List Val → List ℕ) (pairs : Part → List Pair) (part : Part) (sheet : List Pair) (run : RunValue) → run ≡ record { sheet = sheet; parts = part ∷ [] } → StandsFor reduced sheet (pairs part) → RunStands reduced pairs run
one_part reduced pairs part sheet run is h =
    subst (λ (r : RunValue). RunStands reduced pairs r) (sym is) (subst (λ (ps : List Pair). StandsFor reduced sheet ps) (sym (append-nil (pairs part))) h)

-- pairs in order are valid only where all pairs are
pub ordered_valid : (pairs sheet : List Pair) → sheet ≡ ord pair_cmp pairs → All IsValidPair sheet → All IsValidPair pairs
ordered_valid pairs sheet is h = All-permutation IsValidPair (ord pair_cmp pairs) pairs (IsPermutation-sym pairs (ord pair_cmp pairs) (ord_permutes pairs)) (subst (λ (ps : List Pair). All IsValidPair ps) is h)

-- a run that is the part's, and stands where the folder tells, fits
pub fits_offered : (tells : Bool) (reduced : List ℕ → List Val → List ℕ) (pairs : Part → List Pair) (part : Part) (run : RunValue) → IsParcel part run → (IsTrue tells → RunStands reduced pairs run) → All IsValidPair run.sheet → FitsParcel tells reduced pairs (record { part = part; run = run })
fits_offered tells reduced pairs part run own stands valid = record { parts = own; stands = λ told. record { valid = valid; stands = stands told } }
