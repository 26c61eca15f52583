-- A range that may be fetched is one of whole kept spills, and what is fetched stands for it.
use Rattle.std.proofs.Common.{◌≡◌, ◌⊎◌, ℕ, ◌+◌, ◌*◌, ◌/◌, ◌%◌, ◌<◌, ◌≤◌, inl, inr, List, [], ◌∷◌, ◌++◌, Option, refl, sym, ap, ◌∙◌, subst, arith}
use Rattle.std.specs.Prelude.{All, min, slice_index, IsSome, is_some}
use Rattle.std.proofs.Math.Nat.{mod-add-div', lt_of_mul-lt-mul_right, mul-le-mul_right, add-mod_right, zero-mod, eq-or-lt_of_le}
use Rattle.std.proofs.lemmas.Bool.{cases_lt}
use Rattle.std.proofs.lemmas.List.Elements.{All-head, All-tail, All-nil, All-append}
use Rattle.hop_base.specs.Files.{Files}
use Rattle.hop_base.specs.declared.part.Part.{Part}
use Rattle.hop_base.specs.declared.value.Pair.{Pair}
use Rattle.hop_base.specs.Meaning.{Meaning}
use Rattle.hop_base.specs.Run.{ScriptLines, RunSettings}
use Rattle.hop_records.specs.Records.{lens_of}
use Rattle.hop_shelf.specs.Names.{book_of}
use Rattle.hop_vault.specs.declared.kept.Kept.{Kept}
use Rattle.hop_vault.specs.Rows.{Table, row_of, kept_end, IsChain, IsStretch}
use Rattle.hop_vault.proofs.SoundLaws.{chain_up}
use Rattle.hop_base.specs.Order.{IsSheet, IsValidPair, pair_cmp}
use Rattle.hop_base.specs.Sorted.{ord}
use Rattle.hop_laws.proofs.StandsLaws.{stands_sorted, stands_through}
use Rattle.hop_ports.specs.Views.{FolderView}
use Rattle.hop_ports.specs.Causes.{OnlyRead}
use Rattle.hop_run.proofs.MergeLaws.{ord_permutes}
use Rattle.hop_shelf.specs.Names.{pairs_of, rules_of, IsRun}
use Rattle.hop_vault.specs.declared.kept.FetchFault.{FetchFault}
use Rattle.hop_vault.specs.declared.kept.FetchFault.TheVariants as fetch
use Rattle.hop_vault.specs.Reads.{GetsAnswered}
use Rattle.hop_vault.specs.Vaults.{VaultValue, AreOfHeld, FetchCause}
use Rattle.hop_press.specs.Faults.{pairs_in}
use Rattle.hop_press.specs.Fits.{IsMade, KeepsMade, IsWhole}
use Rattle.hop_press.proofs.FetchedLaws.{held_stands}
use Rattle.hop_actors.specs.Counting.{StoreCause}
use Rattle.hop_actors.specs.Spilled.{TogetherStand}
use Rattle.hop_mapper.specs.Mappers.{counts_of}
use Rattle.hop_mapper.specs.Faults.{fetch_fault}
use Rattle.hop_mapper.specs.Next.{KeepsWithin}
use Rattle.hop_mapper.proofs.FaultLaws.{counts_same}
use Rattle.hop_mapper.proofs.NamedLaws.{damaged_named, collides_named}
use Rattle.std.proofs.lemmas.List.Sorted.{IsPermutation-sym}

-- a multiple that is above another one is at least one more
next_multiple : (s a b : ℕ) → 0 < s → a % s ≡ 0 → b % s ≡ 0 → a < b → a + s ≤ b
next_multiple s a b some am bm lt =
    let p = mod-add-div' a s in let q = mod-add-div' b s in
    let x : a / s * s ≡ a = omega arith in let y : b / s * s ≡ b = omega arith in
    let up : a / s < b / s = lt_of_mul-lt-mul_right s (subst (λ n. n < b / s * s) (sym x) (subst (λ n. a < n) (sym y) lt)) in
    by (a / s) (b / s) x y up
  where
    by : (c d : ℕ) → c * s ≡ a → d * s ≡ b → c < d → a + s ≤ b
    by c d x y up =
        let z : (c + 1) * s ≤ d * s = mul-le-mul_right s (omega arith) in let w : (c + 1) * s ≡ c * s + s = omega arith in omega arith

module _ (job : Meaning) (records : List (List ℕ)) (settings : RunSettings) (held : Option Files) (i a : ℕ) (some_spill : 0 < settings.spill) where
  abbrev Made : Kept → Type 0
  Made kept = IsMade job records settings held i a kept

  abbrev len : ℕ
  len = slice_index (lens_of (book_of records settings)) i

  -- a row cut at a place
  pub record IsCut (row : List Kept) (begins at ends : ℕ) : Type 0 where
    pub before : List Kept
    pub after : List Kept
    pub parts : row ≡ before ++ after
    pub first : IsChain begins before at
    pub later : IsChain at after ends
    pub made : All Made after

  cut_here : (row : List Kept) (begins at ends : ℕ) → IsChain begins row ends → All Made row → begins ≡ at → IsCut row begins at ends
  cut_here row begins at ends c m e = record { before = []; after = row; parts = refl; first = e; later = subst (λ (n : ℕ). IsChain n row ends) e c; made = m }

  -- behind the last record of the split nothing is kept
  at_end : (row : List Kept) (begins ends : ℕ) → IsChain begins row ends → All Made row → len ≤ begins → begins ≡ ends
  at_end [] begins ends c m h = c
  at_end (kept ∷ row) begins ends c m h =
      let to : kept.to ≡ min (kept.from + settings.spill) len = (All-head Made kept row m).to_is in
      let from : kept.from ≡ begins = c.0 in let lt : begins < kept.to = c.1 in absurd (omega arith)

  cut_next : (kept : Kept) (row : List Kept) (begins at ends : ℕ) → IsChain begins (kept ∷ row) ends → All Made (kept ∷ row) → (begins % settings.spill ≡ 0) ⊎ (begins ≡ ends) → begins < at → at ≤ ends → (at % settings.spill ≡ 0) ⊎ (at ≡ ends)
      → ((kept.to % settings.spill ≡ 0) ⊎ (kept.to ≡ ends)) × (kept.to ≤ at)
  cut_next kept row begins at ends c m (inr e) lt high t = let x : begins < kept.to = c.1 in let y = chain_up kept.to row ends c.2 in absurd (omega arith)
  cut_next kept row begins at ends c m (inl b) lt high t =
      let to : kept.to ≡ min (kept.from + settings.spill) len = (All-head Made kept row m).to_is in
      let from : kept.from ≡ begins = c.0 in
      by to from (cases_lt len (begins + settings.spill))
    where
      up : kept.to ≤ ends
      up = chain_up kept.to row ends c.2

      reaches : (at % settings.spill ≡ 0) ⊎ (at ≡ ends) → (begins + settings.spill ≤ at) ⊎ (at ≡ ends)
      reaches (inl z) = inl (next_multiple settings.spill begins at some_spill b z lt)
      reaches (inr e) = inr e

      whole : kept.to ≡ begins + settings.spill → (begins + settings.spill ≤ at) ⊎ (at ≡ ends) → ((kept.to % settings.spill ≡ 0) ⊎ (kept.to ≡ ends)) × (kept.to ≤ at)
      whole e (inl l) = (inl (ap (λ n. n % settings.spill) e ∙ add-mod_right begins settings.spill ∙ b), omega arith)
      whole e (inr l) = let u = up in (inl (ap (λ n. n % settings.spill) e ∙ add-mod_right begins settings.spill ∙ b), omega arith)

      last : kept.to ≡ len → len < begins + settings.spill → (begins + settings.spill ≤ at) ⊎ (at ≡ ends) → ((kept.to % settings.spill ≡ 0) ⊎ (kept.to ≡ ends)) × (kept.to ≤ at)
      last e short r = let d = at_end row kept.to ends c.2 (All-tail Made kept row m) (omega arith) in (inr d, so d r)
        where
          so : kept.to ≡ ends → (begins + settings.spill ≤ at) ⊎ (at ≡ ends) → kept.to ≤ at
          so d (inl l) = absurd (omega arith)
          so d (inr l) = omega arith

      by : kept.to ≡ min (kept.from + settings.spill) len → kept.from ≡ begins → (len < begins + settings.spill) ⊎ (begins + settings.spill ≤ len) → ((kept.to % settings.spill ≡ 0) ⊎ (kept.to ≡ ends)) × (kept.to ≤ at)
      by to from (inl short) = last (omega arith) short (reaches t)
      by to from (inr long) = whole (omega arith) (reaches t)

  cut_at : (row : List Kept) (begins at ends : ℕ) → IsChain begins row ends → All Made row → (begins % settings.spill ≡ 0) ⊎ (begins ≡ ends) → begins ≤ at → at ≤ ends → (at % settings.spill ≡ 0) ⊎ (at ≡ ends) → IsCut row begins at ends
  cut_at [] begins at ends c m b low high t = cut_here [] begins at ends c m (omega (arith, c))
  cut_at (kept ∷ row) begins at ends c m b low high t =
      by (λ x y. cut_at row kept.to at ends c.2 (All-tail Made kept row m) x y high t) (eq-or-lt_of_le low)
    where
      by : ((kept.to % settings.spill ≡ 0) ⊎ (kept.to ≡ ends) → kept.to ≤ at → IsCut row kept.to at ends) → (begins ≡ at) ⊎ (begins < at) → IsCut (kept ∷ row) begins at ends
      by rest (inl e) = cut_here (kept ∷ row) begins at ends c m e
      by rest (inr lt) =
          let n = cut_next kept row begins at ends c m b lt high t in
          let r = rest n.0 n.1 in record { before = kept ∷ r.before; after = r.after; parts = ap (λ xs. kept ∷ xs) r.parts; first = (c.0, c.1, r.first); later = r.later; made = r.made }

  -- a range that begins and ends where spills do is one of whole spills
  pub stretch_of : (row : List Kept) (ends from to : ℕ) → IsChain 0 row ends → All Made row → from < to → from % settings.spill ≡ 0 → (to % settings.spill ≡ 0) ⊎ (to ≡ ends) → to ≤ ends → (spills : List Kept) × IsStretch row from to spills
  stretch_of row ends from to c m some b t high =
      let first = cut_at row 0 from ends c m (inl (zero-mod settings.spill)) (omega arith) (omega arith) (inl b) in
      let second = cut_at first.after from to ends first.later first.made (inl b) (omega arith) high t in
      (second.before, record { before = first.before; after = second.after; parts = first.parts ∙ ap (λ xs. first.before ++ xs) second.parts; chain = second.first; some = some })

-- so of a range that may be fetched
pub whole_range : (job : Meaning) (records : List (List ℕ)) (settings : RunSettings) (held : Option Files) (rows : Table) (part : Part) → 0 < settings.spill → KeepsMade job records settings held rows
    → part.from < part.to → part.from % settings.spill ≡ 0 → (part.to % settings.spill ≡ 0) ⊎ (part.to ≡ kept_end rows part.split part.attempt) → part.to ≤ kept_end rows part.split part.attempt → IsWhole rows part
whole_range job records settings held rows part some keeps lt b t high =
    let s = stretch_of job records settings held part.split part.attempt some (row_of rows part.split part.attempt) (kept_end rows part.split part.attempt) part.from part.to (keeps.chain part.split part.attempt) (keeps.made part.split part.attempt) lt b t high in
    record { spills = s.0; stretch = s.1 }

-- # What is fetched

pairs_valid : (sheets : List (List Pair)) → All IsSheet sheets → All IsValidPair (pairs_in sheets)
pairs_valid [] h = All-nil IsValidPair
pairs_valid (sheet ∷ sheets) h = All-append IsValidPair sheet (pairs_in sheets) (All-head IsSheet sheet sheets h).valid (pairs_valid sheets (All-tail IsSheet sheet sheets h))

-- it stands for the range
pub fetched_stands : (job : Meaning) (records : List (List ℕ)) (settings : RunSettings) → IsRun job records settings → (held : Option Files) (rows : Table) (part : Part) (p : ℕ) (sheets : List (List Pair)) → p < settings.reducers → KeepsMade job records settings held rows → IsWhole rows part → AreOfHeld held part p sheets → IsSome held → All IsSheet sheets
    → TogetherStand job.reduced sheets (pairs_of job records settings p part)
fetched_stands job records settings run held rows part p sheets below keeps whole are told each =
    let s = held_stands job records settings run held rows part p sheets below keeps whole are told (pairs_valid sheets each) in
    stands_through job.reduced (pairs_in sheets) (ord pair_cmp (pairs_in sheets)) (pairs_of job records settings p part) (stands_sorted job.reduced (ord pair_cmp (pairs_in sheets)) (pairs_in sheets) (IsPermutation-sym (pairs_in sheets) (ord pair_cmp (pairs_in sheets)) (ord_permutes (pairs_in sheets)))) s

module _ {V : Type 0} (seen : V → FolderView) (a b : VaultValue V) (read : OnlyRead (seen a.folder) (seen b.folder)) (part : Part) (whole : IsWhole a.rows part) where
  module _ (job : Meaning) (records : List (List ℕ)) (script : ScriptLines) (settings : RunSettings) (some_spill : 1 ≤ settings.spill)
      (keeps : KeepsMade job records settings (seen a.folder).held a.rows) (ends : KeepsWithin (rules_of records script settings) a.rows) where
    -- why it can't be
    pub fetch_cause : (w p : ℕ) (f : FetchFault) → GetsAnswered (seen a.folder) (seen b.folder) f → FetchCause seen a b part p f → StoreCause job records script settings w (counts_of seen a) (counts_of seen b) (fetch_fault w f)
    fetch_cause w p (fetch.NotKept have) answered cause = absurd (cause.2 whole.spills whole.stretch)
    fetch_cause w p fetch.StoreFailed answered cause = (refl, inr (record { tells = ap is_some read.held; gets = cause; puts = read.puts }))
    fetch_cause w p (fetch.Damaged at kept found) answered cause =
        (refl, ap is_some cause.untold, cause.differs, counts_same seen a b read answered, damaged_named job records script settings (seen a.folder).held a.rows some_spill keeps ends part at kept found cause)
    fetch_cause w p (fetch.Collides at place) answered cause =
        (refl, ap is_some cause.untold, counts_same seen a b read answered, collides_named job records script settings (seen a.folder).held a.rows some_spill keeps ends part p at place cause)
    fetch_cause w p fetch.NoMemory answered cause = counts_same seen a b read answered
