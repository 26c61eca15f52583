-- A folder holds the files of the spills that were kept, when one more is.
use Rattle.std.proofs.Common.{◌≡◌, ◌≢◌, ◌⊎◌, ℕ, ◌+◌, ◌*◌, ◌/◌, ◌%◌, ◌<◌, ◌≤◌, ◌^◌, ◌&&◌, inl, inr, Bool, true, false, cond, eqb, List, [], ◌∷◌, Option, Some, None, refl, sym, ap, subst, ◌∙◌, arith}
use Rattle.std.specs.Prelude.{All, min, slice_index_or}
use Rattle.hop_machine.specs.declared.words.Turn.{Turn}
use Rattle.hop_machine.specs.home.MapperHome.{has_failed}
use Rattle.hop_mapper.specs.Mappers.{MapperValue}
use Rattle.hop_mapper.specs.Sound.{HoldsSpills, PutOnlySpills, KeepsFolder}
use Rattle.std.specs.FinMap as files
use Rattle.std.proofs.Math.Nat.{lt_of_mul-lt-mul_right, mod-add-div'}
use Rattle.std.proofs.lemmas.Bool.{eqb-true, eq-eqb, cases_lt}
use Rattle.std.proofs.lemmas.List.Elements.{All-head, All-tail}
use Rattle.hop_base.specs.Files.{Files}
use Rattle.hop_base.specs.declared.part.Part.{Part}
use Rattle.hop_base.specs.Meaning.{Meaning}
use Rattle.hop_base.specs.Run.{RunSettings}
use Rattle.hop_base.proofs.Truth.{both_true}
use Rattle.hop_ports.specs.Views.{FolderView, with_file}
use Rattle.hop_records.specs.Records.{lens_of}
use Rattle.hop_shelf.specs.Names.{book_of}
use Rattle.hop_spill.specs.Spelling.{spill_text}
use Rattle.hop_spill.specs.SpillFiles.{name_of, spill_made}
use Rattle.hop_vault.specs.declared.kept.Kept.{Kept}
use Rattle.hop_vault.specs.Rows.{Table, row_of, kept_end, IsChain}
use Rattle.hop_vault.proofs.NameLaws.{name_tells}
use Rattle.hop_vault.proofs.SoundLaws.{chain_up}
use Rattle.hop_press.specs.Fits.{IsMade, KeepsMade}
use Rattle.hop_actors.specs.Spilled.{IsKeptSpill, HoldsMade, IsSpilled, OnlySpills}
use Rattle.hop_mapper.specs.Next.{AddsSpill, AddsAtMost, split_len}
use Rattle.hop_mapper.proofs.Keeping.{get_other, get_itself}
use Rattle.hop_mapper.proofs.OnlySpilled.{only_same, only_both}
use Rattle.hop_mapper.proofs.TurnLaws.{ends_after}

-- numbers of one multiple each, less than a multiple apart
close_multiples : (s a b : ℕ) → a * s < b * s + s → b * s < a * s + s → a ≡ b
close_multiples s a b h k =
    let up : a < b + 1 = lt_of_mul-lt-mul_right s (let e : (b + 1) * s ≡ b * s + s = omega arith in subst (λ n. a * s < n) (sym e) h) in
    let down : b < a + 1 = lt_of_mul-lt-mul_right s (let e : (a + 1) * s ≡ a * s + s = omega arith in subst (λ n. b * s < n) (sym e) k) in
    omega arith

module _ (job : Meaning) (records : List (List ℕ)) (settings : RunSettings) where
  abbrev lens : List ℕ
  lens = lens_of (book_of records settings)

  abbrev Spill : (ℕ → ℕ → ℕ) → Part → Type 0
  Spill kept part = IsKeptSpill lens settings.spill kept part

  abbrev text_of : Part → List ℕ
  text_of part = spill_text (spill_made job records settings.split settings.reducers part)

  abbrev name_at : Part → List ℕ
  name_at part = name_of part.split part.attempt part.from

  -- a chain of made spills ends early enough, and its attempt is one of the run's
  pub record IsBounded (i a last : ℕ) : Type 0 where
    pub split : i < 2 ^ 32
    pub attempt : a < 2 ^ 32
    pub end : last < 2 ^ 32

  row_bounded : (held : Option Files) (i a begins : ℕ) (row : List Kept) (ends : ℕ) → IsChain begins row ends → begins < 2 ^ 32 → begins < ends → All (IsMade job records settings held i a) row → IsBounded i a ends
  row_bounded held i a begins [] ends c b lt h = absurd (omega (arith, c, lt))
  row_bounded held i a begins (kept ∷ []) ends c b lt h =
      let is = (All-head (IsMade job records settings held i a) kept [] h).is_spill in
      let s : i ≤ 1023 = is.split in let t : a ≤ 15 = is.attempt in let u : kept.to ≤ 16777216 = is.to in
      record { split = omega arith; attempt = omega arith; end = let e : kept.to ≡ ends = c.2 in omega arith }
  row_bounded held i a begins (kept ∷ (next ∷ row)) ends c b lt h =
      let is = (All-head (IsMade job records settings held i a) kept (next ∷ row) h).is_spill in
      let u : kept.to ≤ 16777216 = is.to in
      let v : next.from ≡ kept.to = c.2.0 in let w : kept.to < next.to = c.2.1 in let x = chain_up next.to row ends c.2.2 in
      row_bounded held i a kept.to (next ∷ row) ends c.2 (omega arith) (omega arith) (All-tail (IsMade job records settings held i a) kept (next ∷ row) h)

  bounded : (held : Option Files) (rows : Table) → KeepsMade job records settings held rows → (i a : ℕ) → 0 < kept_end rows i a → IsBounded i a (kept_end rows i a)
  bounded held rows h i a lt = row_bounded held i a 0 (row_of rows i a) (kept_end rows i a) (h.chain i a) (omega arith) lt (h.made i a)

  module _ (held now : Option Files) (before after : Table) (part : Part) (adds : AddsSpill job records settings held now before after part) where
    old : ℕ → ℕ → ℕ
    old i a = kept_end before i a

    abbrev is_same : Part → Bool
    is_same q = eqb q.split part.split && eqb q.attempt part.attempt

    end_now : (q : Part) → kept_end after q.split q.attempt ≡ cond (is_same q) part.to (kept_end before q.split q.attempt)
    end_now q = ends_after before after part.split part.attempt adds.kept adds.rows q.split q.attempt ∙ ap (λ (n : ℕ). cond (is_same q) n (kept_end before q.split q.attempt)) adds.kept_is.to_is

    begins : part.split < 2 ^ 32 × part.attempt < 2 ^ 32 × part.from < 2 ^ 32
    begins = let s : part.split ≤ 1023 = adds.spill.split in let t : part.attempt ≤ 15 = adds.spill.attempt in let u : part.from < 16777216 = adds.spill.from in (omega arith, omega arith, omega arith)

    -- an earlier spill has another name
    other_name : (q : Part) → Spill (λ i a. kept_end before i a) q → name_at q ≢ name_at part
    other_name q k e =
        let some : q.from < q.to = k.some in let within : q.to ≤ kept_end before q.split q.attempt = k.within in
        let b = bounded held before adds.before q.split q.attempt (omega arith) in
        let f : q.from < 2 ^ 32 = let z = b.end in omega arith in
        let same = name_tells q.split q.attempt q.from part.split part.attempt part.from b.split b.attempt f begins.0 begins.1 begins.2 e in
        let ends : kept_end before q.split q.attempt ≡ part.from = (λ i. kept_end before (same.0 i) (same.1 i)) ∙ sym adds.next.kept in
        let z = same.2 in omega arith

    grown : (q : Part) → Spill (λ i a. kept_end before i a) q → Spill (λ i a. kept_end after i a) q
    grown q k = record { place = k.place; range = k.range; some = k.some; within = by (is_same q) refl }
      where
        by : (t : Bool) → is_same q ≡ t → q.to ≤ kept_end after q.split q.attempt
        by true e =
            let both = both_true (eqb q.split part.split) (eqb q.attempt part.attempt) e in
            let at : kept_end before q.split q.attempt ≡ part.from = (λ i. kept_end before (eqb-true q.split part.split both.0 i) (eqb-true q.attempt part.attempt both.1 i)) ∙ sym adds.next.kept in
            let n : kept_end after q.split q.attempt ≡ part.to = end_now q ∙ ap (λ (t : Bool). cond t part.to (kept_end before q.split q.attempt)) e in
            let w : q.to ≤ kept_end before q.split q.attempt = k.within in let s = adds.next.some in omega arith
        by false e = let n : kept_end after q.split q.attempt ≡ kept_end before q.split q.attempt = end_now q ∙ ap (λ (t : Bool). cond t part.to (kept_end before q.split q.attempt)) e in let w : q.to ≤ kept_end before q.split q.attempt = k.within in omega arith

    place_now : ℕ
    place_now = part.from / settings.spill

    from_now : part.from ≡ place_now * settings.spill
    unfolding place_now
    from_now = let m = mod-add-div' part.from settings.spill in let z : part.from % settings.spill ≡ 0 = adds.next.begins in omega arith

    -- the spill that was kept now
    newest : Spill (λ i a. kept_end after i a) part
    newest = record {
      place = place_now;
      range = λ i. record { split = part.split; attempt = part.attempt; from = from_now i; to = (adds.next.to ∙ ap (λ n. min (n + settings.spill) (split_len records settings part.split)) from_now) i };
      some = adds.next.some;
      within = let n : kept_end after part.split part.attempt ≡ part.to = end_now part ∙ ap (λ (t : Bool). cond t part.to (kept_end before part.split part.attempt)) (ap (λ (b : Bool). b && eqb part.attempt part.attempt) (eq-eqb part.split part.split refl) ∙ eq-eqb part.attempt part.attempt refl) in omega arith;
    }

    -- a kept spill is an earlier one, or the one that was kept now
    parted : (q : Part) → Spill (λ i a. kept_end after i a) q → Spill (λ i a. kept_end before i a) q ⊎ (q ≡ part)
    parted q k = by (is_same q) refl
      where
        late : (i : q.split ≡ part.split) (a : q.attempt ≡ part.attempt) → q.to ≤ part.to → part.from < q.to → q ≡ part
        late i a up low =
            let f : q.from ≡ k.place * settings.spill = ap (λ (x : Part). x.from) k.range in
            let t : q.to ≡ min (k.place * settings.spill + settings.spill) (split_len records settings q.split) = ap (λ (x : Part). x.to) k.range in
            let u : part.to ≡ min (part.from + settings.spill) (split_len records settings part.split) = adds.next.to in
            let g = from_now in let some : q.from < q.to = k.some in
            let same : k.place ≡ place_now = close_multiples settings.spill k.place place_now (omega arith) (omega arith) in
            let froms : q.from ≡ part.from = f ∙ ap (λ n. n * settings.spill) same ∙ sym g in
            let tos : q.to ≡ part.to = t ∙ (λ j. min (n_at same g j + settings.spill) (split_len records settings (i j))) ∙ sym u in
            λ j. record { split = i j; attempt = a j; from = froms j; to = tos j }
          where
            n_at : (same : k.place ≡ place_now) (g : part.from ≡ place_now * settings.spill) → k.place * settings.spill ≡ part.from
            n_at same g = ap (λ n. n * settings.spill) same ∙ sym g

        early_or : (i : q.split ≡ part.split) (a : q.attempt ≡ part.attempt) → kept_end before q.split q.attempt ≡ part.from → q.to ≤ part.to → (part.from < q.to) ⊎ (q.to ≤ part.from) → Spill (λ i a. kept_end before i a) q ⊎ (q ≡ part)
        early_or i a at up (inr l) = inl (record { place = k.place; range = k.range; some = k.some; within = omega (arith, at, l) })
        early_or i a at up (inl l) = inr (late i a up l)

        by : (t : Bool) → is_same q ≡ t → Spill (λ i a. kept_end before i a) q ⊎ (q ≡ part)
        by false e = let n : kept_end after q.split q.attempt ≡ kept_end before q.split q.attempt = end_now q ∙ ap (λ (t : Bool). cond t part.to (kept_end before q.split q.attempt)) e in let w : q.to ≤ kept_end after q.split q.attempt = k.within in
            inl (record { place = k.place; range = k.range; some = k.some; within = omega arith })
        by true e =
            let both = both_true (eqb q.split part.split) (eqb q.attempt part.attempt) e in
            let i = eqb-true q.split part.split both.0 in let a = eqb-true q.attempt part.attempt both.1 in
            let at : kept_end before q.split q.attempt ≡ part.from = (λ j. kept_end before (i j) (a j)) ∙ sym adds.next.kept in
            let n : kept_end after q.split q.attempt ≡ part.to = end_now q ∙ ap (λ (t : Bool). cond t part.to (kept_end before q.split q.attempt)) e in
            let w : q.to ≤ kept_end after q.split q.attempt = k.within in
            early_or i a at (omega arith) (cases_lt part.from q.to)

    holds_more : (start files_held : Files) → HoldsMade job records settings.split settings.reducers settings.spill lens (λ i a. kept_end before i a) start files_held
        → HoldsMade job records settings.split settings.reducers settings.spill lens (λ i a. kept_end after i a) start (files.insert files_held (name_at part) (text_of part))
    holds_more start files_held h = record {
      made = λ q k. made q (parted q k);
      others = λ name n. get_other files_held name (name_at part) (text_of part) (n part newest) ∙ h.others name (λ q k. n q (grown q k));
    }
      where
        made : (q : Part) → Spill (λ i a. kept_end before i a) q ⊎ (q ≡ part) → files.get (files.insert files_held (name_at part) (text_of part)) (name_at q) ≡ Some (text_of q)
        made q (inl k) = get_other files_held (name_at q) (name_at part) (text_of part) (other_name q k) ∙ h.made q k
        made q (inr e) = subst (λ (x : Part). files.get (files.insert files_held (name_at part) (text_of part)) (name_at x) ≡ Some (text_of x)) (sym e) (get_itself files_held (name_at part) (text_of part))

    abbrev Is : (ℕ → ℕ → ℕ) → Option Files → Option Files → Type 0
    Is kept start folder = IsSpilled job records settings.split settings.reducers settings.spill lens kept start folder

    spilled_at : (start : Option Files) (h : Option Files) → Is (λ i a. kept_end before i a) start h → Is (λ i a. kept_end after i a) start (with_file h (name_at part) (text_of part))
    spilled_at start None s = s
    spilled_at start (Some f) s = (s.0, s.1, holds_more s.0 f s.2)

    -- the folder is that of the start with the files of what was kept
    pub spilled_more : (start : Option Files) → Is (λ i a. kept_end before i a) start held → Is (λ i a. kept_end after i a) start now
    spilled_more start s = subst (λ (h : Option Files). Is (λ i a. kept_end after i a) start h) (sym adds.put) (spilled_at start held s)

abbrev Kept_files : Meaning → List (List ℕ) → RunSettings → (ℕ → ℕ → ℕ) → Option Files → Option Files → Type 0
Kept_files job records settings kept start folder = IsSpilled job records settings.split settings.reducers settings.spill (lens_of (book_of records settings)) kept start folder

-- after a turn that did not fail the folder holds what it is to hold
holds_after : (job : Meaning) (records : List (List ℕ)) (settings : RunSettings) (spills : List (Option Files)) {V K : Type 0} (seen : V → FolderView) (m n : MapperValue V K) (said : Turn) → n.failed ≡ has_failed said
    → (has_failed said ≡ false → AddsAtMost job records settings (seen m.vault.folder).held (seen n.vault.folder).held m.vault.rows n.vault.rows) → n.vault.worker ≡ m.vault.worker → m.failed ≡ false
    → HoldsSpills job records settings spills seen m → HoldsSpills job records settings spills seen n
holds_after job records settings spills seen m n said failed adds worker well h f = subst (λ (w : ℕ). Kept_files job records settings (λ i a. kept_end n.vault.rows i a) (slice_index_or spills w None) (seen n.vault.folder).held) (sym worker) (by (adds (sym failed ∙ f)))
  where
    by : AddsAtMost job records settings (seen m.vault.folder).held (seen n.vault.folder).held m.vault.rows n.vault.rows → Kept_files job records settings (λ i a. kept_end n.vault.rows i a) (slice_index_or spills m.vault.worker None) (seen n.vault.folder).held
    by (inl e) = subst (λ (t : Table). Kept_files job records settings (λ i a. kept_end t i a) (slice_index_or spills m.vault.worker None) (seen n.vault.folder).held) (sym e.1) (subst (λ (o : Option Files). Kept_files job records settings (λ i a. kept_end m.vault.rows i a) (slice_index_or spills m.vault.worker None) o) (sym e.0) (h well))
    by (inr x) = spilled_more job records settings (seen m.vault.folder).held (seen n.vault.folder).held m.vault.rows n.vault.rows x.0 x.1 (slice_index_or spills m.vault.worker None) (h well)

-- nor does it change where nothing is kept and nothing is put
holds_still : (job : Meaning) (records : List (List ℕ)) (settings : RunSettings) (spills : List (Option Files)) {V K : Type 0} (seen : V → FolderView) (m n : MapperValue V K) → n.failed ≡ m.failed → (seen n.vault.folder).held ≡ (seen m.vault.folder).held → n.vault.rows ≡ m.vault.rows → n.vault.worker ≡ m.vault.worker
    → HoldsSpills job records settings spills seen m → HoldsSpills job records settings spills seen n
holds_still job records settings spills seen m n failed held rows worker h f =
    subst (λ (w : ℕ). Kept_files job records settings (λ i a. kept_end n.vault.rows i a) (slice_index_or spills w None) (seen n.vault.folder).held) (sym worker)
    (subst (λ (t : Table). Kept_files job records settings (λ i a. kept_end t i a) (slice_index_or spills m.vault.worker None) (seen n.vault.folder).held) (sym rows)
    (subst (λ (o : Option Files). Kept_files job records settings (λ i a. kept_end m.vault.rows i a) (slice_index_or spills m.vault.worker None) o) (sym held) (h (sym failed ∙ f))))

-- and at every answer only files of spills were put, if none else was put since the last one
only_after : (spills : List (Option Files)) {V K : Type 0} (seen : V → FolderView) (m n : MapperValue V K) → OnlySpills (seen m.vault.folder).held (seen n.vault.folder).held → n.vault.worker ≡ m.vault.worker → PutOnlySpills spills seen m → PutOnlySpills spills seen n
only_after spills seen m n only worker h =
    subst (λ (w : ℕ). OnlySpills (slice_index_or spills w None) (seen n.vault.folder).held) (sym worker) (only_both (slice_index_or spills m.vault.worker None) (seen m.vault.folder).held (seen n.vault.folder).held h only)

-- both after a turn
pub folder_after : (job : Meaning) (records : List (List ℕ)) (settings : RunSettings) (spills : List (Option Files)) {V K : Type 0} (seen : V → FolderView) (m n : MapperValue V K) (said : Turn) → n.failed ≡ has_failed said
    → (has_failed said ≡ false → AddsAtMost job records settings (seen m.vault.folder).held (seen n.vault.folder).held m.vault.rows n.vault.rows) → OnlySpills (seen m.vault.folder).held (seen n.vault.folder).held → n.vault.worker ≡ m.vault.worker → m.failed ≡ false
    → KeepsFolder job records settings spills seen m → KeepsFolder job records settings spills seen n
folder_after job records settings spills seen m n said failed adds only worker well h = record {
  only = only_after spills seen m n only worker h.only;
  spilled = holds_after job records settings spills seen m n said failed adds worker well h.spilled;
}

-- and after a call that keeps nothing and puts nothing
pub folder_still : (job : Meaning) (records : List (List ℕ)) (settings : RunSettings) (spills : List (Option Files)) {V K : Type 0} (seen : V → FolderView) (m n : MapperValue V K) → n.failed ≡ m.failed → (seen n.vault.folder).held ≡ (seen m.vault.folder).held → n.vault.rows ≡ m.vault.rows → n.vault.worker ≡ m.vault.worker
    → KeepsFolder job records settings spills seen m → KeepsFolder job records settings spills seen n
folder_still job records settings spills seen m n failed held rows worker h = record {
  only = only_after spills seen m n (only_same (seen m.vault.folder).held (seen n.vault.folder).held held) worker h.only;
  spilled = holds_still job records settings spills seen m n failed held rows worker h.spilled;
}
