-- A kept spill is one of the run: what a fault names of it.
use Rattle.std.proofs.Common.{◌≡◌, ◌⊎◌, ℕ, ◌+◌, ◌*◌, ◌/◌, ◌%◌, ◌<◌, ◌≤◌, ◌&&◌, inl, inr, Bool, true, false, cond, eqb, List, [], ◌∷◌, ◌++◌, Option, refl, sym, ap, ◌∙◌, subst, arith}
use Rattle.std.specs.Prelude.{All, Contains, IfErr, OnOk, Result, Ok, Err, min}
use Rattle.std.specs.List.{AllByRecursion}
use Rattle.std.proofs.Math.Nat.{mod-add-div', add-mod_right, zero-mod}
use Rattle.std.proofs.lemmas.Bool.{cases_lt, eqb-true}
use Rattle.std.proofs.lemmas.List.Elements.{All-contains, All-from_recursion, All-head, All-tail, Contains-append_left, Contains-append_right}
use Rattle.hop_base.specs.Files.{Files}
use Rattle.hop_base.specs.Meaning.{Meaning}
use Rattle.hop_base.specs.Run.{ScriptLines, RunSettings}
use Rattle.hop_base.specs.declared.part.Part.{Part}
use Rattle.hop_base.proofs.Truth.{both_true}
use Rattle.hop_event.specs.Legal.{Rules}
use Rattle.hop_ports.specs.Views.{FolderView}
use Rattle.hop_shelf.specs.Names.{rules_of}
use Rattle.hop_spill.specs.declared.spill.Spill.{Spill}
use Rattle.hop_spill.specs.SpillFiles.{spill_made}
use Rattle.hop_vault.specs.declared.kept.Kept.{Kept}
use Rattle.hop_vault.specs.declared.kept.KeepFault.{KeepFault}
use Rattle.hop_vault.specs.declared.kept.KeepFault.TheVariants as fault
use Rattle.hop_vault.specs.Rows.{Table, row_of, end_of, kept_end, range_of, IsChain, SameRows, AddsTo}
use Rattle.hop_vault.specs.Vaults.{IsKeptIn, KeepCause, IsOfRange, IsDamaged, Collides}
use Rattle.hop_vault.proofs.SoundLaws.{chain_up}
use Rattle.hop_machine.specs.step.Pushing.{kept_end as last_end}
use Rattle.hop_press.specs.Fits.{IsMade, KeepsMade}
use Rattle.hop_actors.specs.Named.{NamesSpill, NamesText}
use Rattle.hop_mapper.specs.Next.{IsNext, EndsWithin, KeepsWithin, split_len}
use Rattle.hop_mapper.proofs.TurnLaws.{ends_after}

-- # Where the spills of an attempt may end

module _ (rules : Rules) where
  -- the same spills are kept
  pub within_same : (before after : Table) → SameRows before after → KeepsWithin rules before → KeepsWithin rules after
  within_same before after same h = λ i a lt.
      let e : kept_end after i a ≡ kept_end before i a = ap end_of (same i a) in
      subst (λ n. EndsWithin rules i a n) (sym e) (h i a (subst (λ n. 0 < n) e lt))

  -- one more is
  pub within_more : (before after : Table) (split attempt : ℕ) (kept : Kept) → AddsTo before after split attempt kept → EndsWithin rules split attempt kept.to → KeepsWithin rules before → KeepsWithin rules after
  within_more before after split attempt kept adds new h = λ i a lt. by i a lt (eqb i split && eqb a attempt) refl
    where
      by : (i a : ℕ) → 0 < kept_end after i a → (t : Bool) → (eqb i split && eqb a attempt) ≡ t → EndsWithin rules i a (kept_end after i a)
      by i a lt true e =
          let both = both_true (eqb i split) (eqb a attempt) e in
          let n : kept_end after i a ≡ kept.to = ends_after before after split attempt kept adds i a ∙ ap (λ (t : Bool). cond t kept.to (kept_end before i a)) e in
          subst (λ (z : ℕ × ℕ × ℕ). EndsWithin rules z.0 z.1 z.2) (λ k. (sym (eqb-true i split both.0) k, sym (eqb-true a attempt both.1) k, sym n k)) new
      by i a lt false e =
          let n : kept_end after i a ≡ kept_end before i a = ends_after before after split attempt kept adds i a ∙ ap (λ (t : Bool). cond t kept.to (kept_end before i a)) e in
          subst (λ z. EndsWithin rules i a z) (sym n) (h i a (subst (λ z. 0 < z) n lt))

  -- after a spill was to be kept
  pub within_after : (old new : FolderView) (before after : Table) (result : Result (Unit {0}) KeepFault) (spill : Spill) → OnOk result (IsKeptIn old new before after spill) → IfErr result (KeepCause old new before after spill)
      → EndsWithin rules spill.split spill.attempt spill.to → KeepsWithin rules before → KeepsWithin rules after
  within_after old new before after (Ok u) spill kept cause ends h =
      within_more before after spill.split spill.attempt kept.kept kept.rows (subst (λ n. EndsWithin rules spill.split spill.attempt n) (sym kept.kept_is.to_is) ends) h
  within_after old new before after (Err fault.NoMemory) spill kept cause ends h = within_same before after cause.0 h
  within_after old new before after (Err fault.StoreFailed) spill kept cause ends h = within_same before after cause.1 h

-- the next spill of an attempt ends where it may
pub next_within : (job : Meaning) (records : List (List ℕ)) (script : ScriptLines) (settings : RunSettings) (rows : Table) (part : Part) (spill : Spill) → IsNext records settings rows part → part.to ≤ last_end (rules_of records script settings) part.split part.attempt
    → spill ≡ spill_made job records settings.split settings.reducers part → EndsWithin (rules_of records script settings) spill.split spill.attempt spill.to
next_within job records script settings rows part spill next within is =
    subst (λ (s : Spill). EndsWithin (rules_of records script settings) s.split s.attempt s.to) (sym is) (record { split = next.split; attempt = next.attempt; end = within })

-- # Ranges of kept spills

module _ (job : Meaning) (records : List (List ℕ)) (script : ScriptLines) (settings : RunSettings) (held : Option Files) (rows : Table) (some_spill : 1 ≤ settings.spill)
    (keeps : KeepsMade job records settings held rows) (ends : KeepsWithin (rules_of records script settings) rows) where
  abbrev Made : ℕ → ℕ → Kept → Type 0
  Made i a kept = IsMade job records settings held i a kept

  -- it begins where a spill does, and lies before the kept end
  pub record IsPlaced (last : ℕ) (kept : Kept) : Type 0 where
    pub begins : kept.from % settings.spill ≡ 0
    pub some : kept.from < kept.to
    pub within : kept.to ≤ last

  placed : (i a begins : ℕ) (row : List Kept) (last : ℕ) → (begins % settings.spill ≡ 0) ⊎ (split_len records settings i ≤ begins) → IsChain begins row last → All (Made i a) row → AllByRecursion (IsPlaced last) row
  placed i a begins [] last b c h = tt
  placed i a begins (kept ∷ row) last b c h = by (cases_lt (begins + settings.spill) (split_len records settings i)) b (λ w. placed i a kept.to row last w c.2 (All-tail (Made i a) kept row h))
    where
      to : kept.to ≡ min (kept.from + settings.spill) (split_len records settings i)
      to = (All-head (Made i a) kept row h).to_is

      here : begins % settings.spill ≡ 0 → IsPlaced last kept
      here e = record { begins = ap (λ n. n % settings.spill) c.0 ∙ e; some = let f : kept.from ≡ begins = c.0 in let l : begins < kept.to = c.1 in omega arith; within = chain_up kept.to row last c.2 }

      by : (begins + settings.spill < split_len records settings i) ⊎ (split_len records settings i ≤ begins + settings.spill) → (begins % settings.spill ≡ 0) ⊎ (split_len records settings i ≤ begins)
          → ((kept.to % settings.spill ≡ 0) ⊎ (split_len records settings i ≤ kept.to) → AllByRecursion (IsPlaced last) row) → AllByRecursion (IsPlaced last) (kept ∷ row)
      by q (inr late) rest = let f : kept.from ≡ begins = c.0 in let l : begins < kept.to = c.1 in let t = to in absurd (omega arith)
      by (inl short) (inl e) rest =
          let f : kept.from ≡ begins = c.0 in let t = to in
          let whole : kept.to ≡ begins + settings.spill = omega arith in
          (here e, rest (inl (ap (λ n. n % settings.spill) whole ∙ add-mod_right begins settings.spill ∙ e)))
      by (inr long) (inl e) rest = let f : kept.from ≡ begins = c.0 in let t = to in (here e, rest (inr (omega arith)))

  module _ (i a : ℕ) (kept : Kept) (there : Contains (row_of rows i a) kept) where
    is_made : Made i a kept
    is_made = All-contains (Made i a) (row_of rows i a) kept (keeps.made i a) there

    is_placed : IsPlaced (kept_end rows i a) kept
    is_placed =
        All-contains (IsPlaced (kept_end rows i a)) (row_of rows i a) kept
        (All-from_recursion (IsPlaced (kept_end rows i a)) (row_of rows i a) (placed i a 0 (row_of rows i a) (kept_end rows i a) (inl (zero-mod settings.spill)) (keeps.chain i a) (keeps.made i a))) there

    may_end : EndsWithin (rules_of records script settings) i a (kept_end rows i a)
    may_end = ends i a (let l = is_placed.some in let w = is_placed.within in omega arith)

    from_is : kept.from ≡ kept.from / settings.spill * settings.spill
    from_is = let m = mod-add-div' kept.from settings.spill in let z : kept.from % settings.spill ≡ 0 = is_placed.begins in omega arith

    to_is : kept.to ≡ min (kept.from / settings.spill * settings.spill + settings.spill) (split_len records settings i)
    to_is = is_made.to_is ∙ ap (λ n. min (n + settings.spill) (split_len records settings i)) from_is

    -- it is a spill of the run
    pub kept_named : NamesSpill job records script settings (range_of i a kept)
    kept_named = record {
      split = may_end.split;
      attempt = may_end.attempt;
      spill = record {
        place = kept.from / settings.spill;
        range = λ k. record { split = i; attempt = a; from = from_is k; to = to_is k };
        some = is_placed.some;
        within = let w = is_placed.within in let m = may_end.end in omega arith;
      };
    }

    -- and what was kept of it is the digest of its text
    pub kept_text : NamesText job records script settings (range_of i a kept) kept.digest
    kept_text = record { range = kept_named; digest_is = is_made.digest_is }

  -- a kept spill of a range stands in the row
  in_row : (part at : Part) (kept : Kept) → IsOfRange rows part at kept → Contains (row_of rows part.split part.attempt) kept
  in_row part at kept o =
      subst (λ (row : List Kept). Contains row kept) (sym o.stretch.parts)
      (Contains-append_right o.stretch.before (o.spills ++ o.stretch.after) kept (Contains-append_left o.spills o.stretch.after kept o.there))

  pub damaged_named : (part at : Part) (digest found : List ℕ) → IsDamaged held rows part at digest found → NamesText job records script settings at digest
  damaged_named part at digest found d =
      subst (λ (z : Part × List ℕ). NamesText job records script settings z.0 z.1) (λ k. (sym d.of_range.at_is k, sym d.digest_is k))
      (kept_text part.split part.attempt d.kept (in_row part at d.kept d.of_range))

  pub collides_named : (part : Part) (p : ℕ) (at : Part) (place : ℕ) → Collides held rows part p at place → NamesSpill job records script settings at
  collides_named part p at place d =
      subst (λ (z : Part). NamesSpill job records script settings z) (sym d.of_range.at_is) (kept_named part.split part.attempt d.kept (in_row part at d.kept d.of_range))
