-- What a mapper's folder holds, and what it reads back.
use Rattle.std.specs.Prelude.{◌≡◌, ◌≢◌, ◌⊎◌, ℕ, ◌%◌, ◌<◌, ◌≤◌, List, Option, Some, IfSome, slice_index}
use Rattle.std.specs.List.{flat_map}
use Rattle.std.specs.FinMap as files
use Rattle.hop_base.specs.Files.{Files}
use Rattle.hop_base.specs.Meaning.{Meaning}
use Rattle.hop_base.specs.declared.part.Part.{Part}
use Rattle.hop_base.specs.declared.value.Pair.{Pair}
use Rattle.hop_base.specs.declared.value.Val.{Val}
use Rattle.hop_laws.specs.Stands.{StandsFor}
use Rattle.hop_spill.specs.SpillFiles.{name_of, range_at, spill_made}
use Rattle.hop_spill.specs.Spelling.{spill_text}
use Rattle.hop_machine.specs.actors.MapperTurns.{Mapper}

-- the part is the range of a spill: the k-th of the spill size of its split, which ends at the kept end of its attempt or before
pub record IsKeptSpill (lens : List ℕ) (spill : ℕ) (kept : ℕ → ℕ → ℕ) (part : Part) : Type 0 where
  pub place : ℕ
  pub range : part ≡ range_at part.split part.attempt (slice_index lens part.split) spill place
  pub some : part.from < part.to
  pub within : part.to ≤ kept part.split part.attempt

-- A folder holds what another one held and, in its stead where a name is the same, exactly the files of the spills that were kept.
pub record HoldsMade (job : Meaning) (records : List (List ℕ)) (split reducers spill : ℕ) (lens : List ℕ) (kept : ℕ → ℕ → ℕ) (start now : Files) : Type 0 where
  pub made : (part : Part) → IsKeptSpill lens spill kept part → files.get now (name_of part.split part.attempt part.from) ≡ Some (spill_text (spill_made job records split reducers part))
  pub others : (name : List ℕ) → ((part : Part) → IsKeptSpill lens spill kept part → name ≢ name_of part.split part.attempt part.from) → files.get now name ≡ files.get start name

-- so it is where the folder tells: what it held at the start is told, too
abbrev pub IsSpilled : Meaning → List (List ℕ) → (split reducers spill : ℕ) → List ℕ → (ℕ → ℕ → ℕ) → Option Files → Option Files → Type 0
IsSpilled job records split reducers spill lens kept start now =
    IfSome now (λ held. (from : Files) × (start ≡ Some from) × HoldsMade job records split reducers spill lens kept from held)

-- the name is that of a spill's file
abbrev pub IsSpillName : List ℕ → Type 0
IsSpillName name = (split : ℕ) × (attempt : ℕ) × (from : ℕ) × (name ≡ name_of split attempt from)

-- Only files of spills were put: where the folder tells what it holds, it told at the start, and under all other names it holds what it held then.
abbrev pub OnlySpills : Option Files → Option Files → Type 0
OnlySpills start now = IfSome now (λ held. (from : Files) × (start ≡ Some from) × ((name : List ℕ) → (IsSpillName name → ⊥) → files.get held name ≡ files.get from name))

-- the range is made of whole spills that were kept: it begins where a spill does, and ends where one does
pub record MayFetch (m : Mapper) (part : Part) : Type 0 where
  pub some : part.from < part.to
  pub begins : part.from % m.rules.spill ≡ 0
  pub ends : (part.to % m.rules.spill ≡ 0) ⊎ (part.to ≡ m.kept part.split part.attempt)
  pub within : part.to ≤ m.kept part.split part.attempt

-- all pairs of the sheets together stand for these
abbrev pub TogetherStand : (List ℕ → List Val → List ℕ) → List (List Pair) → List Pair → Type 0
TogetherStand reduce sheets pairs = StandsFor reduce (flat_map (λ sheet. sheet) sheets) pairs
