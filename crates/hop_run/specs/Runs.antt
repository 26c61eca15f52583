-- A run: a sheet, and the parts that it was made of.
use Rattle.std.specs.Prelude.{ℕ, List, [], ◌∷◌}
use Rattle.std.specs.List.{flat_map}
use Rattle.hop_base.specs.declared.part.Part.{Part}
use Rattle.hop_base.specs.declared.value.Pair.{Pair}
use Rattle.hop_base.specs.declared.value.Val.{Val}
use Rattle.hop_base.specs.Meaning.{Meaning}
use Rattle.hop_laws.specs.Blocking.{part_pairs}
use Rattle.hop_laws.specs.Stands.{StandsFor, combined_pairs}

pub record RunValue : Type 0 where
  pub sheet : List Pair
  pub parts : List Part

-- the run of no parts
abbrev pub empty_run : RunValue
empty_run = record { sheet = []; parts = [] }

-- the run stands for the pairs of its parts, in the order of the parts
abbrev pub RunStands : (List ℕ → List Val → List ℕ) → (Part → List Pair) → RunValue → Type 0
RunStands reduce pairs_of run = StandsFor reduce run.sheet (flat_map pairs_of run.parts)

-- the combined run of a part in partition p of r, where a split has n records
abbrev pub combined_run : Meaning → List (List ℕ) → ℕ → ℕ → Part → ℕ → RunValue
combined_run meaning records n r part p = record { sheet = combined_pairs meaning.combined (part_pairs meaning records n p r part); parts = part ∷ [] }
