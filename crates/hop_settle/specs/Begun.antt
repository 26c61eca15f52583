-- How many attempts of each split the mappers began.
use Rattle.std.specs.Prelude.{◌≡◌, ℕ, ◌≤◌, ◌<◌, List, Some, length, slice_index}
use Rattle.std.specs.List.{slice_get}
use Rattle.hop_machine.specs.actors.MapperTurns.{Mapper}

-- the greatest of the numbers that the mappers say of the split
pub record IsMost (ms : List Mapper) (i n : ℕ) : Type 0 where
  pub most : (w : ℕ) (m : Mapper) → slice_get ms w ≡ Some m → m.begun i ≤ n
  pub least : (k : ℕ) → ((w : ℕ) (m : Mapper) → slice_get ms w ≡ Some m → m.begun i ≤ k) → n ≤ k

-- the list has it of each of its splits
abbrev pub AreCounted : List Mapper → List ℕ → Type 0
AreCounted ms begun = (i : ℕ) → i < length begun → IsMost ms i (slice_index begun i)
