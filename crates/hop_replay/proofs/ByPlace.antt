-- What is said of each mapper's folder by its number is said by its place.
use Rattle.std.proofs.Common.{◌≡◌, ℕ, List, map, Option, Some, None, subst}
use Rattle.std.specs.Prelude.{slice_index_or}
use Rattle.std.specs.List.{slice_get}
use Rattle.hop_base.specs.Files.{Files}
use Rattle.hop_machine.specs.actors.MapperTurns.{Mapper}
use Rattle.hop_actors.specs.Spilled.{OnlySpills}
use Rattle.hop_settle.proofs.Lists.{map-at}

-- only files of spills were put in it
pub only-by-place : {M : Type 0} (mapper : M → Mapper) (held : M → Option Files) (spills : List (Option Files)) (ms : List M) → ((w : ℕ) (m : Mapper) → slice_get (map mapper ms) w ≡ Some m → m.number ≡ w)
    → ((w : ℕ) (m : M) → slice_get ms w ≡ Some m → OnlySpills (slice_index_or spills (mapper m).number None) (held m)) → (w : ℕ) (m : M) → slice_get ms w ≡ Some m → OnlySpills (slice_index_or spills w None) (held m)
only-by-place mapper held spills ms numbers only w m e = subst (λ (n : ℕ). OnlySpills (slice_index_or spills n None) (held m)) (numbers w (mapper m) (map-at mapper ms w m e)) (only w m e)
