use Rattle.std.proofs.Common.{◌≡◌, ◌<◌, ◌≤◌, ℕ, map, Some}
use Rattle.std.specs.List.{slice_get}
use Rattle.hop_machine.specs.actors.MapperTurns.{Mapper}
use Rattle.hop_settle.specs.Pulled.{IsKeeper}
use Rattle.hop_settle.proofs.pulling.keeper_of.Given as goal

-- of the mappers before w none kept more than the best one
abbrev pub invariant-loop-w : goal.invariant-loop-w
invariant-loop-w g l = let f = g.M.Store.mapper in record {
  most : (k : ℕ) (m : Mapper) → k < l.w → slice_get (map f l.mappers.items) k ≡ Some m → m.kept l.split l.attempt ≤ l.best.end;
  keeper : 0 < l.best.end → IsKeeper (map f l.mappers.items) l.split l.attempt l.best.place l.best.end;
}
