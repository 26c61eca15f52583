use Rattle.std.proofs.Common.{◌≡◌, ◌<◌, ◌≤◌, ℕ, map, Some}
use Rattle.std.specs.List.{slice_get}
use Rattle.hop_machine.specs.actors.MapperTurns.{Mapper}
use Rattle.hop_settle.proofs.catching.begun_of.Given as goal

-- of the mappers before w none began more, and some began as many
abbrev pub invariant-loop-w : goal.invariant-loop-w
invariant-loop-w g l = let f = g.M.Store.mapper in record {
  most : (k : ℕ) (m : Mapper) → k < l.w → slice_get (map f l.mappers.items) k ≡ Some m → m.begun l.split ≤ l.most;
  least : (n : ℕ) → ((k : ℕ) (m : Mapper) → slice_get (map f l.mappers.items) k ≡ Some m → m.begun l.split ≤ n) → l.most ≤ n;
}
