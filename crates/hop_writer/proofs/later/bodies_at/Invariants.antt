use Rattle.std.proofs.Common.{◌≡◌, Some}
use Rattle.hop_writer.specs.Later.{bodies_at}
use Rattle.hop_writer.proofs.later.bodies_at.Given as goal

-- the bodies of the reducers before p are there
abbrev pub invariant-loop-p : goal.invariant-loop-p
invariant-loop-p l = bodies_at l.kept l.mark l.p ≡ Some l.bodies
