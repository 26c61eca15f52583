use Rattle.std.proofs.Common.{◌≡◌, drop}
use Rattle.hop_machine.specs.actors.MapperTurns.{is_clear}
use Rattle.hop_press.specs.Held.{said_lanes}
use Rattle.hop_press.proofs.press.Press.is_clear.Given as goal

-- nothing is held for the lanes so far
abbrev pub invariant-loop-lane : goal.invariant-loop-lane
invariant-loop-lane g l = is_clear (said_lanes l.self) ≡ is_clear (said_lanes (drop l.lane-index l.self))
