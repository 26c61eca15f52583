use Rattle.std.proofs.Common.{◌≡◌}
use Rattle.hop_tests.proofs.shelf.said_of.Given as goal

abbrev pub invariant-loop-step : goal.invariant-loop-step
invariant-loop-step l = l.shelf.p ≡ 0
