use Rattle.std.proofs.Common.{◌≡◌, replicate}
use Rattle.hop_press.specs.Held.{no_lane}
use Rattle.hop_press.proofs.press.Press.new.Given as goal

abbrev pub invariant-loop : goal.invariant-loop
invariant-loop g l = l.list.items ≡ replicate l.counter no_lane
