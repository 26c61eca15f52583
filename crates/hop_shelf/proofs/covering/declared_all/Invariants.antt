use Rattle.std.proofs.Common.{◌≡◌, map}
use Rattle.std.specs.List.{range_with_len}
use Rattle.hop_event.specs.Coverage.{declared}
use Rattle.hop_shelf.proofs.covering.declared_all.Given as goal

abbrev pub invariant-loop-i : goal.invariant-loop-i
invariant-loop-i l = l.all ≡ map (declared l.journal.tentative l.journal.events) (range_with_len 0 l.i)
