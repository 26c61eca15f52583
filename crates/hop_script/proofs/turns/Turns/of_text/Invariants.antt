use Rattle.std.proofs.Common.{length}
use Rattle.hop_script.proofs.TurnsReading.{IsReading}
use Rattle.hop_script.proofs.turns.Turns.of_text.Given as goal

abbrev pub invariant-loop-rest : goal.invariant-loop-rest
invariant-loop-rest l = IsReading l.actors l.bytes l.rest l.number l.total l.turns.items

abbrev pub decreases-loop-rest : goal.decreases-loop-rest
decreases-loop-rest l = length l.rest
