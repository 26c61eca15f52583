use Rattle.std.proofs.Common.{length}
use Rattle.hop_script.proofs.ScriptReading.{IsReading}
use Rattle.hop_script.proofs.script.Script.read.Given as goal

abbrev pub invariant-loop-rest : goal.invariant-loop-rest
invariant-loop-rest l = IsReading l.bytes l.rest l.number l.draft

abbrev pub decreases-loop-rest : goal.decreases-loop-rest
decreases-loop-rest l = length l.rest
