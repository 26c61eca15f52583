use Rattle.std.proofs.Common.{◌≡◌, ◌*◌, ◌≤◌, take, sum}
use Rattle.hop_trace.proofs.totals.attempts_in_all.Given as goal

abbrev pub invariant-loop-attempts : goal.invariant-loop-attempts
invariant-loop-attempts l = record { value : l.total ≡ sum (take l.attempts-index l.begun); small : l.total ≤ l.attempts-index * 255 }
