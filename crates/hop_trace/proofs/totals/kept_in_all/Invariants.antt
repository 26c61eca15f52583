use Rattle.std.proofs.Common.{◌≡◌, ◌≤◌, ◌*◌, ◌^◌, take}
use Rattle.hop_trace.specs.Totals.{kept_in_all}
use Rattle.hop_trace.specs.Trace.{in_order}
use Rattle.hop_trace.proofs.totals.kept_in_all.Given as goal

abbrev pub invariant-loop-history : goal.invariant-loop-history
invariant-loop-history l = record { value : l.total ≡ kept_in_all l.way (take l.history-index (in_order l.histories)); small : l.total ≤ l.history-index * 2 ^ 60 }
