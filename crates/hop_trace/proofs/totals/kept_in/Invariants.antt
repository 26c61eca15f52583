use Rattle.std.proofs.Common.{◌≡◌, ◌≤◌, take, count_by}
use Rattle.hop_trace.specs.Totals.{is_kept}
use Rattle.hop_trace.proofs.totals.kept_in.Given as goal

abbrev pub invariant-loop-event : goal.invariant-loop-event
invariant-loop-event l = record { value : l.n ≡ count_by (is_kept l.way) (take l.event-index l.events); small : l.n ≤ l.event-index }
