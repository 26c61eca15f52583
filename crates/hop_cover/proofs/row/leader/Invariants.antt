use Rattle.std.proofs.Common.{◌≡◌}
use Rattle.hop_event.specs.Coverage.{leader, records_of}
use Rattle.hop_cover.specs.Rows.{live_records}
use Rattle.hop_cover.proofs.row.leader.Given as goal

abbrev pub invariant-loop-a : goal.invariant-loop-a
invariant-loop-a l = record { best : l.best ≡ leader (live_records l.tries) l.a; most : l.most ≡ records_of l.best }
