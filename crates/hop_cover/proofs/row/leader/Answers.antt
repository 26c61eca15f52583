use Rattle.std.proofs.Common.{sym, arith, refl}
use Rattle.hop_event.proofs.CoverageLaws.{leader_none, leader_taken, leader_kept}
use Rattle.hop_cover.specs.Rows.{live_records}
use Rattle.hop_cover.proofs.row.leader.Goals as goal
use Rattle.hop_cover.proofs.row.leader.Goals.{then-not-attempt+then-attempt-most, else-not-attempt, else-not-attempt-via-then-not-attempt+else-attempt-most, else-not-attempt-via-else-not-attempt}

pub loop-a-init : goal.loop-a-init
loop-a-init c = record { best = sym (leader_none (live_records c.args.tries.now)); most = refl }

pub loop-a-preserved : goal.loop-a-preserved
loop-a-preserved c =
    elim c.if-not-attempt.branch [
      | then-not-attempt+then-attempt-most w ↦ grind (arith, leader_taken (live_records c.args.tries.now) c.loop-a.a)
      | else-not-attempt w ↦ elim w.else-not-attempt.branch [
        | else-not-attempt-via-then-not-attempt+else-attempt-most w' ↦ grind (arith, leader_kept (live_records c.args.tries.now) c.loop-a.a)
        | else-not-attempt-via-else-not-attempt w' ↦ grind (arith, leader_kept (live_records c.args.tries.now) c.loop-a.a)
      ]
    ]
