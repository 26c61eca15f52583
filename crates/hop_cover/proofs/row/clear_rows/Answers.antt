use Rattle.std.proofs.Common.{None, []}
use Rattle.hop_cover.specs.Rows.{cleared}
use Rattle.hop_cover.proofs.Places.{mapped_more}
use Rattle.hop_cover.proofs.row.clear_rows.Goals as goal

pub loop-row-preserved : goal.loop-row-preserved
loop-row-preserved c = rw c.clear_tries.ensures (mapped_more cleared c.args.rows.now c.loop-row.rows c.loop-row.row-index (record { winner = None; tries = [] }) c.loop-row-test.true c.loop-row.invariant)
