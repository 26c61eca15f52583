use Rattle.std.proofs.Common.{false}
use Rattle.hop_cover.specs.Rows.{cleared_try}
use Rattle.hop_cover.proofs.Places.{mapped_more}
use Rattle.hop_cover.proofs.row.clear_tries.Goals as goal

pub loop-attempt-preserved : goal.loop-attempt-preserved
loop-attempt-preserved c = mapped_more cleared_try c.args.tries.now c.loop-attempt.tries c.loop-attempt.attempt-index (record { upto = 0; revoked = false }) c.loop-attempt-test.true c.loop-attempt.invariant
