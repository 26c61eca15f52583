use Rattle.hop_shelf.specs.Kept.{committed_by}
use Rattle.hop_cover.proofs.Places.{mapped_more}
use Rattle.hop_shelf.proofs.kept.commit.Goals as goal

pub loop-one-preserved : goal.loop-one-preserved
loop-one-preserved c = rw c.commit_one.ensures (mapped_more (committed_by c.args.split c.args.attempt) c.args.kept.now c.loop-one.kept c.loop-one.one-index c.one-item.result c.loop-one-test.true c.loop-one.invariant)
