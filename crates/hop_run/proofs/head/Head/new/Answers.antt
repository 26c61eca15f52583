use Rattle.hop_run.proofs.HeadLaws.{head_of, head_sorted}
use Rattle.hop_run.proofs.head.Head.new.Goals as goal

pub returns-clause-pairs : goal.returns-clause-pairs
returns-clause-pairs c = head_of c.args.sheet.now c.args.at c.pair-pair.result c.requires c.pair-pair.ensures

pub returns-clause-sorted : goal.returns-clause-sorted
returns-clause-sorted c = head_sorted c.args.sheet.now c.args.at c.pair-pair.result c.requires c.pair-pair.ensures c.known.ensures.sorted
