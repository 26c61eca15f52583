use Rattle.hop_base.proofs.RangesLaws.{marks_more}
use Rattle.hop_base.proofs.marks.Marks.push.Goals as goal

pub invariant_of-self-2 : goal.invariant_of-self-2
invariant_of-self-2 c = rw c.in_ok-push.ensures.items (marks_more c.self.inside.marks.items c.args.mark c.self.invariant (rw c.self.view_is c.requires.room) (rw c.self.view_is c.requires.above) c.requires.most)
