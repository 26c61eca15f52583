use Rattle.std.proofs.Common.{not, ap}
use Rattle.hop_shelf.proofs.OwnerLaws.{owner_eq_same}
use Rattle.hop_shelf.proofs.merging.is_anothers.Goals as goal

pub returns : goal.returns
returns c = rw c.ne.ensures (ap not (owner_eq_same c.args.one.now.owner c.args.owner))
