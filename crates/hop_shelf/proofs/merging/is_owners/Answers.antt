use Rattle.hop_shelf.proofs.OwnerLaws.{owner_eq_same}
use Rattle.hop_shelf.proofs.merging.is_owners.Goals as goal

pub returns : goal.returns
returns c = rw c.eq.ensures (owner_eq_same c.args.one.now.owner c.args.owner)
