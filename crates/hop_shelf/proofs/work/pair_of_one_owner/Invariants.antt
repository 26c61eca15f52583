use Rattle.std.specs.HashMap.{get}
use Rattle.hop_shelf.specs.declared.kept.Owner.{Owner}
use Rattle.hop_shelf.proofs.OwnerLaws.{AreSeen, owner_eq}
use Rattle.hop_shelf.proofs.work.pair_of_one_owner.Given as goal

abbrev pub invariant-loop-n : goal.invariant-loop-n
invariant-loop-n l = AreSeen l.kept (λ (o : Owner). get owner_eq l.seen o) l.n
