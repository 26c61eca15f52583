use Rattle.std.proofs.Common.{rules, ◌++◌, ◌∷◌, [], ap}
use Rattle.std.proofs.lemmas.Fn.{filter_same}
use Rattle.hop_shelf.specs.Kept.{is_anothers}
use Rattle.hop_shelf.proofs.merging.put_for_owner.Goals as goal

pub returns : goal.returns
returns c = rw c.push_reserved.ensures.items (ap (λ ks. ks ++ c.args.one ∷ []) (filter_same _ (is_anothers c.args.one.owner) _ (λ x b f' k. search rules) c.args.kept.now.items c.retain.new.self.items c.retain.ensures.filtered))
