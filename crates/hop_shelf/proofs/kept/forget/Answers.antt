use Rattle.std.proofs.Common.{rules}
use Rattle.std.proofs.lemmas.Fn.{filter_same}
use Rattle.hop_shelf.specs.Kept.{is_other}
use Rattle.hop_shelf.proofs.kept.forget.Goals as goal

pub returns : goal.returns
returns c = filter_same _ (is_other c.args.split c.args.attempt) _ (λ x b f' k. search rules) c.args.kept.now.items c.retain.new.self.items c.retain.ensures.filtered
