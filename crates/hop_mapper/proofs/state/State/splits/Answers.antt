use Rattle.std.proofs.Common.{sym, ap, ◌∙◌}
use Rattle.hop_records.specs.Records.{splits_of}
use Rattle.hop_shelf.specs.Names.{book_of}
use Rattle.hop_mapper.proofs.Splits.{lens_count}
use Rattle.hop_mapper.proofs.state.State.splits.Goals as goal

pub returns : goal.returns
returns g c = c.splits.ensures.count ∙ ap splits_of c.self.invariant.of_run.book_is ∙ sym (lens_count (book_of g.N.RunName.records g.N.RunName.settings))
