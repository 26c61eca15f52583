use Rattle.std.proofs.Common.{◌<◌, sym, ap, ◌∙◌, subst, arith}
use Rattle.hop_records.specs.Records.{BookValue, splits_of, len_of}
use Rattle.hop_shelf.specs.Names.{book_of}
use Rattle.hop_mapper.proofs.Splits.{lens_count, lens_at}
use Rattle.hop_mapper.proofs.state.State.len_of.Goals as goal

pub len-requires : goal.len-requires
len-requires g c =
    let book = book_of g.N.RunName.records g.N.RunName.settings in
    let n = lens_count book in
    let below : c.args.split < splits_of book = omega (arith, n, c.requires) in
    subst (λ (b : BookValue). c.args.split < splits_of b) (sym c.self.invariant.of_run.book_is) below

pub returns-clause-value : goal.returns-clause-value
returns-clause-value g c =
    c.len.ensures.value ∙ ap (λ (b : BookValue). len_of b c.args.split) c.self.invariant.of_run.book_is ∙ sym (lens_at (book_of g.N.RunName.records g.N.RunName.settings) c.args.split c.requires)
