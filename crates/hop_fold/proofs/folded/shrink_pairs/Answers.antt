use Rattle.std.proofs.Common.{◌++◌, ap, ◌∙◌}
use Rattle.hop_laws.specs.Stands.{combined_pairs}
use Rattle.hop_fold.proofs.Standing.{sorted_stands, combined_stands}
use Rattle.hop_fold.proofs.folded.shrink_pairs.Goals as goal

pub returns-then-are_mostly_apart : goal.returns-then-are_mostly_apart
returns-then-are_mostly_apart g c = sorted_stands (g.J.Job.meaning c.args.job.now).reduced c.args.pairs.now c.sort.new.self c.sort.ensures.same

pub returns : goal.returns
returns g c =
    let meaning = g.J.Job.meaning c.args.job.now in
    let laws = g.met.J.Job.lawful c.args.job.now in
    combined_stands meaning.combined meaning.reduced c.args.pairs.now c.sort.new.self c.combined_into.new.sink laws.combines_well laws.reduces_alike c.sort.ensures.same c.sort.ensures.valid
    (c.in_ok-combined_into.ensures.given ∙ ap (λ ps. ps ++ combined_pairs meaning.combined c.sort.new.self) c.new-fewer.ensures)
