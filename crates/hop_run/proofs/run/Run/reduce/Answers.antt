use Rattle.std.proofs.Common.{ap, ◌∙◌}
use Rattle.std.specs.List.{flat_map}
use Rattle.hop_laws.specs.Groups.{red}
use Rattle.hop_laws.proofs.StandsLaws.{red_stands}
use Rattle.hop_run.proofs.run.Run.reduce.Goals as goal

pub returns-clause-stands : goal.returns-clause-stands
returns-clause-stands g c = λ pairs_of stands.
    let reduce = (g.J.Job.meaning c.args.job.now).reduced in
    c.from_vec.ensures ∙ c.in_ok-text.ensures ∙ ap (λ run. red reduce run.sheet) c.a.view_is ∙ red_stands reduce c.args.a.now.sheet (flat_map pairs_of c.args.a.now.parts) stands
