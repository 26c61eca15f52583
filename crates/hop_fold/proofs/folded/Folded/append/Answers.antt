use Rattle.std.proofs.Common.{◌++◌, [], ◌∷◌, ap, ◌∙◌, arith}
use Rattle.hop_base.specs.declared.value.Pair.{Pair}
use Rattle.hop_base.specs.Fields.{pair_of}
use Rattle.hop_laws.proofs.TakenLaws.{added}
use Rattle.hop_fold.proofs.folded.Folded.append.Goals as goal

pub returns-in_ok-shrink : goal.returns-in_ok-shrink
returns-in_ok-shrink g c =
    let pair : Pair = pair_of c.args.key.now c.args.number c.args.text.now in
    added (g.J.Job.meaning c.args.job.now).reduced c.args.self.now c.take.new.self c.shrink.new.self c.args.key.now c.args.text.now c.args.number c.requires.short_key c.requires.short_text (omega arith)
    (c.in_ok-take.ensures.ok ∙ ap (λ ps. ps ++ pair ∷ []) c.self.view_is) c.in_ok-shrink.ensures

pub returns-else-len-self : goal.returns-else-len-self
returns-else-len-self g c =
    let pair : Pair = pair_of c.args.key.now c.args.number c.args.text.now in
    added (g.J.Job.meaning c.args.job.now).reduced c.args.self.now c.take.new.self c.take.new.self c.args.key.now c.args.text.now c.args.number c.requires.short_key c.requires.short_text (omega arith)
    (c.in_ok-take.ensures.ok ∙ ap (λ ps. ps ++ pair ∷ []) c.self.view_is) (λ ps stands. stands)
