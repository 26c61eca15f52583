use Rattle.std.proofs.Common.{sym, ap, ◌∙◌}
use Rattle.std.specs.Option.{option_map}
use Rattle.hop_writer.proofs.LaterLaws.{none_more}
use Rattle.hop_writer.proofs.later.bodies_at.Goals as goal

pub returns-in-None : goal.returns-in-None
returns-in-None c =
    let l = c.loop-p in
    sym (none_more c.args.kept.now c.args.mark l.p c.args.r l.bodies c.loop-p-test.true l.invariant (sym c.body_at.ensures ∙ ap (option_map (λ body. body.now)) c.in-None.is))
