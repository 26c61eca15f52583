use Rattle.std.proofs.Common.{map}
use Rattle.hop_inner.specs.Messages.{said}
use Rattle.hop_inner.proofs.Allowing.{tells_taken, fits_taken}
use Rattle.hop_inner.proofs.steps.take_on.Goals as goal

pub returns-clause-step : goal.returns-clause-step
returns-clause-step g c =
    let n = g.N.RunName in let s = c.args.reach.now in let l = g.E.In.Receiver.line c.input.result.now in
    g.met.E.Reach.in_step s c.args.w c.args.p c.input.result.now c.take.new.self c.take.result c.input.ensures.end c.take.ensures.takes
    (tells_taken n.job n.records n.script n.settings n.tells (g.E.Reach.deeds s) (g.met.E.Reach.of_run s) g.E.Seat.Knowing.knows g.E.Seat.Knowing.board c.args.w c.args.p l.key (map said l.into.taken) c.take.result c.input.ensures.key c.input.ensures.taken c.take.ensures.allowed)

pub returns-clause-fits : goal.returns-clause-fits
returns-clause-fits g c =
    let n = g.N.RunName in let s = c.args.reach.now in let l = g.E.In.Receiver.line c.input.result.now in
    fits_taken n.job n.records n.script n.settings n.tells (g.E.Reach.deeds s) (g.met.E.Reach.of_run s) g.E.Seat.Knowing.knows g.E.Seat.Knowing.board c.args.w c.args.p l.key (map said l.into.taken) c.take.result c.input.ensures.key c.input.ensures.taken c.take.ensures.allowed
