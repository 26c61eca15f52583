use Rattle.std.proofs.Common.{map}
use Rattle.hop_inner.specs.Messages.{said_cut}
use Rattle.hop_inner.proofs.Allowing.{tells_cuts, fits_cuts}
use Rattle.hop_inner.proofs.steps.take_cut_on.Goals as goal

pub returns-clause-step : goal.returns-clause-step
returns-clause-step g c =
    let n = g.N.RunName in let s = c.args.reach.now in let l = g.E.CutIn.Receiver.line c.cut_in.result.now in
    g.met.E.Reach.cut_in_step s c.args.p c.cut_in.result.now c.take.new.self c.take.result c.cut_in.ensures.end c.take.ensures.takes
    (tells_cuts n.job n.records n.script n.settings n.tells (g.E.Reach.deeds s) (g.met.E.Reach.of_run s) c.args.p l.key.reducer (map said_cut l.into.taken) c.take.result c.cut_in.ensures.key c.cut_in.ensures.taken c.take.ensures.allowed)

pub returns-clause-fits : goal.returns-clause-fits
returns-clause-fits g c =
    let n = g.N.RunName in let s = c.args.reach.now in let l = g.E.CutIn.Receiver.line c.cut_in.result.now in
    fits_cuts n.job n.records n.script n.settings n.tells (g.E.Reach.deeds s) (g.met.E.Reach.of_run s) c.args.p l.key.reducer (map said_cut l.into.taken) c.take.result c.cut_in.ensures.key c.cut_in.ensures.taken c.take.ensures.allowed
