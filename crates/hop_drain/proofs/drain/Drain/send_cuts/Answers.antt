use Rattle.std.proofs.Common.{◌≡◌, sym, ◌∙◌}
use Rattle.std.specs.Prelude.{map}
use Rattle.hop_shelf.specs.Names.{pairs_of}
use Rattle.hop_machine.specs.actors.ReducerTurns.{cut_after}
use Rattle.hop_inner.specs.Setups.{setup_of}
use Rattle.hop_inner.specs.Messages.{said_cut}
use Rattle.hop_drain.proofs.Cutting.{cuts_said, sends_safe, sends_ran}
use Rattle.hop_drain.proofs.drain.Drain.send_cuts.Goals as goal

pub send_all-requires-clause-safe : goal.send_all-requires-clause-safe
send_all-requires-clause-safe g c =
    let N = g.N.RunName in let r = c.args.self.now in let s = c.args.shelf.now in let st = setup_of N.records N.script N.settings in
    let setup : st ≡ r.setup = sym c.fixed.ensures in
    let said = cuts_said st s.journal N.tells N.job.reduced (pairs_of N.job N.records N.settings s.p) c.in-Ok.cuts c.known.ensures.sound.lens c.known.ensures.sound.tentative_is c.in-Ok.ensures.cuts in
    let is : map said_cut c.in-Ok.cuts ≡ map (cut_after r.setup s.journal.events) s.journal.due = said ∙ (λ i. map (cut_after (setup i) s.journal.events) (c.in-Ok.ensures.marks i)) in
    sends_safe g.E.Reach.exact r s.journal.events s.journal.due (map said_cut c.in-Ok.cuts) is (g.E.Reach.deeds c.args.reach.now) c.requires.safe

pub returns-in-Ok-clause-runs : goal.returns-in-Ok-clause-runs
returns-in-Ok-clause-runs g c =
    let N = g.N.RunName in let r = c.args.self.now in let s = c.args.shelf.now in let st = setup_of N.records N.script N.settings in
    let setup : st ≡ r.setup = sym c.fixed.ensures in
    let said = cuts_said st s.journal N.tells N.job.reduced (pairs_of N.job N.records N.settings s.p) c.in-Ok.cuts c.known.ensures.sound.lens c.known.ensures.sound.tentative_is c.in-Ok.ensures.cuts in
    let is : map said_cut c.in-Ok.cuts ≡ map (cut_after r.setup s.journal.events) s.journal.due = said ∙ (λ i. map (cut_after (setup i) s.journal.events) (c.in-Ok.ensures.marks i)) in
    sends_ran g.E.Reach.exact r s.journal.events s.journal.due (map said_cut c.in-Ok.cuts) is (g.E.Reach.deeds c.args.reach.now) (g.E.Reach.deeds c.send_all.new.reach) c.send_all.ensures
