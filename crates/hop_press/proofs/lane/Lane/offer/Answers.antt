use Rattle.std.proofs.Common.{◌≡◌, ◌∙◌, true, ap, map, sym, subst}
use Rattle.std.specs.Prelude.{OnOk, is_some}
use Rattle.hop_machine.specs.declared.words.Message.{Message as Said}
use Rattle.hop_machine.specs.actors.MapperTurns.{with_row}
use Rattle.hop_inner.specs.Messages.{said, FitsAt}
use Rattle.hop_press.specs.Held.{LaneValue, said_row}
use Rattle.hop_press.proofs.LaneLaws.{offer_held, if_some_at}
use Rattle.hop_press.proofs.lane.Lane.offer.Goals as goal

pub returns-then-is_some-clause-runs : goal.returns-then-is_some-clause-runs
returns-then-is_some-clause-runs g c =
    let E = g.E.Reach in
    let some : is_some c.args.self.now.ready ≡ true = ap (λ (lane : LaneValue _). is_some lane.ready) (sym c.self.view_is) ∙ sym c.is_some.ensures ∙ c.if-is_some.true in
    let ok = subst (λ (m : Said). OnOk c.add.result (map said_row c.add.new.self.rows ≡ with_row (map said_row c.args.self.now.rows) m)) c.row_of.ensures.said c.add.ensures.ok in
    offer_held E.exact c.args.w c.args.p (said c.args.msg) (E.deeds c.args.reach.now) c.args.self.now.ready c.args.self.now.rows c.add.result c.add.new.self some c.add.ensures.ready ok c.add.ensures.err

pub returns-then-is_some-clause-fits : goal.returns-then-is_some-clause-fits
returns-then-is_some-clause-fits g c = λ table fits row.
    let E = g.E.Reach in let N = g.N.RunName in let K = g.K.Knowing in
    let name = (E.deeds c.args.reach.now).ends.board in
    record {
      ready = if_some_at (FitsAt N.job N.records N.settings N.tells c.args.p K.knows K.board name) c.args.self.now.ready c.add.new.self.ready (sym c.add.ensures.ready) fits.ready;
      rows = c.add.ensures.fits table name fits.rows (c.row_of.ensures.fits table name row);
    }
