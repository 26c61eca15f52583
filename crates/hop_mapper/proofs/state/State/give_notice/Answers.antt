use Rattle.std.proofs.Common.{sym, subst}
use Rattle.hop_mapper.specs.Mappers.{MapperValue, FitsBoard}
use Rattle.hop_mapper.proofs.state.State.give_notice.Goals as goal

pub returns-clause-fits : goal.returns-clause-fits
returns-clause-fits g c =
    let R = g.N.RunName in
    let fits = subst (λ (m : MapperValue g.row.V.Denot g.row.K.Denot). FitsBoard R.job R.records R.settings R.tells g.K.Knowing.knows g.K.Knowing.board m (g.E.Reach.deeds c.args.reach.now)) (sym c.self.view_is) c.requires.fits in
    c.notice_all.ensures.fits c.self.inside.vault.rows fits
