use Rattle.std.proofs.Common.{sym, ◌∙◌, subst, arith}
use Rattle.hop_mapper.specs.Mappers.{MapperValue, FitsBoard}
use Rattle.hop_mapper.proofs.Offering.{runs_count, runs_own}
use Rattle.hop_mapper.proofs.state.State.give_parts.Goals as goal

pub offer_all-requires-clause-lanes : goal.offer_all-requires-clause-lanes
offer_all-requires-clause-lanes g c = let R = g.N.RunName in runs_count R.job R.records R.settings c.args.part c.args.runs c.requires.runs ∙ sym c.self.invariant.lanes

pub offer_all-requires-clause-own : goal.offer_all-requires-clause-own
offer_all-requires-clause-own g c = let R = g.N.RunName in runs_own R.job R.records R.settings c.args.part c.args.runs c.requires.runs c.requires.some

pub offer_all-requires-clause-stands : goal.offer_all-requires-clause-stands
offer_all-requires-clause-stands g c = let R = g.N.RunName in λ _ p below. let n = runs_count R.job R.records R.settings c.args.part c.args.runs c.requires.runs in c.requires.stands p (omega arith)

pub returns-clause-fits : goal.returns-clause-fits
returns-clause-fits g c =
    let R = g.N.RunName in
    let fits = subst (λ (m : MapperValue g.row.V.Denot g.row.K.Denot). FitsBoard R.job R.records R.settings R.tells g.K.Knowing.knows g.K.Knowing.board m (g.E.Reach.deeds c.args.reach.now)) (sym c.self.view_is) c.requires.fits in
    c.offer_all.ensures.fits c.self.inside.vault.rows fits c.self.invariant.keeps.chain
    (subst (λ (m : MapperValue g.row.V.Denot g.row.K.Denot). Rattle.hop_press.specs.Fits.IsWhole m.vault.rows c.args.part) (sym c.self.view_is) c.requires.whole)
