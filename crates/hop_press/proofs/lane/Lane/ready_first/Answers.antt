use Rattle.std.proofs.Common.{◌≡◌, ◌∙◌, ap, sym, ◌∷◌, subst}
use Rattle.hop_press.specs.declared.row.Row.{Row}
use Rattle.hop_press.specs.Held.{LaneValue}
use Rattle.hop_press.specs.Fits.{FitsRow}
use Rattle.hop_press.proofs.LaneLaws.{first_row}
use Rattle.hop_press.proofs.lane.Lane.ready_first.Goals as goal

pub returns-in-Notice-clause-fits : goal.returns-in-Notice-clause-fits
returns-in-Notice-clause-fits g c = λ name h.
    let rows : c.args.self.now.rows ≡ c.in-Some.row ∷ c.pop_front.new.self.items = sym (ap (λ (lane : LaneValue _). lane.rows) c.self.view_is) ∙ c.in-Some.ensures.items in
    let fits = FitsRow c.args.vault.now.rows g.K.Knowing.knows g.K.Knowing.board name in
    let each = first_row fits c.args.self.now.rows c.pop_front.new.self.items c.in-Some.row rows h in
    record { ready = subst (λ (row : Row _). fits row) c.in-Notice.is each.0; rows = each.1 }

pub returns-in-Ok-clause-fits : goal.returns-in-Ok-clause-fits
returns-in-Ok-clause-fits g c = λ name h.
    let rows : c.args.self.now.rows ≡ c.in-Some.row ∷ c.pop_front.new.self.items = sym (ap (λ (lane : LaneValue _). lane.rows) c.self.view_is) ∙ c.in-Some.ensures.items in
    let fits = FitsRow c.args.vault.now.rows g.K.Knowing.knows g.K.Knowing.board name in
    let each = first_row fits c.args.self.now.rows c.pop_front.new.self.items c.in-Some.row rows h in
    record { ready = c.in-Ok.ensures.fits; rows = each.1 }
