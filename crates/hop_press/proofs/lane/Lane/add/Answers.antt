use Rattle.std.proofs.Common.{◌≡◌, ◌∙◌, ap, sym, ◌++◌, ◌∷◌, []}
use Rattle.hop_press.specs.Held.{LaneValue}
use Rattle.hop_press.specs.Fits.{FitsRow}
use Rattle.hop_press.proofs.LaneLaws.{said_joined, last_row_of}
use Rattle.hop_press.proofs.lane.Lane.add.Goals as goal

pub returns-in-Some-clause-ok : goal.returns-in-Some-clause-ok
returns-in-Some-clause-ok g c =
    let rows : c.args.self.now.rows ≡ c.pop_back.new.self.items ++ c.in-Some.last ∷ [] = sym (ap (λ (lane : LaneValue _). lane.rows) c.self.view_is) ∙ sym c.in_ok-reserve.ensures.items ∙ c.in-Some.ensures.items in
    said_joined c.args.self.now.rows c.pop_back.new.self.items c.push_joined.new.rows.items c.in-Some.last c.args.row rows c.push_joined.ensures.rows

pub returns-in-Some-clause-fits : goal.returns-in-Some-clause-fits
returns-in-Some-clause-fits g c = λ table name h row.
    let rows : c.args.self.now.rows ≡ c.pop_back.new.self.items ++ c.in-Some.last ∷ [] = sym (ap (λ (lane : LaneValue _). lane.rows) c.self.view_is) ∙ sym c.in_ok-reserve.ensures.items ∙ c.in-Some.ensures.items in
    let each = last_row_of (FitsRow table g.K.Knowing.knows g.K.Knowing.board name) c.args.self.now.rows c.pop_back.new.self.items c.in-Some.last rows h in
    c.push_joined.ensures.fits table name each.0 each.1 row
