use Rattle.hop_press.specs.declared.row.Row.TheVariants.{Range}
use Rattle.hop_press.specs.Fits.{FitsRow}
use Rattle.hop_press.proofs.LaneLaws.{all_push}
use Rattle.hop_press.proofs.lane.push_joined.Goals as goal

pub returns-in-Some-clause-fits : goal.returns-in-Some-clause-fits
returns-in-Some-clause-fits g c = λ table name rows last row.
    all_push (FitsRow table g.K.Knowing.knows g.K.Knowing.board name) c.args.rows.now.items c.push_back_reserved.new.self.items (Range c.in-Some.both) c.push_back_reserved.ensures.items rows (c.in-Some.ensures.whole table name last row)
