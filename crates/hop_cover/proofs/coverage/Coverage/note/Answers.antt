use Rattle.hop_cover.proofs.TableLaws.{won_stands, restarted_stands}
use Rattle.hop_cover.proofs.coverage.Coverage.note.Goals as goal

pub returns-in-Won-clause-stands : goal.returns-in-Won-clause-stands
returns-in-Won-clause-stands c = λ h stands.
    rw (c.replace-in-Won.ensures, c.won.ensures, c.row-row-in-Won.ensures.value, c.in-Won.is) (won_stands c.args.self.now c.in-Won.split c.in-Won.attempt h c.row-row-in-Won.ensures.place stands)

pub returns-in-Restart-clause-stands : goal.returns-in-Restart-clause-stands
returns-in-Restart-clause-stands c = λ h stands. rw (c.clear.ensures.cleared, c.in-Restart.is) (restarted_stands c.args.self.now h c.clear.ensures.whole stands)
