use Rattle.std.proofs.Common.{true, sym, subst}
use Rattle.hop_ending.specs.Reached.{WroteReached}
use Rattle.hop_machine.specs.step.Steps.{Setup}
use Rattle.hop_machine.proofs.play.Plays.{went_same}
use Rattle.hop_machine.proofs.run.WholeRun.{run_went}
use Rattle.hop_machine.specs.play.Play.{NoneLeft, Opening, Over, Place, Went}
use Rattle.hop_settle.specs.Playing.{orders_of}
use Rattle.hop_replay.proofs.Wrote.{wrote-in, wrote-so, wrote-until}
use Rattle.hop_replay.proofs.writing_laws.writers_write_cuts.Goals as goal

pub returns-clause-wrote : goal.returns-clause-wrote
returns-clause-wrote c = λ g a d same start ran begun hs them.
    let from = Opening 0 (orders_of g.turns) in
    let put = c.cuts_start.ensures.put g.settings.backup a start in
    let follow = c.cuts_start.ensures.follow g.settings.backup a start in
    let went : Went true (from, a) (Over, d) = run_went true from a d ran in
    let reached : WroteReached d.deeds.setup d.actors.writer.writings =
    subst (λ (s : Setup). WroteReached s d.actors.writer.writings) (sym (went_same true (from, a) (Over, d) went)) (c.written_cuts_reached.ensures g.settings.backup (orders_of g.turns) Over a d start went) in
    wrote-so g d.deeds.setup same begun hs d.actors.writer.writings
    (wrote-in d.deeds hs d.actors.writer.writings them (λ p l. c.cuts_are_put.ensures.exact from a d put follow ran p l) (λ p l. c.cuts_are_sent.ensures.others true from a d put ran p l) reached (c.cuts_are_sent.ensures.put true from a d put ran))

pub returns-clause-until : goal.returns-clause-until
returns-clause-until c = λ g a d sa sd new start f at went ends.
    let backup = g.settings.backup in let list = orders_of g.turns in
    wrote-until g a d f at sa sd new start went ends (c.written_cuts_reached.ensures backup list at a d start went)
    (λ split place.
    let spent : Went true (Opening 0 list, a) (NoneLeft split, d) = subst (λ (q : Place). Went true (Opening 0 list, a) (q, d)) place went in
    record { put = λ p l. c.spent_runs_leave_cuts.ensures.each backup list split a d start spent p l; others = λ p l. c.spent_runs_leave_cuts.ensures.others backup list split a d start spent p l })
    (λ goes. c.cuts_go_on.ensures.put true (Opening 0 list) at a d went goes (c.cuts_start.ensures.put backup a start))
