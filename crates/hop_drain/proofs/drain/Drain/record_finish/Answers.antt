use Rattle.std.proofs.Common.{◌≡◌, ◌∷◌, sym, ap, ◌∙◌}
use Rattle.hop_event.specs.declared.event.Event.TheVariants.{Finish}
use Rattle.hop_shelf.specs.Journal.{JournalValue}
use Rattle.hop_drain.proofs.Calling.{one_safe, one_ran, one_not, done_here}
use Rattle.hop_drain.proofs.drain.Drain.record_finish.Goals as goal

pub returns-then-is_err : goal.returns-then-is_err
returns-then-is_err g c =
    one_not g.E.Reach.exact c.args.self.now Finish c.hold-shelf.result (g.E.Reach.deeds c.args.reach.now) (g.E.Reach.deeds c.hold-shelf.new.reach) c.hold-shelf.ensures.step (g.E.Reach.deeds c.give.new.reach) c.reserve.new.self.journal.due
    (ap (λ (j : JournalValue). j.due) c.reserve.ensures.journal) c.give.ensures

pub record_last-requires-clause-safe : goal.record_last-requires-clause-safe
record_last-requires-clause-safe g c =
    let s = c.hold-shelf.result in let now = c.finish.new.self.journal in
    let is : now.events ≡ Finish ∷ s.journal.events = c.in-Ok.ensures.event.events ∙ (λ i. Finish ∷ (c.reserve.ensures.journal i).events) in
    one_safe g.E.Reach.exact c.args.self.now Finish s (g.E.Reach.deeds c.args.reach.now) (g.E.Reach.deeds c.hold-shelf.new.reach) c.hold-shelf.ensures.step now is c.requires.safe

pub returns : goal.returns
returns g c =
    let s = c.hold-shelf.result in let now = c.finish.new.self.journal in
    let is : now.events ≡ Finish ∷ s.journal.events = c.in-Ok.ensures.event.events ∙ (λ i. Finish ∷ (c.reserve.ensures.journal i).events) in
    one_ran g.E.Reach.exact c.args.self.now Finish s (g.E.Reach.deeds c.args.reach.now) (g.E.Reach.deeds c.hold-shelf.new.reach) c.hold-shelf.ensures.step now (g.E.Reach.deeds c.record_last.new.reach) is c.record_last.ensures

pub unreachable-requires : goal.unreachable-requires
unreachable-requires g c =
    let r = c.args.self.now in let s = c.hold-shelf.result in let j = c.reserve.new.self.journal in let a = g.E.Reach.deeds c.args.reach.now in
    let lens = (λ i. (c.fixed.ensures i).lens) ∙ sym c.known.ensures.sound.lens ∙ sym (ap (λ (j : JournalValue). j.lens) c.reserve.ensures.journal) in
    let events = sym (ap (λ (j : JournalValue). j.events) c.reserve.ensures.journal ∙ c.hold-shelf.ensures.step.tells.events) in
    c.in-Err.ensures.err.here (done_here r j c.args.begun.now a _ lens events c.requires.ends c.in-Err.ensures.err.split)
