use Rattle.std.proofs.Common.{◌≡◌, ◌∷◌, sym, ap, ◌∙◌, subst}
use Rattle.hop_event.specs.declared.event.Event.TheVariants.{Arrive}
use Rattle.hop_event.specs.declared.event.Via.TheVariants.{Pull}
use Rattle.hop_event.specs.Legal.{GoesOn}
use Rattle.hop_shelf.specs.Names.{pairs_of}
use Rattle.hop_shelf.specs.Journal.{JournalValue}
use Rattle.hop_machine.specs.home.Said.{history_of}
use Rattle.hop_actors.specs.Spilled.{TogetherStand}
use Rattle.hop_drain.proofs.Growing.{pull_goes, arrived_taken, roomy_held, adds_added}
use Rattle.hop_drain.proofs.Calling.{one_safe, one_ran, one_not}
use Rattle.hop_drain.proofs.drain.Drain.record_pull.Goals as goal

pub returns-then-is_err : goal.returns-then-is_err
returns-then-is_err g c =
    let r = c.args.self.now in let s = c.hold-shelf.result in let room = c.reserve.new.self in let a = g.E.Reach.deeds c.args.reach.now in let m = g.E.Reach.deeds c.hold-shelf.new.reach in let part = c.args.part in
    one_not g.E.Reach.exact r (Arrive part Pull) s a m c.hold-shelf.ensures.step (g.E.Reach.deeds c.give.new.reach) room.journal.due (ap (λ (j : JournalValue). j.due) c.reserve.ensures.journal) c.give.ensures

pub returns-in-Err : goal.returns-in-Err
returns-in-Err g c =
    let r = c.args.self.now in let s = c.hold-shelf.result in let room = c.reserve.new.self in let a = g.E.Reach.deeds c.args.reach.now in let m = g.E.Reach.deeds c.hold-shelf.new.reach in let part = c.args.part in
    one_not g.E.Reach.exact r (Arrive part Pull) s a m c.hold-shelf.ensures.step (g.E.Reach.deeds c.give-in-Err.new.reach) room.journal.due (ap (λ (j : JournalValue). j.due) c.reserve.ensures.journal) c.give-in-Err.ensures

pub arrive-requires-clause-stands : goal.arrive-requires-clause-stands
arrive-requires-clause-stands g c =
    let r = c.args.self.now in let s = c.hold-shelf.result in let room = c.reserve.new.self in let a = g.E.Reach.deeds c.args.reach.now in let m = g.E.Reach.deeds c.hold-shelf.new.reach in let part = c.args.part in
    let N = g.N.RunName in let number : r.number ≡ room.p = sym (c.reserve.ensures.p ∙ c.hold-shelf.ensures.held.number) in
    λ tells. c.in-Ok.ensures.holds N.job.reduced (pairs_of N.job N.records N.settings room.p) (subst (λ p. TogetherStand N.job.reduced c.args.sheets (pairs_of N.job N.records N.settings p part)) number (c.requires.stands tells))

pub arrive-requires-clause-pulled : goal.arrive-requires-clause-pulled
arrive-requires-clause-pulled g c =
    let r = c.args.self.now in let s = c.hold-shelf.result in let room = c.reserve.new.self in let a = g.E.Reach.deeds c.args.reach.now in let m = g.E.Reach.deeds c.hold-shelf.new.reach in let part = c.args.part in
    let events : history_of a r.number ≡ room.journal.events = sym (ap (λ (j : JournalValue). j.events) c.reserve.ensures.journal ∙ c.hold-shelf.ensures.step.tells.events) in
    let goes : GoesOn room.journal.events part = pull_goes r part a room.journal.events events c.requires.pull in
    λ is. goes

pub record_last-requires-clause-added : goal.record_last-requires-clause-added
record_last-requires-clause-added g c =
    let r = c.args.self.now in let s = c.hold-shelf.result in let room = c.reserve.new.self in let a = g.E.Reach.deeds c.args.reach.now in let m = g.E.Reach.deeds c.hold-shelf.new.reach in let part = c.args.part in
    let events : history_of a r.number ≡ room.journal.events = sym (ap (λ (j : JournalValue). j.events) c.reserve.ensures.journal ∙ c.hold-shelf.ensures.step.tells.events) in
    let goes : GoesOn room.journal.events part = pull_goes r part a room.journal.events events c.requires.pull in
    let adds = arrived_taken room part Pull c.in-Ok.run' c.arrive.result c.arrive.new.self goes c.arrive.ensures in
    let now = c.arrive.new.self.journal in
    let is : now.events ≡ Arrive part Pull ∷ s.journal.events = adds.0.events ∙ ap (λ (j : JournalValue). Arrive part Pull ∷ j.events) c.reserve.ensures.journal in
    adds_added r.number room c.arrive.new.self (Arrive part Pull) m (roomy_held r.number room.journal.spare s room m c.reserve.ensures.p c.reserve.ensures.journal c.hold-shelf.ensures.held) adds.0 adds.1

pub record_last-requires-clause-safe : goal.record_last-requires-clause-safe
record_last-requires-clause-safe g c =
    let r = c.args.self.now in let s = c.hold-shelf.result in let room = c.reserve.new.self in let a = g.E.Reach.deeds c.args.reach.now in let m = g.E.Reach.deeds c.hold-shelf.new.reach in let part = c.args.part in
    let events : history_of a r.number ≡ room.journal.events = sym (ap (λ (j : JournalValue). j.events) c.reserve.ensures.journal ∙ c.hold-shelf.ensures.step.tells.events) in
    let goes : GoesOn room.journal.events part = pull_goes r part a room.journal.events events c.requires.pull in
    let adds = arrived_taken room part Pull c.in-Ok.run' c.arrive.result c.arrive.new.self goes c.arrive.ensures in
    let now = c.arrive.new.self.journal in
    let is : now.events ≡ Arrive part Pull ∷ s.journal.events = adds.0.events ∙ ap (λ (j : JournalValue). Arrive part Pull ∷ j.events) c.reserve.ensures.journal in
    one_safe g.E.Reach.exact r (Arrive part Pull) s a m c.hold-shelf.ensures.step now is c.requires.safe

pub returns-in-Ok : goal.returns-in-Ok
returns-in-Ok g c =
    let r = c.args.self.now in let s = c.hold-shelf.result in let room = c.reserve.new.self in let a = g.E.Reach.deeds c.args.reach.now in let m = g.E.Reach.deeds c.hold-shelf.new.reach in let part = c.args.part in
    let events : history_of a r.number ≡ room.journal.events = sym (ap (λ (j : JournalValue). j.events) c.reserve.ensures.journal ∙ c.hold-shelf.ensures.step.tells.events) in
    let goes : GoesOn room.journal.events part = pull_goes r part a room.journal.events events c.requires.pull in
    let adds = arrived_taken room part Pull c.in-Ok.run' c.arrive.result c.arrive.new.self goes c.arrive.ensures in
    let now = c.arrive.new.self.journal in
    let is : now.events ≡ Arrive part Pull ∷ s.journal.events = adds.0.events ∙ ap (λ (j : JournalValue). Arrive part Pull ∷ j.events) c.reserve.ensures.journal in
    one_ran g.E.Reach.exact r (Arrive part Pull) s a m c.hold-shelf.ensures.step now (g.E.Reach.deeds c.record_last.new.reach) is c.record_last.ensures
