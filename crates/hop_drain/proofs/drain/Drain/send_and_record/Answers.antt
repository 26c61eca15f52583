use Rattle.std.proofs.Common.{◌≡◌, sym, ap, ◌∙◌, subst, refl}
use Rattle.hop_machine.specs.actors.ReducerTurns.{Reducer, marks_due, works}
use Rattle.hop_machine.specs.step.Steps.{Runs}
use Rattle.hop_machine.specs.declared.words.Turn.{Turn}
use Rattle.hop_inner.specs.Setups.{setup_of}
use Rattle.hop_inner.specs.Shelved.{value_of}
use Rattle.hop_drain.specs.Drains.{notes_last}
use Rattle.hop_drain.proofs.Growing.{due_now}
use Rattle.hop_drain.proofs.Cutting.{closes_safe, closes_adds, closes_held, closes_number, closes_ran}
use Rattle.hop_drain.proofs.drain.Drain.send_and_record.Goals as goal

pub send_cuts-sent-requires-clause-safe : goal.send_cuts-sent-requires-clause-safe
send_cuts-sent-requires-clause-safe g c =
    let N = g.N.RunName in let e = g.E.Reach.exact in let r = c.args.self.now in let s = c.args.shelf in let sound = c.known.ensures.sound in let a = g.E.Reach.deeds c.args.reach.now in
    let due : s.journal.due ≡ marks_due r.setup s.journal.events = due_now (setup_of N.records N.script N.settings) s.journal sound.lens sound.tentative_is sound.marks_are c.requires.added.due ∙ ap (λ st. marks_due st s.journal.events) (sym c.fixed.ensures) in
    closes_safe e r s a c.requires.added due c.requires.safe

pub record_on-requires-clause-adds : goal.record_on-requires-clause-adds
record_on-requires-clause-adds g c =
    let N = g.N.RunName in let e = g.E.Reach.exact in let r = c.args.self.now in let s = c.args.shelf in let sound = c.known.ensures.sound in let a = g.E.Reach.deeds c.args.reach.now in
    let due : s.journal.due ≡ marks_due r.setup s.journal.events = due_now (setup_of N.records N.script N.settings) s.journal sound.lens sound.tentative_is sound.marks_are c.requires.added.due ∙ ap (λ st. marks_due st s.journal.events) (sym c.fixed.ensures) in
    let sent = c.send_cuts-sent.result in let n = g.E.Reach.deeds c.send_cuts-sent.new.reach in let number = ap (λ (r : Reducer). r.number) c.self.view_is in
    closes_adds e r s a c.requires.added due c.requires.safe sent n c.send_cuts-sent.ensures.runs c.send_cuts-sent.new.shelf c.send_cuts-sent.ensures.shelf (value_of c.send_cuts-sent.new.shelf) refl c.self.inside.p number

pub record_on-requires-clause-held : goal.record_on-requires-clause-held
record_on-requires-clause-held g c =
    let N = g.N.RunName in let e = g.E.Reach.exact in let r = c.args.self.now in let s = c.args.shelf in let sound = c.known.ensures.sound in let a = g.E.Reach.deeds c.args.reach.now in
    let due : s.journal.due ≡ marks_due r.setup s.journal.events = due_now (setup_of N.records N.script N.settings) s.journal sound.lens sound.tentative_is sound.marks_are c.requires.added.due ∙ ap (λ st. marks_due st s.journal.events) (sym c.fixed.ensures) in
    let sent = c.send_cuts-sent.result in let n = g.E.Reach.deeds c.send_cuts-sent.new.reach in let number = ap (λ (r : Reducer). r.number) c.self.view_is in
    closes_held e r s a c.requires.added due c.requires.safe sent n c.send_cuts-sent.ensures.runs c.send_cuts-sent.new.shelf c.send_cuts-sent.ensures.shelf (value_of c.send_cuts-sent.new.shelf) refl c.self.inside.p number

pub record_on-requires-clause-number : goal.record_on-requires-clause-number
record_on-requires-clause-number g c =
    let N = g.N.RunName in let e = g.E.Reach.exact in let r = c.args.self.now in let s = c.args.shelf in let sound = c.known.ensures.sound in let a = g.E.Reach.deeds c.args.reach.now in
    let due : s.journal.due ≡ marks_due r.setup s.journal.events = due_now (setup_of N.records N.script N.settings) s.journal sound.lens sound.tentative_is sound.marks_are c.requires.added.due ∙ ap (λ st. marks_due st s.journal.events) (sym c.fixed.ensures) in
    let sent = c.send_cuts-sent.result in let n = g.E.Reach.deeds c.send_cuts-sent.new.reach in let number = ap (λ (r : Reducer). r.number) c.self.view_is in
    closes_number e r s a c.requires.added due c.requires.safe sent n c.send_cuts-sent.ensures.runs c.send_cuts-sent.new.shelf c.send_cuts-sent.ensures.shelf (value_of c.send_cuts-sent.new.shelf) refl c.self.inside.p number c.send_cuts-sent.new.shelf.p refl

pub returns-then-sent : goal.returns-then-sent
returns-then-sent g c =
    let N = g.N.RunName in let e = g.E.Reach.exact in let r = c.args.self.now in let s = c.args.shelf in let sound = c.known.ensures.sound in let a = g.E.Reach.deeds c.args.reach.now in
    let due : s.journal.due ≡ marks_due r.setup s.journal.events = due_now (setup_of N.records N.script N.settings) s.journal sound.lens sound.tentative_is sound.marks_are c.requires.added.due ∙ ap (λ st. marks_due st s.journal.events) (sym c.fixed.ensures) in
    let sent = c.send_cuts-sent.result in let n = g.E.Reach.deeds c.send_cuts-sent.new.reach in let number = ap (λ (r : Reducer). r.number) c.self.view_is in
    let b = g.E.Reach.deeds c.record_on.new.reach in
    subst (λ ok. let x : Reducer × Turn = (r, works ok) in Runs e (notes_last r s.journal.events) a x b) c.if-sent.true
    (closes_ran e r s a c.requires.added due c.requires.safe sent n c.send_cuts-sent.ensures.runs c.send_cuts-sent.new.shelf c.send_cuts-sent.ensures.shelf (value_of c.send_cuts-sent.new.shelf) refl c.self.inside.p number b c.record_on.ensures)

pub returns-else-sent : goal.returns-else-sent
returns-else-sent g c =
    let N = g.N.RunName in let e = g.E.Reach.exact in let r = c.args.self.now in let s = c.args.shelf in let sound = c.known.ensures.sound in let a = g.E.Reach.deeds c.args.reach.now in
    let due : s.journal.due ≡ marks_due r.setup s.journal.events = due_now (setup_of N.records N.script N.settings) s.journal sound.lens sound.tentative_is sound.marks_are c.requires.added.due ∙ ap (λ st. marks_due st s.journal.events) (sym c.fixed.ensures) in
    let sent = c.send_cuts-sent.result in let n = g.E.Reach.deeds c.send_cuts-sent.new.reach in let number = ap (λ (r : Reducer). r.number) c.self.view_is in
    let b = g.E.Reach.deeds c.record_on.new.reach in
    subst (λ ok. let x : Reducer × Turn = (r, works ok) in Runs e (notes_last r s.journal.events) a x b) c.if-sent.false
    (closes_ran e r s a c.requires.added due c.requires.safe sent n c.send_cuts-sent.ensures.runs c.send_cuts-sent.new.shelf c.send_cuts-sent.ensures.shelf (value_of c.send_cuts-sent.new.shelf) refl c.self.inside.p number b c.record_on.ensures)
