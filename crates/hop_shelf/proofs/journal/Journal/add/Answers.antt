use Rattle.std.proofs.Common.{refl}
use Rattle.hop_shelf.proofs.JournalLaws.{recorded_more, due_more, adds_event}
use Rattle.hop_shelf.proofs.journal.Journal.add.Goals as goal

pub invariant_of-self : goal.invariant_of-self
invariant_of-self c =
    rw (c.restart_after-self-inside.ensures, c.counted-self-inside.ensures, c.max-self-inside.ensures, c.deref.ensures.value, c.is_arrival-arrival.ensures, c.push.ensures.events)
    (recorded_more c.self.inside.history.events c.self.inside.coverage c.self.inside.restarts.items c.self.inside.count c.self.inside.restart c.self.inside.before c.self.inside.top c.self.invariant c.args.e c.note.new.self c.progress.result (c.note.ensures.lens, c.note.ensures.wanted) c.note.ensures.stands c.progress.ensures.value)

pub returns-clause-adds : goal.returns-clause-adds
returns-clause-adds c =
    let due = due_more c.self.inside.history.events c.self.inside.coverage c.self.inside.restarts.items c.self.inside.count c.self.inside.restart c.self.inside.before c.self.inside.top c.self.invariant c.args.e c.note.new.self c.progress.result (c.note.ensures.lens, c.note.ensures.wanted) c.note.ensures.stands c.progress.ensures.value c.self.inside.marks.items in
    adds_event c.args.self.now _ c.args.e _ c.self.view_is c.push.ensures.events c.note.ensures.lens c.note.ensures.wanted refl refl (rw c.max-self-inside.ensures due)
