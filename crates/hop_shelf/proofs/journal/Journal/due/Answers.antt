use Rattle.std.proofs.Common.{◌≡◌, Some, subst}
use Rattle.std.specs.Prelude.{All}
use Rattle.hop_event.specs.Coverage.{cut_at}
use Rattle.hop_shelf.specs.Journal.{JournalValue}
use Rattle.hop_shelf.proofs.JournalLaws.{due_first}
use Rattle.hop_shelf.proofs.journal.Journal.due.Goals as goal

pub returns-clause-first : goal.returns-clause-first
returns-clause-first c =
    subst (λ (v : JournalValue). All (λ m. cut_at v.tentative v.lens m v.events ≡ Some v.events) c.in_ok-marks.marks.items) c.self.view_is
    (rw (c.in_ok-marks.ensures, c.deref.ensures.value) (due_first c.self.inside.history.events c.self.inside.coverage c.self.inside.restarts.items c.self.inside.count c.self.inside.restart c.self.inside.before c.self.inside.top c.self.invariant c.self.inside.marks.items))
