use Rattle.hop_shelf.proofs.journal.Journal.is_settled.Given as goal
use Rattle.hop_event.specs.Legal.{AllSettled}

abbrev pub invariant-loop-b : goal.invariant-loop-b
invariant-loop-b l = AllSettled l.self.events l.i l.b
