use Rattle.std.proofs.Common.{[], ap}
use Rattle.hop_shelf.specs.Journal.{JournalValue}
use Rattle.hop_shelf.proofs.JournalLaws.{handed_out}
use Rattle.hop_shelf.proofs.journal.Journal.hand_out.Goals as goal

pub returns : goal.returns
returns c = rw (handed_out c.self.inside.top c.self.inside.marks.items) (ap (λ (v : JournalValue). record v { due = [] }) c.self.view_is)
