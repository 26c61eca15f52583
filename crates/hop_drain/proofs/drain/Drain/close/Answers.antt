use Rattle.std.proofs.Common.{sym, subst}
use Rattle.hop_shelf.specs.Journal.{JournalValue}
use Rattle.hop_machine.specs.home.Conditions.{Safe}
use Rattle.hop_inner.specs.Setups.{parts}
use Rattle.hop_drain.specs.Drains.{notes_last}
use Rattle.hop_drain.proofs.Growing.{added_still}
use Rattle.hop_drain.proofs.drain.Drain.close.Goals as goal

pub send_and_record-requires-clause-added : goal.send_and_record-requires-clause-added
send_and_record-requires-clause-added g c = added_still c.args.self.now.number c.args.shelf c.merge_due-merged.new.self (g.E.Reach.deeds c.args.reach.now) c.merge_due-merged.ensures.journal c.merge_due-merged.ensures.p c.requires.added

pub send_and_record-requires-clause-safe : goal.send_and_record-requires-clause-safe
send_and_record-requires-clause-safe g c = subst (λ (j : JournalValue). Safe parts g.E.Reach.exact (notes_last c.args.self.now j.events) (g.E.Reach.deeds c.args.reach.now)) (sym c.merge_due-merged.ensures.journal) c.requires.safe
