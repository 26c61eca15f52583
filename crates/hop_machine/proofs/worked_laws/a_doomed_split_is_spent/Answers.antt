use Rattle.hop_machine.proofs.play.Worked.{a_doomed_split-spent, a_spared_split-traced}
use Rattle.hop_machine.proofs.worked_laws.a_doomed_split_is_spent.Goals as goal

pub returns-clause-spent : goal.returns-clause-spent
returns-clause-spent c = a_doomed_split-spent

pub returns-clause-spared : goal.returns-clause-spared
returns-clause-spared c = a_spared_split-traced
