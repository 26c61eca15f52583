use Rattle.std.proofs.Common.{ap}
use Rattle.hop_machine.specs.step.Steps.{Deeds}
use Rattle.hop_machine.proofs.settling.Meeting.{meets-learns, meets-met, meets-others}
use Rattle.hop_machine.proofs.meeting_laws.lanes_meet.Goals as goal

pub returns-clause-learns : goal.returns-clause-learns
returns-clause-learns c = meets-learns

pub returns-clause-met : goal.returns-clause-met
returns-clause-met c = meets-met

pub returns-clause-others : goal.returns-clause-others
returns-clause-others c = meets-others

pub returns-clause-ends : goal.returns-clause-ends
returns-clause-ends c = λ w p a b m. ap (λ (d : Deeds). d.ends) m.changes
