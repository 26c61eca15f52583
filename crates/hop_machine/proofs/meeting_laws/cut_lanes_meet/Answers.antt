use Rattle.std.proofs.Common.{ap}
use Rattle.hop_machine.specs.step.Steps.{Deeds}
use Rattle.hop_machine.proofs.settling.Meeting.{cut_meets-learns, cut_meets-met, cut_meets-others}
use Rattle.hop_machine.proofs.meeting_laws.cut_lanes_meet.Goals as goal

pub returns-clause-learns : goal.returns-clause-learns
returns-clause-learns c = cut_meets-learns

pub returns-clause-met : goal.returns-clause-met
returns-clause-met c = cut_meets-met

pub returns-clause-others : goal.returns-clause-others
returns-clause-others c = cut_meets-others

pub returns-clause-ends : goal.returns-clause-ends
returns-clause-ends c = λ p a b m. ap (λ (d : Deeds). d.ends) m.changes
