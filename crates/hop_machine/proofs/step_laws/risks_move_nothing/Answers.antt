use Rattle.hop_machine.proofs.step.Programs.{risk_steps}
use Rattle.hop_machine.proofs.step_laws.risks_move_nothing.Goals as goal

pub returns : goal.returns
returns c = risk_steps
