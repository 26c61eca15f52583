use Rattle.std.proofs.Common.{refl}
use Rattle.hop_machine.specs.step.Steps.{Done}
use Rattle.hop_machine.specs.actors.ReducerTurns.{send_due, finish}
use Rattle.hop_machine.proofs.step.Programs.{Runs-and_then}
use Rattle.hop_machine.proofs.play.Going.{opens, catches-up, pulls, finishes}
use Rattle.hop_machine.proofs.place_laws.calls_are_due.Goals as goal

pub returns-clause-opening : goal.returns-clause-opening
returns-clause-opening c = λ e p list a r b ok is l run. opens e p list a r b ok is l (Runs-and_then e (send_due r) (λ k. Done (r, k)) a.deeds b b ok (r, ok) run (refl, refl))

pub returns-clause-catching : goal.returns-clause-catching
returns-clause-catching c = catches-up

pub returns-clause-pulling : goal.returns-clause-pulling
returns-clause-pulling c = pulls

pub returns-clause-finishing : goal.returns-clause-finishing
returns-clause-finishing c = λ e p i a r b ok is l none run. finishes e p i a r b ok is l none (Runs-and_then e (finish r) (λ k. Done (r, k)) a.deeds b b ok (r, ok) run (refl, refl))
