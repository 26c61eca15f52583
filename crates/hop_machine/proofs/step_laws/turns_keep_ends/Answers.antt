use Rattle.hop_machine.specs.actors.MapperTurns.{mapper_turn}
use Rattle.hop_machine.specs.actors.ReducerTurns.{reducer_turn, writer_turn, take_pull, send_due, restart_if_due, finish}
use Rattle.hop_machine.specs.play.Play.{catch_up, pull_split}
use Rattle.hop_machine.proofs.step.Owners.{Runs-ends}
use Rattle.hop_machine.proofs.step_laws.turns_keep_ends.Goals as goal

pub returns-clause-mapper : goal.returns-clause-mapper
returns-clause-mapper c = λ e m a b y run. Runs-ends e (mapper_turn m) a b y run

pub returns-clause-reducer : goal.returns-clause-reducer
returns-clause-reducer c = λ e r a b y run. Runs-ends e (reducer_turn r) a b y run

pub returns-clause-writer : goal.returns-clause-writer
returns-clause-writer c = λ e x a b y run. Runs-ends e (writer_turn x) a b y run

pub returns-clause-pull : goal.returns-clause-pull
returns-clause-pull c = λ e r part a b ok run. Runs-ends e (take_pull r part) a b ok run

pub returns-clause-cuts : goal.returns-clause-cuts
returns-clause-cuts c = λ e r a b ok run. Runs-ends e (send_due r) a b ok run

pub returns-clause-restart : goal.returns-clause-restart
returns-clause-restart c = λ e r a b y run. Runs-ends e (restart_if_due r) a b y run

pub returns-clause-finish : goal.returns-clause-finish
returns-clause-finish c = λ e r a b ok run. Runs-ends e (finish r) a b ok run

pub returns-clause-catching : goal.returns-clause-catching
returns-clause-catching c = λ e rows r a b y run. Runs-ends e (catch_up rows r) a b y run

pub returns-clause-pulling : goal.returns-clause-pulling
returns-clause-pulling c = λ e i r a b y run. Runs-ends e (pull_split i r) a b y run
