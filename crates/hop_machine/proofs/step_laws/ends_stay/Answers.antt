use Rattle.hop_machine.proofs.home.Here.{has_kept, reducer_kept, writer_kept, all_kept}
use Rattle.hop_machine.proofs.step_laws.ends_stay.Goals as goal

pub returns-clause-mapper : goal.returns-clause-mapper
returns-clause-mapper c = has_kept

pub returns-clause-reducer : goal.returns-clause-reducer
returns-clause-reducer c = reducer_kept

pub returns-clause-writer : goal.returns-clause-writer
returns-clause-writer c = writer_kept

pub returns-clause-all : goal.returns-clause-all
returns-clause-all c = all_kept
