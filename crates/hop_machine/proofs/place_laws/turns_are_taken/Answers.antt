use Rattle.hop_machine.specs.actors.MapperTurns.{mapper_turn}
use Rattle.hop_machine.specs.actors.ReducerTurns.{reducer_turn}
use Rattle.hop_machine.specs.declared.words.Turn.TheVariants.{Idle}
use Rattle.hop_machine.proofs.play.Going.{mapper_did, reducer_did, writer_did}
use Rattle.hop_machine.proofs.place_laws.turns_are_taken.Goals as goal

pub returns-clause-mapper : goal.returns-clause-mapper
returns-clause-mapper c = λ e w a m b y is run. mapper_did e w mapper_turn Idle a.actors m a.deeds b y is run

pub returns-clause-reducer : goal.returns-clause-reducer
returns-clause-reducer c = λ e p a r b y is run. reducer_did e p reducer_turn Idle a.actors r a.deeds b y is run

pub returns-clause-writer : goal.returns-clause-writer
returns-clause-writer c = λ e a b y run. writer_did e a.actors a.deeds b y run
