use Rattle.hop_machine.proofs.settling.Gathering.{gathers-learns, gathers-gathered, gathers-reducer, gathers-writer, gathers-none}
use Rattle.hop_machine.proofs.meeting_laws.ends_are_gathered.Goals as goal

pub returns-clause-learns : goal.returns-clause-learns
returns-clause-learns c = gathers-learns

pub returns-clause-gathered : goal.returns-clause-gathered
returns-clause-gathered c = gathers-gathered

pub returns-clause-reducer : goal.returns-clause-reducer
returns-clause-reducer c = gathers-reducer

pub returns-clause-writer : goal.returns-clause-writer
returns-clause-writer c = gathers-writer

pub returns-clause-none : goal.returns-clause-none
returns-clause-none c = gathers-none
