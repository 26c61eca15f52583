-- What a reducer's turn did, as the machine says it.
use Rattle.hop_machine.specs.declared.words.Turn.{Turn}
use Rattle.hop_machine.specs.declared.words.Turn.TheVariants as said
use Rattle.hop_drain.specs.declared.answer.Answer.{Answer}
use Rattle.hop_drain.specs.declared.answer.Answer.TheVariants.{Worked, Idle, Stopped}

-- the answer, as the machine says it
abbrev pub said_answer : Answer → Turn
said_answer Worked = said.Worked
said_answer Idle = said.Idle
said_answer Stopped = said.Stopped
