use Rattle.std.proofs.Common.{ap}
use Rattle.hop_machine.specs.declared.words.Who.TheVariants as whose
use Rattle.hop_machine.specs.step.Steps.{Did}
use Rattle.hop_actor_tests.proofs.boards.draw.Goals as goal

pub returns-clause-seat : goal.returns-clause-seat
returns-clause-seat c = ap (λ (d : Did). d.seats (whose.Mapper 0)) (c.draw.ensures.step 0 c.requires.who).did
