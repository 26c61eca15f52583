use Rattle.std.proofs.Common.{ap}
use Rattle.hop_machine.specs.declared.words.Who.TheVariants as whose
use Rattle.hop_machine.specs.step.Steps.{Deeds}
use Rattle.hop_actor_tests.proofs.worlds.world.Goals as goal

pub returns-clause-unasked : goal.returns-clause-unasked
returns-clause-unasked c = ap (λ (d : Deeds). (d.did.seats (whose.Mapper 0)).calls) c.in_ok-new.ensures.new
