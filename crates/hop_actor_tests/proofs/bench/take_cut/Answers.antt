use Rattle.std.proofs.Common.{ap, ◌∙◌}
use Rattle.hop_machine.specs.step.Steps.{Ends, CutInEnd}
use Rattle.hop_actor_tests.proofs.bench.take_cut.Goals as goal

pub take_cut_on-requires : goal.take_cut_on-requires
take_cut_on-requires g c = record { here = c.requires; asks = tt }

pub returns : goal.returns
returns g c = ap (λ (e : Ends). e.has (CutInEnd 0)) c.take_cut_on.ensures.step.ends ∙ c.requires
