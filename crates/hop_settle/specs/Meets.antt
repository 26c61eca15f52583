-- What a meet of a cut lane wants.
use Rattle.std.specs.Prelude.{◌≡◌, ℕ, true}
use Rattle.hop_machine.specs.step.Steps.{Deeds, CutOutEnd, CutInEnd}

-- the value has both ends of reducer p's cut lane
pub record HasCutLane (p : ℕ) (d : Deeds) : Type 0 where
  pub out : d.ends.has (CutOutEnd p) ≡ true
  pub into : d.ends.has (CutInEnd p) ≡ true
