use Rattle.std.proofs.Common.{◌≡◌, ℕ, Result, Err, ap}
use Rattle.hop_spill.specs.declared.spill.Spill.{Spill}
use Rattle.hop_spill.specs.declared.spill.FlatSpill.{FlatSpill}
use Rattle.hop_spill.specs.declared.spill.SpillFault.{SpillFault}
use Rattle.hop_spill.specs.declared.spill.SpillFault.TheVariants as fault
use Rattle.hop_spill.proofs.decoding.decode.Goals as goal

-- one fault, of one type of answer and of another
same_fault : (a b : SpillFault) → ◌≡◌ {A = Result Spill SpillFault} (Err a) (Err b) → ◌≡◌ {A = Result FlatSpill SpillFault} (Err a) (Err b)
same_fault a b e = let same : a ≡ b = cc in ap (λ (f : SpillFault). Err f) same

pub returns-in-Err-clause-stops : goal.returns-in-Err-clause-stops
returns-in-Err-clause-stops c = λ place e. c.in-Err.ensures.stops place (same_fault c.in-Err.fault (fault.Damaged place) e)
