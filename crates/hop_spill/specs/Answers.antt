-- What readers answer, by what reading gives.
use Rattle.std.specs.Prelude.{◌≡◌, ℕ, Result, Ok, Err}
use Rattle.hop_spill.specs.declared.spill.FlatSpill.{FlatSpill}
use Rattle.hop_spill.specs.declared.spill.Spill.{Spill}
use Rattle.hop_spill.specs.declared.spill.SpillFault.{SpillFault}
use Rattle.hop_spill.specs.declared.spill.SpillFault.TheVariants as fault
use Rattle.hop_spill.specs.Spelling.{spill_in}
use Rattle.hop_spill.specs.declared.stop.Stop.{Stop}
use Rattle.hop_spill.specs.declared.stop.Stop.TheVariants as stop

-- the reader stops where reading fails, or for want of memory
abbrev pub StopsAt : {Y : Type 0} → Stop → Result Y ℕ → Type 0
StopsAt stop.NoMemory reading = Unit {0}
StopsAt (stop.Left left) reading = reading ≡ Err left

-- What a reader answers, seen by a view, is what reading gives, unless memory ran out.
abbrev pub Gives : {X Y : Type 0} → (X → Y) → Result X Stop → Result Y ℕ → Type 0
Gives view (Ok x) reading = reading ≡ Ok (view x)
Gives view (Err e) reading = StopsAt e reading

-- an answer whose sheets are kept as bytes, as an answer
abbrev pub answer_in : Result FlatSpill SpillFault → Result Spill SpillFault
answer_in (Ok spill) = Ok (spill_in spill)
answer_in (Err e) = Err e

-- the answer is a spill, or the place where reading fails, as reading gives it, or want of memory
abbrev pub IsAnswer : Result Spill SpillFault → Result Spill ℕ → Type 0
IsAnswer (Ok spill) reading = reading ≡ Ok spill
IsAnswer (Err fault.NoMemory) reading = Unit {0}
IsAnswer (Err (fault.Damaged place)) reading = reading ≡ Err place
