-- Why a mapper's turn fails.
use Rattle.std.specs.Prelude.{ℕ, Result, Ok, Err}
use Rattle.hop_press.specs.declared.fault.FlushFault.{FlushFault}
use Rattle.hop_press.specs.declared.fault.FlushFault.TheVariants as flush
use Rattle.hop_vault.specs.declared.kept.FetchFault.{FetchFault}
use Rattle.hop_vault.specs.declared.kept.FetchFault.TheVariants as fetch
use Rattle.hop_actors.specs.declared.turn.Turn.{Turn}
use Rattle.hop_actors.specs.declared.turn.Turn.TheVariants as answer
use Rattle.hop_actors.specs.declared.fault.Fault.{Fault}
use Rattle.hop_actors.specs.declared.fault.Fault.TheVariants.{SpillFailed, SpillDamaged, SpillCollides, NoMemory}

-- a flush's fault as this worker's
abbrev pub flush_fault : ℕ → FlushFault → Fault
flush_fault worker flush.SpillFailed = SpillFailed worker
flush_fault worker (flush.Damaged at kept found) = SpillDamaged worker at kept found
flush_fault worker (flush.Collides at place) = SpillCollides worker at place
flush_fault worker flush.NoMemory = NoMemory

-- a fetch's fault as this worker's; a range that is fetched back is kept
abbrev pub fetch_fault : ℕ → FetchFault → Fault
fetch_fault worker (fetch.NotKept have) = NoMemory
fetch_fault worker fetch.StoreFailed = SpillFailed worker
fetch_fault worker (fetch.Damaged at kept found) = SpillDamaged worker at kept found
fetch_fault worker (fetch.Collides at place) = SpillCollides worker at place
fetch_fault worker fetch.NoMemory = NoMemory

-- what a turn answers after the lanes: it fails where memory was wanting
abbrev pub turn_of : {A E : Type 0} → Result A E → Turn
turn_of (Ok gone) = answer.Worked
turn_of (Err fault) = answer.Failed NoMemory
