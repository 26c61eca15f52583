-- How a call ends where a run stopped.
use Rattle.hop_actors.specs.declared.fault.Fault.{Fault}
use Rattle.hop_actors.specs.declared.fault.Fault.TheVariants as fault
use Rattle.hop_top.specs.declared.outcome.Outcome.{Outcome}
use Rattle.hop_top.specs.declared.outcome.Outcome.TheVariants as outcome

abbrev pub outcome_of : Fault → Outcome
outcome_of (fault.SpentAt split) = outcome.RetriesSpent split
outcome_of fault.FolderFailed = outcome.FolderFailed
outcome_of (fault.SpillFailed worker) = outcome.SpillFailed worker
outcome_of (fault.SpillDamaged worker at kept found) = outcome.SpillDamaged worker at kept found
outcome_of (fault.SpillCollides worker at place) = outcome.SpillCollides worker at place
outcome_of fault.NoMemory = outcome.NoMemory
