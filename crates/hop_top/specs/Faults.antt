-- Faults have their answers: which counts of faults may have risen where the outcome is this one.
use Rattle.std.specs.Prelude.{◌≡◌}
use Rattle.hop_ports.specs.Views.{FolderView, SinkView}
use Rattle.hop_top.specs.declared.outcome.Refusal.TheVariants as refusal
use Rattle.hop_top.specs.declared.outcome.Outcome.{Outcome}
use Rattle.hop_top.specs.declared.outcome.Outcome.TheVariants as outcome

module _ (old new : FolderView) (out_old out_new : SinkView) where
  -- no get, no put and no write failed
  pub record NoneFailed : Type 0 where
    pub gets : new.gets ≡ old.gets
    pub puts : new.puts ≡ old.puts
    pub writes : out_new.faults ≡ out_old.faults

  -- no put and no write failed
  pub record OnlyGetsFailed : Type 0 where
    pub puts : new.puts ≡ old.puts
    pub writes : out_new.faults ≡ out_old.faults

  -- no get and no write failed
  pub record OnlyPutsFailed : Type 0 where
    pub gets : new.gets ≡ old.gets
    pub writes : out_new.faults ≡ out_old.faults

  -- no get and no put failed
  pub record OnlyWritesFailed : Type 0 where
    pub gets : new.gets ≡ old.gets
    pub puts : new.puts ≡ old.puts

  -- no count of faults rose but the one that the outcome tells of
  abbrev pub FaultsAnswered : Outcome → Type 0
  FaultsAnswered outcome.Done = NoneFailed
  FaultsAnswered outcome.Usage = NoneFailed
  FaultsAnswered (outcome.InputFailed file) = OnlyGetsFailed
  FaultsAnswered (outcome.InputRefused (refusal.TooLong file)) = OnlyGetsFailed
  FaultsAnswered (outcome.InputRefused (refusal.RecordTooLong index)) = NoneFailed
  FaultsAnswered (outcome.InputRefused (refusal.TooManySplits count)) = NoneFailed
  FaultsAnswered (outcome.InputRefused (refusal.TooManySpills count)) = NoneFailed
  FaultsAnswered (outcome.ScriptRefused file line) = NoneFailed
  FaultsAnswered (outcome.RetriesSpent split) = NoneFailed
  FaultsAnswered outcome.FolderFailed = OnlyPutsFailed
  FaultsAnswered (outcome.SpillFailed worker) = NoneFailed
  FaultsAnswered (outcome.SpillDamaged worker at kept found) = NoneFailed
  FaultsAnswered (outcome.SpillCollides worker at place) = NoneFailed
  FaultsAnswered outcome.SayFailed = OnlyWritesFailed
  FaultsAnswered outcome.NoMemory = NoneFailed
