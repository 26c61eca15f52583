-- Splits that no attempt can finish.
use Rattle.std.specs.Prelude.{ℕ, ◌<◌, length}
use Rattle.hop_event.specs.Failing.{IsDoomed}
use Rattle.hop_machine.specs.step.Steps.{Setup}

-- a split of the run, each attempt of which that may be begun fails by the script
pub record IsDoomedSplit (s : Setup) (split : ℕ) : Type 0 where
  pub is_split : split < length s.lens
  pub doomed : IsDoomed s.script s.attempts split
