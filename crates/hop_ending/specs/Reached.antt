-- The cuts of marks that were reached, as the writer of a run takes them while the job runs.
use Rattle.std.specs.Prelude.{◌≡◌, ℕ, ◌≤◌, ◌<◌, List, length, Some, None, slice_index, slice_index_or, All}
use Rattle.std.specs.List.{Contains}
use Rattle.hop_event.specs.declared.declared.Declared.{Declared}
use Rattle.hop_event.specs.Coverage.{progress_of}
use Rattle.hop_machine.specs.step.Steps.{Setup, CutSaid}
use Rattle.hop_machine.specs.actors.ReducerTurns.{Writing}

-- What is declared of a split are the first of its records, one or more, of an attempt that there may be.
pub record IsWithin (s : Setup) (i : ℕ) (d : Declared) : Type 0 where
  pub some : 0 < d.records
  pub within : d.records ≤ slice_index s.lens i
  pub attempt : d.attempt < s.attempts

-- The cut of a mark of the run: it declares each split, has the progress of what it declares, and that reaches the mark.
pub record IsReached (s : Setup) (c : CutSaid) : Type 0 where
  pub marked : Contains s.marks c.mark
  pub each : length c.declared ≡ length s.lens
  pub within : (i : ℕ) (d : Declared) → i < length s.lens → slice_index_or c.declared i None ≡ Some d → IsWithin s i d
  pub progress_is : c.progress ≡ progress_of s.lens (λ i. slice_index_or c.declared i None)
  pub reaches : c.mark ≤ c.progress

-- What the writer wrote are such cuts, of reducers of the run.
abbrev pub WroteReached : Setup → List Writing → Type 0
WroteReached s writings = All (λ (w : Writing). (w.reducer < s.reducers) × IsReached s w.cut) writings
