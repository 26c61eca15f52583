-- The spill folders of a call, before and after.
use Rattle.std.specs.Prelude.{◌≡◌, ◌≢◌, ℕ, ◌<◌, ◌≤◌, Bool, List, length, take, Option, None, Some, is_some}
use Rattle.std.specs.List.{slice_get, list_all}
use Rattle.hop_ports.specs.Views.{FolderView}
use Rattle.hop_actors.specs.Spilled.{OnlySpills}
use Rattle.hop_replay.specs.Folders.{Spilling, SameCounts, CountRose}
use Rattle.hop_words.specs.Options.{Asked, AskedOptions, block, chain, run, replay}
use Rattle.hop_top.specs.declared.outcome.Outcome.{Outcome}
use Rattle.hop_top.specs.declared.outcome.Outcome.TheVariants as outcome

-- the folder tells what it holds
abbrev pub tells : FolderView → Bool
tells seen = is_some seen.held

-- the spill folders of so many workers tell
abbrev pub all_tell : ℕ → List FolderView → Bool
all_tell workers folders = list_all tells (take workers folders)

-- ---- faults

-- What an answer says of the counts of worker w's folder, and of whether it tells.
abbrev pub WorkerAnswers : ℕ → FolderView → FolderView → Outcome → Type 0
WorkerAnswers w a b (outcome.SpillFailed worker) = (worker ≡ w → CountRose a b) × (worker ≢ w → SameCounts a b)
WorkerAnswers w a b (outcome.SpillDamaged worker at kept found) = SameCounts a b × (worker ≡ w → (a.held ≡ None) × (found ≢ kept))
WorkerAnswers w a b (outcome.SpillCollides worker at place) = SameCounts a b × (worker ≡ w → a.held ≡ None)
WorkerAnswers w a b other = SameCounts a b

-- the worker that an answer names is one of so many
abbrev pub NamesWorker : ℕ → Outcome → Type 0
NamesWorker workers (outcome.SpillFailed worker) = worker < workers
NamesWorker workers (outcome.SpillDamaged worker at kept found) = worker < workers
NamesWorker workers (outcome.SpillCollides worker at place) = worker < workers
NamesWorker workers other = Unit {0}

-- ---- what a call leaves

-- of worker w's folder
pub record WorkerLeaves (w : ℕ) (answer : Outcome) (a b : FolderView) : Type 0 where
  pub puts : OnlySpills a.held b.held
  pub answers : WorkerAnswers w a b answer

-- Of all folders, after a run with so many workers: those of its workers have spills more at most, and the others are as before.
pub record RunLeaves (workers : ℕ) (s : Spilling) (answer : Outcome) : Type 0 where
  pub few : workers ≤ length s.before
  pub count : length s.after ≡ length s.before
  pub named : NamesWorker workers answer
  pub own : (w : ℕ) (a b : FolderView) → w < workers → slice_get s.before w ≡ Some a → slice_get s.after w ≡ Some b → WorkerLeaves w answer a b
  pub others : (w : ℕ) → workers ≤ w → slice_get s.after w ≡ slice_get s.before w

-- Where a run came to its end, whatever comes after it: no count of a spill folder's faults rose.
pub record LeavesSpills (workers : ℕ) (s : Spilling) : Type 0 where
  pub few : workers ≤ length s.before
  pub count : length s.after ≡ length s.before
  pub own : (w : ℕ) (a b : FolderView) → w < workers → slice_get s.before w ≡ Some a → slice_get s.after w ≡ Some b → OnlySpills a.held b.held × SameCounts a b
  pub others : (w : ℕ) → workers ≤ w → slice_get s.after w ≡ slice_get s.before w

-- after a command: one that makes no spills leaves them all as before
abbrev pub CommandLeaves : Asked → ℕ → Spilling → Outcome → Type 0
CommandLeaves (block job input) workers s answer = s.after ≡ s.before
CommandLeaves (run job input) workers s answer = RunLeaves workers s answer
CommandLeaves (replay job input) workers s answer = RunLeaves workers s answer
CommandLeaves (chain jobs input) workers s answer = RunLeaves workers s answer

-- after a call
abbrev pub SpillsLeft : Option AskedOptions → Spilling → Outcome → Type 0
SpillsLeft None s answer = s.after ≡ s.before
SpillsLeft (Some options) s answer = CommandLeaves options.command options.settings.workers s answer
