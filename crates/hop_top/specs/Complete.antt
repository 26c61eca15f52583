-- When nothing stands in the way of a command.
use Rattle.std.specs.Prelude.{◌≡◌, ◌⊎◌, ℕ, [], ◌∷◌, IsTrue, Option, Some}
use Rattle.std.specs.List.{slice_get}
use Rattle.hop_base.specs.Causes.{Rose}
use Rattle.hop_base.specs.Files.{Files}
use Rattle.hop_ports.specs.Views.{FolderView, SinkView}
use Rattle.hop_words.specs.Options.{Asked, AskedOptions, block, chain, run, replay}
use Rattle.hop_ending.specs.Doomed.{IsDoomedSplit}
use Rattle.hop_machine.specs.play.Play.{Machine, NoneLeft}
use Rattle.hop_replay.specs.Given.{PlaysTo, setup_given}
use Rattle.hop_replay.specs.Folders.{Spilling}
use Rattle.hop_top.specs.Spilling.{all_tell}
use Rattle.hop_top.specs.Work.{Accepted, run_given}
use Rattle.hop_top.specs.declared.outcome.Outcome.{Outcome}
use Rattle.hop_top.specs.declared.outcome.Outcome.TheVariants as outcome

-- each attempt of some split of a run that may be begun fails by the script
abbrev pub SomeDoomed : Asked → AskedOptions → Files → Type 0
SomeDoomed (block job input) options files = ⊥
SomeDoomed (run job input) options files = (split : ℕ) × IsDoomedSplit (setup_given (run_given options job input files)) split
SomeDoomed (replay job input) options files = (split : ℕ) × IsDoomedSplit (setup_given (run_given options job input files)) split
SomeDoomed (chain [] input) options files = ⊥
SomeDoomed (chain (job ∷ later) input) options files = (split : ℕ) × IsDoomedSplit (setup_given (run_given options job input files)) split

-- the play of the turn list ends where this split has no attempt left
abbrev pub PlayIsSpent : Asked → AskedOptions → Files → ℕ → Type 0
PlayIsSpent (block job input) options files split = ⊥
PlayIsSpent (run job input) options files split = (end : Machine) × PlaysTo (run_given options job input files) (NoneLeft split) end
PlayIsSpent (replay job input) options files split = (end : Machine) × PlaysTo (run_given options job input files) (NoneLeft split) end
PlayIsSpent (chain [] input) options files split = ⊥
PlayIsSpent (chain (job ∷ later) input) options files split = (end : Machine) × PlaysTo (run_given options job input files) (NoneLeft split) end

module _ (old new : FolderView) (out_old out_new : SinkView) (s : Spilling) where
  -- no count of faults rose
  pub record NoneRose : Type 0 where
    pub gets : Rose old.gets new.gets → ⊥
    pub puts : Rose old.puts new.puts → ⊥
    pub faults : Rose out_old.faults out_new.faults → ⊥
    pub spills : (w : ℕ) (a b : FolderView) → slice_get s.before w ≡ Some a → slice_get s.after w ≡ Some b → (Rose a.gets b.gets → ⊥) × (Rose a.puts b.puts → ⊥)

  -- Where the folders tell, the words, the files and the records are accepted, no split is doomed and no count of faults rose, all is done or
  -- memory was wanting.
  abbrev pub IsComplete : Option AskedOptions → Outcome → Type 0
  IsComplete asked answer =
      (options : AskedOptions) (files : Files) → asked ≡ Some options → old.held ≡ Some files → IsTrue (all_tell options.settings.workers s.before)
      → Accepted options files → (SomeDoomed options.command options files → ⊥) → NoneRose
      → (answer ≡ outcome.Done) ⊎ (answer ≡ outcome.NoMemory)

  -- Where some split is doomed, it is never done.
  abbrev pub IsNeverDone : Option AskedOptions → Outcome → Type 0
  IsNeverDone asked answer =
      (options : AskedOptions) (files : Files) → asked ≡ Some options → old.held ≡ Some files → SomeDoomed options.command options files → answer ≡ outcome.Done → ⊥

  -- Where the folders tell, the words, the files and the records are accepted, the play of the turn list ends where this split has no attempt left, and no count of
  -- faults rose, just that is answered, or memory was wanting.
  abbrev pub IsSpentSo : Option AskedOptions → Outcome → Type 0
  IsSpentSo asked answer =
      (options : AskedOptions) (files : Files) (split : ℕ) → asked ≡ Some options → old.held ≡ Some files → IsTrue (all_tell options.settings.workers s.before)
      → Accepted options files → PlayIsSpent options.command options files split → NoneRose
      → (answer ≡ outcome.RetriesSpent split) ⊎ (answer ≡ outcome.NoMemory)
