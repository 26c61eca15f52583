-- When each command refuses what it read, and what it puts and prints.
use Rattle.std.specs.Prelude.{◌≡◌, ℕ, List, [], ◌∷◌, ◌++◌, length, map, Option, None, codes, decimal}
use Rattle.hop_base.specs.Files.{Files}
use Rattle.hop_base.specs.Meaning.{Meaning}
use Rattle.hop_laws.specs.Blocking.{blocking_texts}
use Rattle.hop_records.specs.Records.{records_of}
use Rattle.hop_jobs.specs.Known.{known_meaning}
use Rattle.hop_words.specs.declared.options.Command.{Command}
use Rattle.hop_words.specs.declared.options.Command.TheVariants.{Block, Chain, Run, Replay}
use Rattle.hop_words.specs.Options.{Asked, AskedOptions, block, chain, run, replay}
use Rattle.hop_replay.specs.Given.{Given}
use Rattle.hop_replay.specs.Folders.{Spilling}
use Rattle.hop_top.specs.Plans.{given_by, long_refusal, run_refusal}
use Rattle.hop_top.specs.Puts.{Puts, Work, part_files}
use Rattle.hop_top.specs.Reading.{AreReadable, RunTexts, bytes_of, reads_of, texts_held}
use Rattle.hop_top.specs.Runs.{RunWorks}
use Rattle.hop_top.specs.Snaps.{MaySnap, SpentWith}
use Rattle.hop_top.specs.Spilling.{all_tell}
use Rattle.hop_top.specs.declared.outcome.Outcome.{Outcome}

-- ---- refusals

-- what a run of these options reads
abbrev pub run_texts : AskedOptions → List ℕ → Files → RunTexts
run_texts options input files = texts_held files input options.script options.turns

-- what it is given
abbrev pub run_given : AskedOptions → Meaning → List ℕ → Files → Given
run_given options job input files = given_by job options.settings (run_texts options input files)

abbrev pub command_refusal : Asked → AskedOptions → Files → Option Outcome
command_refusal (block job input) options files = long_refusal (records_of (bytes_of files input))
command_refusal (run job input) options files = run_refusal options.settings (run_texts options input files)
command_refusal (replay job input) options files = run_refusal options.settings (run_texts options input files)
command_refusal (chain jobs input) options files = run_refusal options.settings (run_texts options input files)

-- the first refusal of what was read
abbrev pub refusal_of : AskedOptions → Files → Option Outcome
refusal_of options files = command_refusal options.command options files

-- what it read is there and isn't refused
pub record Accepted (options : AskedOptions) (files : Files) : Type 0 where
  pub read : AreReadable files (reads_of options)
  pub unrefused : refusal_of options files ≡ None

-- ---- the work

-- what `block` prints at its end
abbrev pub block_summary : ℕ → ℕ → List ℕ
block_summary records parts = codes "done records=" ++ decimal records ++ codes " parts=" ++ decimal parts ++ codes "\n"

-- the blocking job over an input: a part file for each partition
abbrev pub block_work : Meaning → ℕ → List ℕ → Work
block_work job reducers input = record {
  early = [];
  files = part_files 0 (blocking_texts job (records_of input) reducers);
  summary = block_summary (length (records_of input)) reducers;
}

abbrev pub CommandWorks : Asked → AskedOptions → Spilling → Files → Work → Type 0
CommandWorks (block job input) options s files work = work ≡ block_work job options.settings.reducers (bytes_of files input)
CommandWorks (run job input) options s files work = RunWorks (run_given options job input files) [] s work
CommandWorks (replay job input) options s files work = RunWorks (run_given options job input files) [] s work
CommandWorks (chain [] input) options s files work = ⊥
CommandWorks (chain (job ∷ later) input) options s files work = RunWorks (run_given options job input files) later s work

-- what the options may do
abbrev pub Works : AskedOptions → Spilling → Files → Work → Type 0
Works options s files work = CommandWorks options.command options s files work

-- the files that the command may put while it runs: a run puts snapshots
abbrev pub MayPutEarly : Asked → AskedOptions → Spilling → Files → Puts → Type 0
MayPutEarly (block job input) options s files early = early ≡ []
MayPutEarly (run job input) options s files early = MaySnap (run_given options job input files) [] (all_tell options.settings.workers s.before) early
MayPutEarly (replay job input) options s files early = MaySnap (run_given options job input files) [] (all_tell options.settings.workers s.before) early
MayPutEarly (chain [] input) options s files early = ⊥
MayPutEarly (chain (job ∷ later) input) options s files early = MaySnap (run_given options job input files) later (all_tell options.settings.workers s.before) early

-- the command is a run of this job over this input, with these later jobs
abbrev pub AsksRun : Command → Meaning → List Meaning → List ℕ → Type 0
AsksRun (Block job input) meaning later name = ⊥
AsksRun (Run job input) meaning later name = (known_meaning job ≡ meaning) × (later ≡ []) × (input ≡ name)
AsksRun (Replay job input) meaning later name = (known_meaning job ≡ meaning) × (later ≡ []) × (input ≡ name)
AsksRun (Chain jobs input) meaning later name = (map known_meaning jobs ≡ meaning ∷ later) × (input ≡ name)

-- the command makes spills
abbrev pub IsRun : Asked → Type 0
IsRun (block job input) = ⊥
IsRun (run job input) = Unit {0}
IsRun (replay job input) = Unit {0}
IsRun (chain jobs input) = Unit {0}

-- the last attempt of the split is spent, and these files were put before
abbrev pub CommandSpends : Asked → AskedOptions → Spilling → Files → ℕ → Puts → Type 0
CommandSpends (block job input) options s files split early = ⊥
CommandSpends (run job input) options s files split early = SpentWith (run_given options job input files) [] (all_tell options.settings.workers s.before) split early
CommandSpends (replay job input) options s files split early = SpentWith (run_given options job input files) [] (all_tell options.settings.workers s.before) split early
CommandSpends (chain [] input) options s files split early = ⊥
CommandSpends (chain (job ∷ later) input) options s files split early = SpentWith (run_given options job input files) later (all_tell options.settings.workers s.before) split early

abbrev pub Spends : AskedOptions → Spilling → Files → ℕ → Puts → Type 0
Spends options s files split early = CommandSpends options.command options s files split early
