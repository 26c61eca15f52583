-- What a run is given, and when it is refused.
use Rattle.std.specs.Prelude.{◌≡◌, ℕ, nat_lt, if◌then◌else◌, List, Option, None, Some, option_map}
use Rattle.std.specs.Option.{option_or}
use Rattle.hop_base.specs.Meaning.{Meaning}
use Rattle.hop_base.specs.Run.{RunSettings}
use Rattle.hop_records.specs.Records.{BookValue, first_long, records_of, spill_count, splits_of}
use Rattle.hop_script.specs.Script.{first_bad, script_of}
use Rattle.hop_script.specs.TurnLines.{first_bad_turn, turns_of}
use Rattle.hop_script.specs.declared.turn.Actors.{Actors}
use Rattle.hop_replay.specs.Given.{Given}
use Rattle.hop_top.specs.Reading.{RunTexts}
use Rattle.hop_top.specs.declared.check.Plan.{Plan}
use Rattle.hop_top.specs.declared.outcome.File.TheVariants as which
use Rattle.hop_top.specs.declared.outcome.Refusal.TheVariants as refusal
use Rattle.hop_top.specs.declared.outcome.Outcome.{Outcome}
use Rattle.hop_top.specs.declared.outcome.Outcome.TheVariants as outcome

-- the actors that a turn list may name: there are no mergers yet
abbrev pub actors_in : RunSettings → Actors
actors_in settings = record { workers = settings.workers; reducers = settings.reducers; mergers = 0 }

-- the records of the input in splits
abbrev pub book_read : RunSettings → List ℕ → BookValue
book_read settings input = record { records = records_of input; split = settings.split }

-- what a run of these texts is given
abbrev pub given_by : Meaning → RunSettings → RunTexts → Given
given_by job settings texts = record {
  job = job;
  records = records_of texts.input;
  script = script_of texts.script;
  settings = settings;
  turns = turns_of (actors_in settings) texts.turns;
}

-- what a run of this plan is given
abbrev pub given_by_plan : Meaning → RunSettings → Plan → Given
given_by_plan job settings plan = record { job = job; records = plan.book.records; script = plan.script; settings = settings; turns = plan.turns }

-- ---- refusals

-- a record is too long
abbrev pub long_refusal : List (List ℕ) → Option Outcome
long_refusal records = option_map (λ index. outcome.InputRefused (refusal.RecordTooLong index)) (first_long records)

-- there are too many splits
abbrev pub splits_refusal : ℕ → Option Outcome
splits_refusal count = if nat_lt 1024 count then Some (outcome.InputRefused (refusal.TooManySplits count)) else None

-- there are too many spills
abbrev pub spills_refusal : ℕ → Option Outcome
spills_refusal count = if nat_lt 65536 count then Some (outcome.InputRefused (refusal.TooManySpills count)) else None

-- a line of the script is bad
abbrev pub script_refusal : List ℕ → Option Outcome
script_refusal text = option_map (λ line. outcome.ScriptRefused which.Script line) (first_bad text)

-- a line of the turn list is bad
abbrev pub turns_refusal : RunSettings → List ℕ → Option Outcome
turns_refusal settings text = option_map (λ line. outcome.ScriptRefused which.Turns line) (first_bad_turn (actors_in settings) text)

-- the first refusal of the input of a run: of its records, its splits and its spills
abbrev pub input_refusal : RunSettings → List ℕ → Option Outcome
input_refusal settings input =
    option_or (long_refusal (records_of input))
    (option_or (splits_refusal (splits_of (book_read settings input)))
    (spills_refusal (spill_count (book_read settings input) settings.spill)))

-- the first refusal of what a run read
abbrev pub run_refusal : RunSettings → RunTexts → Option Outcome
run_refusal settings texts = option_or (input_refusal settings texts.input) (option_or (script_refusal texts.script) (turns_refusal settings texts.turns))

-- the refusal is this one, unless memory was wanting
abbrev pub IsRefusal : Option Outcome → Outcome → Type 0
IsRefusal first outcome.NoMemory = Unit {0}
IsRefusal first outcome.Done = ⊥
IsRefusal first outcome.Usage = ⊥
IsRefusal first (outcome.InputFailed file) = ⊥
IsRefusal first (outcome.InputRefused (refusal.TooLong file)) = ⊥
IsRefusal first (outcome.InputRefused (refusal.RecordTooLong index)) = first ≡ Some (outcome.InputRefused (refusal.RecordTooLong index))
IsRefusal first (outcome.InputRefused (refusal.TooManySplits count)) = first ≡ Some (outcome.InputRefused (refusal.TooManySplits count))
IsRefusal first (outcome.InputRefused (refusal.TooManySpills count)) = first ≡ Some (outcome.InputRefused (refusal.TooManySpills count))
IsRefusal first (outcome.ScriptRefused file line) = first ≡ Some (outcome.ScriptRefused file line)
IsRefusal first (outcome.RetriesSpent split) = ⊥
IsRefusal first outcome.FolderFailed = ⊥
IsRefusal first (outcome.SpillFailed worker) = ⊥
IsRefusal first (outcome.SpillDamaged worker at kept found) = ⊥
IsRefusal first (outcome.SpillCollides worker at place) = ⊥
IsRefusal first outcome.SayFailed = ⊥
