-- What the name of a run says of a reducer's runs and of its history.
use Rattle.std.specs.Prelude.{ℕ, ◌≤◌, List, length, All}
use Rattle.hop_base.specs.Meaning.{Meaning}
use Rattle.hop_base.specs.Run.{ScriptLines, RunSettings}
use Rattle.hop_base.specs.declared.value.Pair.{Pair}
use Rattle.hop_base.specs.declared.part.Part.{Part}
use Rattle.hop_laws.specs.Laws.{IsLawful}
use Rattle.hop_laws.specs.Blocking.{part_pairs}
use Rattle.hop_records.specs.Records.{BookValue, lens_of}
use Rattle.hop_event.specs.Legal.{Rules}

-- the records of the run, in splits
abbrev pub book_of : List (List ℕ) → RunSettings → BookValue
book_of records settings = record { records = records; split = settings.split }

-- what the rules of histories use of the run
abbrev pub rules_of : List (List ℕ) → ScriptLines → RunSettings → Rules
rules_of records script settings = record { lens = lens_of (book_of records settings); spill = settings.spill; workers = settings.workers; attempts = settings.attempts; script = script }

-- the pairs of partition p that map emits for the records of a part
abbrev pub pairs_of : Meaning → List (List ℕ) → RunSettings → ℕ → Part → List Pair
pairs_of job records settings p part = part_pairs job records settings.split p settings.reducers part

-- the job is lawful, its records are short enough for it, and at most 16 attempts of a split may be begun
pub record IsRun (job : Meaning) (records : List (List ℕ)) (settings : RunSettings) : Type 0 where
  pub lawful : IsLawful job
  pub short : All (λ line. length line ≤ 131050) records
  pub limit : settings.attempts ≤ 16
