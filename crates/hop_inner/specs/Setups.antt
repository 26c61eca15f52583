-- What the name of a run fixes, for the machine.
use Rattle.std.specs.Prelude.{ℕ, ◌^◌, List}
use Rattle.hop_base.specs.Run.{ScriptLines, RunSettings}
use Rattle.hop_records.specs.Records.{lens_of}
use Rattle.hop_shelf.specs.Names.{book_of}
use Rattle.hop_machine.specs.step.Steps.{Setup}

-- what a run of these records, this script and these settings fixes
abbrev pub setup_of : List (List ℕ) → ScriptLines → RunSettings → Setup
setup_of records script settings = record {
  workers = settings.workers;
  reducers = settings.reducers;
  attempts = settings.attempts;
  capacity = settings.lane;
  script = script;
  lens = lens_of (book_of records settings);
  spill = settings.spill;
  tentative = settings.tentative;
  marks = settings.marks;
}

-- how many calls for a split or a number a mapper's end of the board has
abbrev pub parts : ℕ
parts = 2 ^ 57
