-- Runs of the tests, by what they are given.
use Rattle.std.specs.Prelude.{ℕ, true, List, [], ◌∷◌, Some, codes, Option}
use Rattle.std.specs.FinMap as map
use Rattle.hop_base.specs.Files.{Files}
use Rattle.hop_base.specs.Run.{ScriptLines, RunSettings, least_settings}
use Rattle.hop_records.specs.Records.{records_of}
use Rattle.hop_script.specs.Script.{script_of}

-- the folders of two workers, which hold nothing
abbrev pub no_files : List (Option Files)
no_files = Some map.empty ∷ Some map.empty ∷ []

-- Six records in splits of two. The first worker is delayed twice. The first attempt of each split fails: at 0, at 1, and past its end, which is at 2.
abbrev pub failing_records : List (List ℕ)
failing_records = records_of (codes "a\nb\nc\nd\ne\nf\n")

abbrev pub failing_script : ScriptLines
failing_script = script_of (codes "delay 0 2\nfail 0 0 0\nfail 1 0 1\nfail 2 0 9\n")

abbrev pub failing_settings : RunSettings
failing_settings = record least_settings { split = 2; attempts = 2; lane = 64 }

-- One record, two workers, and a backup attempt.
abbrev pub backed_records : List (List ℕ)
backed_records = records_of (codes "a\n")

abbrev pub backed_settings : RunSettings
backed_settings = record least_settings { workers = 2; attempts = 2; lane = 64; backup = true }

-- One split of four records, and lanes of one message.
abbrev pub narrow_records : List (List ℕ)
narrow_records = records_of (codes "a\nb\nc\nd\n")

abbrev pub narrow_settings : RunSettings
narrow_settings = record least_settings { split = 4 }

-- One split of two records. The reducer restarts after its first arrival, or after its second.
abbrev pub restarting_records : List (List ℕ)
restarting_records = records_of (codes "a\nb\n")

abbrev pub first_script : ScriptLines
first_script = script_of (codes "restart 0 1\n")

abbrev pub second_script : ScriptLines
second_script = script_of (codes "restart 0 2\n")

abbrev pub restarting_settings : RunSettings
restarting_settings = record least_settings { split = 2; lane = 64 }

-- Four records and four marks. They are one split, and what is tentative counts; or two splits, of which the winners alone count; or
-- two splits, where what is tentative counts and the reducer restarts after its first arrival.
abbrev pub four_marks : List ℕ
four_marks = 2000 ∷ 2500 ∷ 5000 ∷ 10000 ∷ []

abbrev pub tentative_settings : RunSettings
tentative_settings = record least_settings { split = 4; lane = 64; tentative = true; marks = four_marks }

abbrev pub committed_settings : RunSettings
committed_settings = record least_settings { split = 2; lane = 64; marks = four_marks }

abbrev pub falling_settings : RunSettings
falling_settings = record least_settings { split = 2; lane = 64; tentative = true; marks = four_marks }

-- One record, two workers, and a backup attempt. The first attempt fails at once.
abbrev pub refused_script : ScriptLines
refused_script = script_of (codes "fail 0 0 0\n")
