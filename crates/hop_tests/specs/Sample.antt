-- A run of the tests: one split of two records, two attempts, two marks, and a restart after the fourth arrival.
use Rattle.std.specs.Prelude.{ℕ, true, List, [], ◌∷◌, codes}
use Rattle.hop_base.specs.Run.{RunSettings, ScriptLines, least_settings}
use Rattle.hop_event.specs.Legal.{Rules}
use Rattle.hop_shelf.specs.Names.{rules_of}

abbrev pub two_records : List (List ℕ)
two_records = codes "a" ∷ codes "b" ∷ []

abbrev pub two_marks : RunSettings
two_marks = record least_settings { split = 2; attempts = 2; tentative = true; marks = 5000 ∷ 10000 ∷ [] }

abbrev pub one_restart : ScriptLines
one_restart = record { fails = []; restarts = record { partition = 0; arrivals = 4 } ∷ []; delays = [] }

abbrev pub sample_rules : Rules
sample_rules = rules_of two_records one_restart two_marks
