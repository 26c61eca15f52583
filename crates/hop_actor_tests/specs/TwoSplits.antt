-- A run of the tests: two splits of one record each, two attempts, and no script.
use Rattle.std.specs.Prelude.{ℕ, List, [], ◌∷◌, codes}
use Rattle.hop_base.specs.Run.{RunSettings, least_settings}

abbrev pub two_records : List (List ℕ)
two_records = codes "a" ∷ codes "b" ∷ []

abbrev pub two_attempts : RunSettings
two_attempts = record least_settings { attempts = 2 }
