-- The table of options.
use Rattle.std.specs.Prelude.{ℕ, List, [], ◌∷◌, ◌++◌, Option, codes}
use Rattle.hop_words.specs.Numbers.{number_in}

-- an option with a number: its name, its range, and what it is where it isn't given
pub record NumberOption : Type 0 where
  pub name : List ℕ
  pub least : ℕ
  pub most : ℕ
  pub default : ℕ

-- how many the job top keeps
abbrev pub k_option : NumberOption
k_option = record { name = codes "k"; least = 1; most = 1000; default = 10 }

-- how many reducers there are, and so partitions
abbrev pub reducers_option : NumberOption
reducers_option = record { name = codes "reducers"; least = 1; most = 8; default = 1 }

-- the records of a split
abbrev pub split_option : NumberOption
split_option = record { name = codes "split"; least = 1; most = 16777216; default = 16384 }

-- the records of a spill
abbrev pub spill_option : NumberOption
spill_option = record { name = codes "spill"; least = 1; most = 65535; default = 1000 }

-- how many map workers there are
abbrev pub workers_option : NumberOption
workers_option = record { name = codes "workers"; least = 1; most = 8; default = 2 }

-- how many attempts of a split may be begun
abbrev pub attempts_option : NumberOption
attempts_option = record { name = codes "attempts"; least = 1; most = 16; default = 4 }

-- how many messages a lane has room for
abbrev pub lane_option : NumberOption
lane_option = record { name = codes "lane"; least = 1; most = 64; default = 2 }

-- the option of the marks
abbrev pub marks_option : List ℕ
marks_option = codes "marks"

-- whether snapshots cover tentative data
abbrev pub tentative_option : List ℕ
tentative_option = codes "tentative"

-- the option that names the fault script
abbrev pub script_option : List ℕ
script_option = codes "script"

-- the option that names the turn list
abbrev pub turns_option : List ℕ
turns_option = codes "turns"

-- the options of each command with a job
abbrev pub job_options : List (List ℕ)
job_options = k_option.name ∷ reducers_option.name ∷ []

-- those of a run and of a chain
abbrev pub run_options : List (List ℕ)
run_options = split_option.name ∷ spill_option.name ∷ workers_option.name ∷ attempts_option.name ∷ lane_option.name ∷ marks_option ∷ tentative_option ∷ script_option ∷ []

-- that of a run by a turn list
abbrev pub turn_options : List (List ℕ)
turn_options = turns_option ∷ []

-- the names of all options
abbrev pub option_names : List (List ℕ)
option_names = job_options ++ (run_options ++ turn_options)

-- the number of an option by the values that it was given
abbrev pub number_in_row : NumberOption → List (List ℕ) → Option ℕ
number_in_row row values = number_in row.least row.most row.default values
