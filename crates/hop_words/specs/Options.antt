-- What the words of a command line ask for, by cases from the tables of commands and options.
use Rattle.std.specs.Prelude.{◌≡◌, ◌≤◌, ℕ, Bool, true, false, not, ◌&&◌, ◌==◌, if◌then◌else◌, List, [], ◌∷◌, ◌++◌, length, map, filter, Option, None, Some, IfSome, is_some, option_map, option_and_then, codes}
use Rattle.std.specs.List.{list_all}
use Rattle.std.specs.Str.{bytes_eq}
use Rattle.hop_base.specs.Meaning.{Meaning}
use Rattle.hop_base.specs.Run.{RunSettings}
use Rattle.hop_base.specs.declared.settings.Settings.{Settings}
use Rattle.hop_jobs.specs.Known.{known_meaning}
use Rattle.hop_jobs.specs.Max.{max_meaning}
use Rattle.hop_jobs.specs.Sum.{sum_meaning}
use Rattle.hop_jobs.specs.Top.{top_meaning}
use Rattle.hop_jobs.specs.Wc.{wc_meaning}
use Rattle.hop_jobs.specs.declared.known.Known.{Known}
use Rattle.hop_words.specs.Marks.{marks_in, yes_or_no_in}
use Rattle.hop_words.specs.Names.{is_name, name_in}
use Rattle.hop_words.specs.Scan.{Scanned, is_known, scan, values_given}
use Rattle.hop_words.specs.Table.{NumberOption, attempts_option, job_options, k_option, lane_option, marks_option, number_in_row, option_names, reducers_option, run_options, script_option, spill_option, split_option, tentative_option, turn_options, turns_option, workers_option}
use Rattle.hop_words.specs.declared.options.Command.{Command}
use Rattle.hop_words.specs.declared.options.Command.TheVariants.{Block, Run, Replay, Chain}
use Rattle.hop_words.specs.declared.options.Options.{Options}

-- a command: its job or jobs, and the names of its files
pub data Asked : Type 0 where
  block : Meaning → List ℕ → Asked
  run : Meaning → List ℕ → Asked
  replay : Meaning → List ℕ → Asked
  chain : List Meaning → List ℕ → Asked

-- a command with its settings, and the names of the files that options give
pub record AskedOptions : Type 0 where
  pub command : Asked
  pub settings : RunSettings
  pub script : Option (List ℕ)
  pub turns : Option (List ℕ)
  pub trace : Option (List ℕ)

-- what is set where no option says otherwise
abbrev pub default_settings : RunSettings
default_settings = record {
  reducers = 1;
  split = 16384;
  spill = 1000;
  workers = 2;
  attempts = 4;
  lane = 2;
  mergers = 1;
  threads = 4;
  backup = false;
  tentative = true;
  marks = [];
}

-- ---- the plain words

-- the job of this name, where top keeps k
abbrev pub job_named : ℕ → List ℕ → Option Meaning
job_named k word =
    if bytes_eq word (codes "wc") then Some wc_meaning
    else if bytes_eq word (codes "sum") then Some sum_meaning
    else if bytes_eq word (codes "max") then Some max_meaning
    else if bytes_eq word (codes "top") then Some (top_meaning k)
    else None

-- the command of this name, over a job and an input
abbrev pub command_named : List ℕ → Meaning → List ℕ → Option Asked
command_named word meaning input =
    if bytes_eq word (codes "block") then Some (block meaning input)
    else if bytes_eq word (codes "run") then Some (run meaning input)
    else if bytes_eq word (codes "replay") then Some (replay meaning input)
    else None

-- `COMMAND JOB INPUT`
abbrev pub job_asked : ℕ → List ℕ → List ℕ → List ℕ → Option Asked
job_asked k command job input =
    if is_name input then option_and_then (λ meaning. command_named command meaning input) (job_named k job) else None

-- the jobs of these names, in order
abbrev pub jobs_named : ℕ → List (List ℕ) → Option (List Meaning)
jobs_named k [] = Some []
jobs_named k (word ∷ words) = option_and_then (λ meaning. option_map (λ meanings. meaning ∷ meanings) (jobs_named k words)) (job_named k word)

-- `chain`, the names of its jobs in order, and the input of the first
abbrev pub chain_asked : ℕ → List ℕ → List (List ℕ) → List ℕ → Option Asked
chain_asked k command jobs input =
    if bytes_eq command (codes "chain") && is_name input then option_map (λ meanings. chain meanings input) (jobs_named k jobs) else None

-- the plain words, by the forms of the commands: a chain has two to four jobs
abbrev pub asked_plainly : ℕ → List (List ℕ) → Option Asked
asked_plainly k (command ∷ job ∷ input ∷ []) = job_asked k command job input
asked_plainly k (command ∷ first ∷ second ∷ input ∷ []) = chain_asked k command (first ∷ second ∷ []) input
asked_plainly k (command ∷ first ∷ second ∷ third ∷ input ∷ []) = chain_asked k command (first ∷ second ∷ third ∷ []) input
asked_plainly k (command ∷ first ∷ second ∷ third ∷ fourth ∷ input ∷ []) = chain_asked k command (first ∷ second ∷ third ∷ fourth ∷ []) input
asked_plainly k others = None

-- ---- the options

-- the values that each option is given, by its name
abbrev pub Given : Type 0
Given = List ℕ → List (List ℕ)

-- what comes of the number of an option, where it is in its range
abbrev pub with_number : {A : Type 0} → Given → NumberOption → (ℕ → Option A) → Option A
with_number given row next = option_and_then next (number_in_row row (given row.name))

-- the settings with these two, where each number is in its range
abbrev pub numbers_asked : Given → Bool → List ℕ → Option RunSettings
numbers_asked given tentative marks =
    with_number given reducers_option (λ reducers.
    with_number given split_option (λ split.
    with_number given spill_option (λ spill.
    with_number given workers_option (λ workers.
    with_number given attempts_option (λ attempts.
    with_number given lane_option (λ lane.
    Some (record default_settings { reducers = reducers; split = split; spill = spill; workers = workers; attempts = attempts; lane = lane; tentative = tentative; marks = marks })))))))

-- the settings, where each is in its range
abbrev pub settings_asked : Given → Option RunSettings
settings_asked given =
    option_and_then (λ tentative. option_and_then (λ marks. numbers_asked given tentative marks) (marks_in (given marks_option)))
    (yes_or_no_in true (given tentative_option))

-- the options that a command takes
abbrev pub options_taken : Asked → List (List ℕ)
options_taken (block meaning input) = job_options
options_taken (run meaning input) = job_options ++ run_options
options_taken (replay meaning input) = job_options ++ (run_options ++ turn_options)
options_taken (chain meanings input) = job_options ++ run_options

-- those that it doesn't take
abbrev pub options_untaken : Asked → List (List ℕ)
options_untaken command = filter (λ name. not (is_known (options_taken command) name)) option_names

abbrev pub is_unset : List (List ℕ) → Bool
is_unset values = length values == 0

-- no option is given that the command doesn't take
abbrev pub takes_all : Asked → Given → Bool
takes_all command given = list_all (λ name. is_unset (given name)) (options_untaken command)

-- the options that must be given are given: a replay has its turn list
abbrev pub has_all : Asked → Option (List ℕ) → Bool
has_all (block meaning input) turns = true
has_all (run meaning input) turns = true
has_all (replay meaning input) turns = is_some turns
has_all (chain meanings input) turns = true

-- ---- all of it

-- the command with its settings and its files, where the options name files, and those that must be given are given
abbrev pub options_with : Asked → RunSettings → Option (Option (List ℕ)) → Option (Option (List ℕ)) → Option AskedOptions
options_with command settings (Some script) (Some turns) =
    if has_all command turns then Some (record { command = command; settings = settings; script = script; turns = turns; trace = None }) else None
options_with command settings (Some script) None = None
options_with command settings None turns = None

-- what the options give a command that takes them
abbrev pub options_asked : Given → Asked → Option AskedOptions
options_asked given command =
    if takes_all command given then option_and_then (λ settings. options_with command settings (name_in (given script_option)) (name_in (given turns_option))) (settings_asked given)
    else None

-- the command of the plain words
abbrev pub command_asked : Given → List (List ℕ) → Option Asked
command_asked given plain = with_number given k_option (λ k. asked_plainly k plain)

-- what the values of the options and the plain words ask for
abbrev pub asked_from : Given → List (List ℕ) → Option AskedOptions
asked_from given plain = option_and_then (options_asked given) (command_asked given plain)

abbrev pub asked_by : Scanned → Option AskedOptions
asked_by s = asked_from (λ name. values_given name s) s.plain

-- what the words ask for
abbrev pub asked : List (List ℕ) → Option AskedOptions
asked words = option_and_then asked_by (scan option_names None words)

-- ---- options as the program holds them

abbrev pub settings_of : Settings → RunSettings
settings_of s = record {
  reducers = s.reducers;
  split = s.split;
  spill = s.spill;
  workers = s.workers;
  attempts = s.attempts;
  lane = s.lane;
  mergers = s.mergers;
  threads = s.threads;
  backup = s.backup;
  tentative = s.tentative;
  marks = s.marks;
}

abbrev pub command_of : Command → Asked
command_of (Block job input) = block (known_meaning job) input
command_of (Run job input) = run (known_meaning job) input
command_of (Replay job input) = replay (known_meaning job) input
command_of (Chain jobs input) = chain (map known_meaning jobs) input

-- the options say this
abbrev pub options_of : Options → AskedOptions
options_of o = record {
  command = command_of o.command;
  settings = settings_of o.settings;
  script = o.script;
  turns = o.turns;
  trace = o.trace;
}

-- a chain of two to four jobs, whose input is the name of a file
pub record IsChain (jobs : List Known) (input : List ℕ) : Type 0 where
  pub some : 2 ≤ length jobs
  pub few : length jobs ≤ 4
  pub input_named : is_name input ≡ true

-- the names in a command are names of files, and a chain has two to four jobs
abbrev pub HasNames : Command → Type 0
HasNames (Block job input) = is_name input ≡ true
HasNames (Run job input) = is_name input ≡ true
HasNames (Replay job input) = is_name input ≡ true
HasNames (Chain jobs input) = IsChain jobs input

-- the option names a file, where it is given
abbrev pub NamesFile : Option (List ℕ) → Type 0
NamesFile given = IfSome given (λ name. is_name name ≡ true)

-- all names are names of files, a chain has two to four jobs, and the options that must be given are given
pub record HasFiles (o : Options) : Type 0 where
  pub command : HasNames o.command
  pub script : NamesFile o.script
  pub turns : NamesFile o.turns
  pub all : has_all (command_of o.command) o.turns ≡ true
