-- What the name of a run says of its script and its settings.
use Rattle.std.specs.Prelude.{ℕ, Bool, false, ◌==◌, ◌&&◌, List, [], map, filter, find, Option, unwrap_or}
use Rattle.std.specs.Option.{option_map}

-- a line `fail SPLIT ATTEMPT AT`
pub record FailLine : Type 0 where
  pub split : ℕ
  pub attempt : ℕ
  pub at : ℕ

-- a line `restart PARTITION ARRIVALS`
pub record RestartLine : Type 0 where
  pub partition : ℕ
  pub arrivals : ℕ

-- a line `delay WORKER TURNS`
pub record DelayLine : Type 0 where
  pub worker : ℕ
  pub turns : ℕ

-- the lines of a fault script by their kinds, each kind in some order
pub record ScriptLines : Type 0 where
  pub fails : List FailLine
  pub restarts : List RestartLine
  pub delays : List DelayLine

-- where the line of an attempt lets it fail, if there is one
abbrev pub fails_at : ScriptLines → ℕ → ℕ → Option ℕ
fails_at script split attempt =
    option_map (λ (line : FailLine). line.at) (find (λ (line : FailLine). (line.split == split) && (line.attempt == attempt)) script.fails)

-- after which of its arrivals a reducer restarts, in the order of the lines
abbrev pub restarts_of : ScriptLines → ℕ → List ℕ
restarts_of script partition =
    map (λ (line : RestartLine). line.arrivals) (filter (λ (line : RestartLine). line.partition == partition) script.restarts)

-- how many of its first turns a worker idles
abbrev pub delay_of : ScriptLines → ℕ → ℕ
delay_of script worker =
    unwrap_or (option_map (λ (line : DelayLine). line.turns) (find (λ (line : DelayLine). line.worker == worker) script.delays)) 0

-- the settings of a run
pub record RunSettings : Type 0 where
  pub reducers : ℕ
  pub split : ℕ
  pub spill : ℕ
  pub workers : ℕ
  pub attempts : ℕ
  pub lane : ℕ
  pub mergers : ℕ
  pub threads : ℕ
  pub backup : Bool
  pub tentative : Bool
  pub marks : List ℕ

-- the script without lines
abbrev pub no_lines : ScriptLines
no_lines = record { fails = []; restarts = []; delays = [] }

-- the least numbers
abbrev pub least_settings : RunSettings
least_settings = record {
  reducers = 1;
  split = 1;
  spill = 1;
  workers = 1;
  attempts = 1;
  lane = 1;
  mergers = 0;
  threads = 1;
  backup = false;
  tentative = false;
  marks = [];
}
