-- Catching up, row by row.
use Rattle.std.specs.Prelude.{◌≡◌, ℕ, Bool, true, false, List, [], ◌∷◌, Option, Some, None}
use Rattle.hop_machine.specs.step.Steps.{Prog, Done, and_then, Deeds}
use Rattle.hop_machine.specs.actors.MapperTurns.{Mapper}
use Rattle.hop_machine.specs.actors.ReducerTurns.{Reducer}
use Rattle.hop_machine.specs.home.Conditions.{HasReducer}
use Rattle.hop_machine.specs.play.Play.{Row, kept_by, pull_row}
use Rattle.hop_machine.specs.run.Catches.{ReducerNow, AreHome, Lagging}

-- the row of the attempt: where its kept spills end
abbrev pub row_of : List Mapper → ℕ → ℕ → Row
row_of ms i a = record { split = i; attempt = a; end = kept_by ms i a }

-- behind a row the next ones are pulled, unless it stopped or a restart came
abbrev pub on_row : Option Bool → Reducer → Prog (Reducer × Option Bool) → Prog (Reducer × Option Bool)
on_row None r k = Done (r, None)
on_row (Some true) r k = Done (r, Some true)
on_row (Some false) r k = k

-- each of the rows is pulled: whether a restart came, or None where a pull stopped
abbrev pub pull_each : List Row → Reducer → Prog (Reducer × Option Bool)
pull_each [] r = Done (r, Some false)
pull_each (k ∷ ks) r = and_then (pull_row k r) (λ x. on_row x.1 x.0 (pull_each ks x.0))

-- a reducer of this number lags, is at home, and its ends are here
pub record MayCatch (ms : List Mapper) (p : ℕ) (r : Reducer) (d : Deeds) : Type 0 where
  pub number : r.number ≡ p
  pub lags : Lagging ms r d
  pub ends : HasReducer p d

-- a reducer of this number is at home, as the mappers are, and its ends are here
pub record MayCatchUp (ms : List Mapper) (p : ℕ) (r : Reducer) (d : Deeds) : Type 0 where
  pub number : r.number ≡ p
  pub now : ReducerNow r d
  pub mappers : AreHome ms d
  pub ends : HasReducer p d
