-- What a reducer lacks is pulled: while it is caught up, and while the run is settled.
use Rattle.std.specs.Prelude.{ℕ, zero, suc, ◌+◌, ◌∷◌, ◌++◌, [], List, Bool, true, false, if◌then◌else◌, nat_lt, max, Option, Some, None, slice_index}
use Rattle.hop_base.specs.declared.part.Part.{Part}
use Rattle.hop_machine.specs.step.Steps.{Prog, Done, Then, Risk, and_then}
use Rattle.hop_machine.specs.actors.MapperTurns.{Mapper}
use Rattle.hop_machine.specs.actors.ReducerTurns.{Reducer, reads_upto, reads_winner, reads_wants, take_pull, send_due, restart_if_due}

-- a row of kept spills: the attempt, and where they end
pub record Row : Type 0 where
  pub split : ℕ
  pub attempt : ℕ
  pub end : ℕ

-- the end of the spills that some map worker kept of the attempt
abbrev pub kept_by : List Mapper → ℕ → ℕ → ℕ
kept_by [] i a = 0
kept_by (m ∷ ms) i a = max (m.kept i a) (kept_by ms i a)

-- a row more where something was kept
abbrev pub with_row : ℕ → Row → List Row → List Row
with_row zero row rows = rows
with_row (suc k) row rows = row ∷ rows

-- of the attempts from a on, so many
abbrev pub rows_of_split : List Mapper → ℕ → ℕ → ℕ → List Row
rows_of_split ms i a zero = []
rows_of_split ms i a (suc n) = with_row (kept_by ms i a) (record { split = i; attempt = a; end = kept_by ms i a }) (rows_of_split ms i (a + 1) n)

-- of the splits from i on, so many, by split and then attempt
abbrev pub kept_rows : List Mapper → ℕ → ℕ → ℕ → List Row
kept_rows ms limit i zero = []
kept_rows ms limit i (suc n) = rows_of_split ms i 0 limit ++ kept_rows ms limit (i + 1) n

-- the program goes on where memory was there, and else it stops
abbrev pub if_ok : Bool → Reducer → Prog (Reducer × Option Bool) → Prog (Reducer × Option Bool)
if_ok ok r k = if ok then k else Done (r, None)

-- A range is fetched and recorded, the cuts that are due are sent, and a restart that is due is recorded:
-- whether there was one, or None where the pull stopped.
abbrev pub pull : Part → Reducer → Prog (Reducer × Option Bool)
pull part r = Then Risk (λ fetched. if_ok fetched r (and_then (take_pull r part) (λ taken. if_ok taken r (and_then (send_due r) (λ sent. if_ok sent r (restart_if_due r))))))

-- what the reducer lacks of the attempt up to this end, if it lacks any
abbrev pub pull_to : ℕ → ℕ → ℕ → ℕ → Reducer → Prog (Reducer × Option Bool)
pull_to i a end from r = if nat_lt from end then pull (record { split = i; attempt = a; from = from; to = end }) r else Done (r, Some false)

-- a row of kept spills, if the reducer wants that attempt
abbrev pub pull_row : Row → Reducer → Prog (Reducer × Option Bool)
pull_row k r = and_then (reads_wants r k.split k.attempt) (λ wanted.
    if wanted then and_then (reads_upto r k.split k.attempt) (λ from. pull_to k.split k.attempt k.end from r) else Done (r, Some false))

-- it lags no more
abbrev pub is_caught_up : Reducer → Reducer
is_caught_up r = record r { lagging = false }

-- it goes on unless a restart came, which leaves the reducer for the next catching up; false where it stopped
abbrev pub unless_restarted : Option Bool → Reducer → Prog (Reducer × Bool) → Prog (Reducer × Bool)
unless_restarted None r k = Done (r, false)
unless_restarted (Some true) r k = Done (r, true)
unless_restarted (Some false) r k = k

-- each of the rows is pulled, and then it is caught up
abbrev pub pull_rows : List Row → Reducer → Prog (Reducer × Bool)
pull_rows [] r = Done (is_caught_up r, true)
pull_rows (k ∷ ks) r = and_then (pull_row k r) (λ x. unless_restarted x.1 x.0 (pull_rows ks x.0))

-- a reducer that restarted since it was last caught up is caught up with these rows
abbrev pub catch_up : List Row → Reducer → Prog (Reducer × Bool)
catch_up rows r = if r.lagging then and_then (restart_if_due r) (λ x. unless_restarted x.1 x.0 (pull_rows rows x.0)) else Done (r, true)

-- what is lacking of a split's winner
abbrev pub pull_winner : ℕ → Option ℕ → Reducer → Prog (Reducer × Option Bool)
pull_winner i None r = Done (r, Some false)
pull_winner i (Some a) r = and_then (reads_upto r i a) (λ from. pull_to i a (slice_index r.setup.lens i) from r)

-- what the reducer lacks of the split's winner is pulled
abbrev pub pull_split : ℕ → Reducer → Prog (Reducer × Option Bool)
pull_split i r = and_then (reads_winner r i) (λ o. pull_winner i o r)
