-- Where a run is, and the one step that is due there.
use Rattle.std.specs.Prelude.{ℕ, ◌+◌, ◌∷◌, [], List, Bool, true, false, if◌then◌else◌, ◌&&◌, nat_lt, Option, Some, None, length, map, slice_set, slice_index_or}
use Rattle.hop_machine.specs.declared.words.Who.{Who}
use Rattle.hop_machine.specs.declared.words.Who.TheVariants as whose
use Rattle.hop_machine.specs.declared.words.Turn.{Turn}
use Rattle.hop_machine.specs.declared.words.Turn.TheVariants as turns
use Rattle.hop_machine.specs.step.Steps.{Prog, Done, and_then}
use Rattle.hop_machine.specs.actors.MapperTurns.{is_ended}
use Rattle.hop_machine.specs.actors.MapperTurns.{Mapper}
use Rattle.hop_machine.specs.actors.ReducerTurns.{Reducer, send_due, finish}
use Rattle.hop_machine.specs.play.Actors.{Actors, by_reducer, turn_of}
use Rattle.hop_machine.specs.play.Pulls.{kept_rows, catch_up, pull_split}

-- what a line of a turn list asks for
pub data Order : Type 0 where
  TurnOf : Who → Order
  CatchUp : Order

-- where a run is
pub data Place : Type 0 where
  Opening : ℕ → List Order → Place  -- reducer p sends the cuts that are due on its empty history
  Listed : List Order → Place  -- what is left of the turn list
  CatchingUp : ℕ → List Order → Place  -- reducer p is caught up
  Passing : List Bool → Place  -- settling: the mappers that haven't ended have a turn each
  Mapping : ℕ → List Bool → Place  -- mapper w's turn in such a pass
  Draining : ℕ → List Bool → Place  -- after the pass, reducer p has turns until it is idle
  Emptying : ℕ → Place  -- after the last pass, the same once more
  Pulling : ℕ → ℕ → Place  -- reducer p is given what it lacks of split i
  Writing : Place  -- the writer has turns until it is idle
  Over : Place
  NoneLeft : ℕ → Place  -- the last attempt of the split was spent
  Halted : Place  -- memory was wanting, or a folder failed

-- which mappers have ended
abbrev pub all_true : List Bool → Bool
all_true [] = true
all_true (b ∷ bs) = b && all_true bs

-- after a turn: the next place, unless an attempt was the last of its split
abbrev pub unless_spent : Turn → Place → Place
unless_spent (turns.Spent i) go = NoneLeft i
unless_spent turns.Stopped go = Halted
unless_spent turns.Worked go = go
unless_spent turns.Idle go = go
unless_spent turns.Ended go = go

-- turns until one is idle
abbrev pub once_idle : Turn → Place → Place → Place
once_idle turns.Idle go again = go
once_idle turns.Worked go again = again
once_idle turns.Ended go again = again
once_idle (turns.Spent i) go again = again
once_idle turns.Stopped go again = Halted

-- # The one step that is due

-- what the place of a run is measured by: its splits and the limit of attempts
pub record Sizes : Type 0 where
  pub splits : ℕ
  pub limit : ℕ

-- a choice of programs
abbrev pub when : {A : Type 0} → Bool → Prog A → Prog A → Prog A
when t x y = if t then x else y

-- a turn, and where the run goes after it
abbrev pub turn_to : Who → (Turn → Place) → Actors → Prog (Place × Actors)
turn_to who place x = and_then (turn_of who x) (λ y. Done (place y.1, y.0))

-- what is done at a reducer, and where the run goes after it
abbrev pub at_reducer : {B : Type 0} → ℕ → (Reducer → Prog (Reducer × B)) → B → (B → Place) → Actors → Prog (Place × Actors)
at_reducer p f none place x = and_then (by_reducer p f none x) (λ y. Done (place y.1, y.0))

-- the same reducer, and whether memory was there
abbrev pub same_reducer : (Reducer → Prog Bool) → Reducer → Prog (Reducer × Bool)
same_reducer f r = and_then (f r) (λ ok. Done (r, ok))

-- the next place, unless memory was wanting
abbrev pub unless_halted : Place → Bool → Place
unless_halted go ok = if ok then go else Halted

-- after a pull for a reducer: a restart begins its splits again
abbrev pub after_pull : ℕ → ℕ → Option Bool → Place
after_pull p i None = Halted
after_pull p i (Some true) = Pulling p 0
after_pull p i (Some false) = Pulling p (i + 1)

-- whether the mapper has ended
abbrev pub has_ended : Mapper → Bool
has_ended m = m.ended

-- from now on the reducer waits for its lock, and ranges come late
abbrev pub is_late : Reducer → Reducer
is_late r = record r { late = true }

-- what a line of the turn list makes due
abbrev pub order_due : Order → List Order → Actors → Prog (Place × Actors)
order_due (TurnOf who) later x = turn_to who (λ t. unless_spent t (Listed later)) x
order_due CatchUp later x = Done (CatchingUp 0 later, x)

-- the one step that is due at a place, or none
abbrev pub due_at : Sizes → Place → Actors → Option (Prog (Place × Actors))
due_at s (Opening p list) x =
    Some (when (nat_lt p (length x.reducers)) (at_reducer p (same_reducer send_due) true (unless_halted (Opening (p + 1) list)) x) (Done (Listed list, x)))
due_at s (Listed (o ∷ later)) x = Some (order_due o later x)
due_at s (Listed []) x = Some (Done (Passing (map has_ended x.mappers), record x { reducers = map is_late x.reducers }))
due_at s (CatchingUp p later) x =
    Some (when (nat_lt p (length x.reducers)) (at_reducer p (catch_up (kept_rows x.mappers s.limit 0 s.splits)) true (unless_halted (CatchingUp (p + 1) later)) x) (Done (Listed later, x)))
due_at s (Passing ended) x = Some (Done (if all_true ended then Emptying 0 else Mapping 0 ended, x))
due_at s (Mapping w ended) x =
    Some (when (nat_lt w (length x.mappers))
    (when (slice_index_or ended w false) (Done (Mapping (w + 1) ended, x)) (turn_to (whose.Mapper w) (λ t. unless_spent t (Mapping (w + 1) (slice_set ended w (is_ended t)))) x))
    (Done (Draining 0 ended, x)))
due_at s (Draining p ended) x =
    Some (when (nat_lt p (length x.reducers)) (turn_to (whose.Reducer p) (λ t. once_idle t (Draining (p + 1) ended) (Draining p ended)) x) (Done (Passing ended, x)))
due_at s (Emptying p) x =
    Some (when (nat_lt p (length x.reducers)) (turn_to (whose.Reducer p) (λ t. once_idle t (Emptying (p + 1)) (Emptying p)) x) (Done (Pulling 0 0, x)))
due_at s (Pulling p i) x =
    Some (when (nat_lt p (length x.reducers))
    (when (nat_lt i s.splits)
    (at_reducer p (pull_split i) (Some false) (after_pull p i) x)
    (at_reducer p (same_reducer finish) true (unless_halted (Pulling (p + 1) 0)) x))
    (Done (Writing, x)))
due_at s Writing x = Some (turn_to whose.Writer (λ t. once_idle t Over Writing) x)
due_at s Over x = None
due_at s (NoneLeft i) x = None
due_at s Halted x = None
