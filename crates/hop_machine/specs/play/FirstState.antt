-- The first state of a play, and the play itself.
use Rattle.std.specs.Prelude.{◌≡◌, ℕ, Bool, List, [], None, map, nat_lt, if◌then◌else◌}
use Rattle.std.specs.List.{range_with_len}
use Rattle.hop_machine.specs.step.Steps.{Setup, CutSaid, Shared, Value, rules_of}
use Rattle.hop_machine.specs.actors.ReducerTurns.{cut_after, marks_due}
use Rattle.hop_machine.specs.home.Starts.{new_mapper, new_reducer, new_writer}
use Rattle.hop_machine.specs.board.Board.{no_words}
use Rattle.hop_machine.specs.step.Steps.{shown}
use Rattle.hop_machine.specs.play.Play.{Order, Place, Listed, Actors, Machine, World, next, Follows}

-- the actors of a run as they are made
abbrev pub new_actors : Setup → Bool → Actors
new_actors s backup = record {
  mappers = map (λ w. new_mapper w (rules_of s) backup s.reducers) (range_with_len 0 s.workers);
  reducers = map (λ p. new_reducer p s) (range_with_len 0 s.reducers);
  writer = new_writer s;
}

-- the cuts that are due on the empty history
abbrev pub first_cuts : Setup → List CutSaid
first_cuts s = map (cut_after s []) (marks_due s [])

-- this for the reducers of the run, and that for other numbers
abbrev pub for_reducers : {A : Type 0} → Setup → A → A → ℕ → A
for_reducers s x other p = if nat_lt p s.reducers then x else other

-- an empty history with no cut due
abbrev pub nothing_under_lock : Value
nothing_under_lock = record { events = []; due = [] }

-- before anything was done: the cuts that the empty histories make due are still to be sent
abbrev pub new_shared : Setup → Shared
new_shared s = record {
  setup = s;
  lanes = λ w p. [];
  cuts = λ p. [];
  words = no_words;
  histories = for_reducers s (record { events = []; due = marks_due s [] }) nothing_under_lock;
}

-- the same with these cuts sent
abbrev pub first_shared : Setup → Shared
first_shared s = record {
  setup = s;
  lanes = λ w p. [];
  cuts = for_reducers s (first_cuts s) [];
  words = no_words;
  histories = λ p. nothing_under_lock;
}

-- The first state of a play: new actors, nothing in the lanes and on the board, and empty histories whose cuts are sent.
abbrev pub first_state : Setup → Bool → Machine
first_state s backup = record { actors = new_actors s backup; shared = first_shared s }

-- The play of a turn list ends here. Its first state stands at the list, and each further one comes from the one before by the one step that is due.
pub record Plays (s : Setup) (backup : Bool) (list : List Order) (end : Place × Machine) : Type 0 where
  pub states : List (Place × Machine)
  pub follow : Follows (Listed list, first_state s backup) states end
  pub over : next end.0 end.1 ≡ None

-- a world of one thread as it is made
pub record IsNew (backup : Bool) (a : World) : Type 0 where
  pub actors : a.actors ≡ new_actors a.deeds.setup backup
  pub shows : shown a.deeds ≡ new_shared a.deeds.setup
