-- All actors of a run, and one turn of each kind.
use Rattle.std.specs.Prelude.{ℕ, List, Option, Some, None, slice_set}
use Rattle.std.specs.List.{slice_get}
use Rattle.hop_machine.specs.declared.words.Who.{Who}
use Rattle.hop_machine.specs.declared.words.Who.TheVariants as whose
use Rattle.hop_machine.specs.declared.words.Turn.{Turn}
use Rattle.hop_machine.specs.declared.words.Turn.TheVariants as turns
use Rattle.hop_machine.specs.step.Steps.{Prog, Done, and_then}
use Rattle.hop_machine.specs.actors.MapperTurns.{Mapper, mapper_turn}
use Rattle.hop_machine.specs.actors.ReducerTurns.{Reducer, Writer, reducer_turn, writer_turn}

-- all actors of a run
pub record Actors : Type 0 where
  pub mappers : List Mapper
  pub reducers : List Reducer
  pub writer : Writer

-- the actor at this place of its list does this, where there is one
abbrev pub at_place : {A B : Type 0} → Option A → List A → ℕ → (A → Prog (A × B)) → B → Prog (List A × B)
at_place None xs at f none = Done (xs, none)
at_place (Some x) xs at f none = and_then (f x) (λ y. Done (slice_set xs at y.0, y.1))

-- mapper w does this
abbrev pub by_mapper : {B : Type 0} → ℕ → (Mapper → Prog (Mapper × B)) → B → Actors → Prog (Actors × B)
by_mapper w f none x = and_then (at_place (slice_get x.mappers w) x.mappers w f none) (λ y. Done (record x { mappers = y.0 }, y.1))

-- reducer p does this
abbrev pub by_reducer : {B : Type 0} → ℕ → (Reducer → Prog (Reducer × B)) → B → Actors → Prog (Actors × B)
by_reducer p f none x = and_then (at_place (slice_get x.reducers p) x.reducers p f none) (λ y. Done (record x { reducers = y.0 }, y.1))

-- one turn of an actor, with its answer; a merger's turn changes nothing
abbrev pub turn_of : Who → Actors → Prog (Actors × Turn)
turn_of (whose.Mapper w) x = by_mapper w mapper_turn turns.Idle x
turn_of (whose.Reducer p) x = by_reducer p reducer_turn turns.Idle x
turn_of (whose.Merger j) x = Done (x, turns.Idle)
turn_of whose.Writer x = and_then (writer_turn x.writer) (λ y. Done (record x { writer = y.0 }, y.1))
