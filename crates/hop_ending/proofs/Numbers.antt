-- The mappers of a run keep their numbers, each at its place.
use Rattle.std.proofs.Common.{◌≡◌, ℕ, zero, suc, ◌+◌, Bool, true, false, List, [], ◌∷◌, length, map, refl, sym, ap, ◌∙◌, subst, nat_lt, Option, Some, None, slice_set, slice_index_or}
use Rattle.std.specs.List.{slice_get}
use Rattle.std.proofs.lemmas.Option.{same_Some}
use Rattle.hop_machine.specs.declared.words.Who.{Who}
use Rattle.hop_machine.specs.declared.words.Who.TheVariants as whose
use Rattle.hop_machine.specs.declared.words.Turn.{Turn}
use Rattle.hop_machine.specs.declared.words.Turn.TheVariants.{Idle}
use Rattle.hop_machine.specs.step.Steps.{Prog, Done}
use Rattle.hop_machine.specs.step.Setup.{splits_of}
use Rattle.hop_machine.specs.step.Programs.{Gives}
use Rattle.hop_machine.specs.actors.MapperTurns.{Mapper, mapper_turn}
use Rattle.hop_machine.specs.actors.ReducerTurns.{Reducer, send_due, reducer_turn, finish, writer_turn}
use Rattle.hop_machine.specs.play.Actors.{at_place}
use Rattle.hop_machine.specs.play.Play.{Actors, Order, TurnOf, CatchUp, Place, Opening, Listed, CatchingUp, Passing, Mapping, Draining, Emptying, Pulling, Writing, Over, NoneLeft, Halted, Sizes, World, Next, Went, when, turn_of, by_reducer, turn_to, at_reducer, same_reducer, unless_halted, unless_spent, once_idle, after_pull, is_ended, order_due, due_at, catch_up, kept_rows, pull_split}
use Rattle.hop_machine.specs.run.AllHome.{IsStart}
use Rattle.hop_machine.proofs.step.Programs.{Runs-gives, Gives-and_then}
use Rattle.hop_machine.proofs.play.Plays.{went_keeps}
use Rattle.hop_ending.proofs.Giving.{any}
use Rattle.hop_ending.proofs.MapperNumbers.{HasNumber, turn_number}

-- the numbers of the mappers, by place
abbrev pub numbers : List Mapper → List ℕ
numbers ms = map (λ (m : Mapper). m.number) ms

-- a mapper is replaced by one of its number
set_numbers : (ms : List Mapper) (w : ℕ) (m y : Mapper) → slice_get ms w ≡ Some m → y.number ≡ m.number → numbers (slice_set ms w y) ≡ numbers ms
set_numbers [] w m y g e = refl
set_numbers (z ∷ ms) zero m y g e = ap (λ n. n ∷ numbers ms) (e ∙ ap (λ (k : Mapper). k.number) (sym (same_Some z m g)))
set_numbers (z ∷ ms) (suc w) m y g e = ap (λ ns. z.number ∷ ns) (set_numbers ms w m y g e)

module _ (x : Actors) where
  -- the mappers of these actors have the numbers of those of x
  abbrev SameNumbers : {B : Type 0} → Actors × B → Type 0
  SameNumbers y = numbers y.0.mappers ≡ numbers x.mappers

  -- # A turn

  mapper_numbers : (w : ℕ) (found : Option Mapper) → slice_get x.mappers w ≡ found → Gives (λ (y : List Mapper × Turn). numbers y.0 ≡ numbers x.mappers) (at_place found x.mappers w mapper_turn Idle)
  mapper_numbers w None g = refl
  mapper_numbers w (Some m) g =
      Gives-and_then (HasNumber m.number) (λ (y : List Mapper × Turn). numbers y.0 ≡ numbers x.mappers) (mapper_turn m) (λ y. Done (slice_set x.mappers w y.0, y.1)) (turn_number m) (λ y h. set_numbers x.mappers w m y.0 g h)

  reducer_numbers : {B : Type 0} (p : ℕ) (f : Reducer → Prog (Reducer × B)) (none : B) → Gives (SameNumbers {B = B}) (by_reducer p f none x)
  reducer_numbers {B} p f none =
      let k = at_place (slice_get x.reducers p) x.reducers p f none in
      Gives-and_then (λ y. Unit {0}) (SameNumbers {B = B}) k (λ y. Done (record x { reducers = y.0 }, y.1)) (any k) (λ y u. refl)

  turn_numbers : (who : Who) → Gives (SameNumbers {B = Turn}) (turn_of who x)
  turn_numbers (whose.Mapper w) =
      Gives-and_then (λ (y : List Mapper × Turn). numbers y.0 ≡ numbers x.mappers) (SameNumbers {B = Turn}) (at_place (slice_get x.mappers w) x.mappers w mapper_turn Idle) (λ y. Done (record x { mappers = y.0 }, y.1))
      (mapper_numbers w (slice_get x.mappers w) refl) (λ y h. h)
  turn_numbers (whose.Reducer p) = reducer_numbers p reducer_turn Idle
  turn_numbers (whose.Merger j) = refl
  turn_numbers whose.Writer = Gives-and_then (λ y. Unit {0}) (SameNumbers {B = Turn}) (writer_turn x.writer) (λ y. Done (record x { writer = y.0 }, y.1)) (any (writer_turn x.writer)) (λ y u. refl)

  -- # The step that is due

  abbrev KeepsNumbers : Prog (Place × Actors) → Type 0
  KeepsNumbers k = Gives (λ (z : Place × Actors). numbers z.1.mappers ≡ numbers x.mappers) k

  either : (t : Bool) (k l : Prog (Place × Actors)) → KeepsNumbers k → KeepsNumbers l → KeepsNumbers (when t k l)
  either true k l f g = f
  either false k l f g = g

  takes : (who : Who) (place : Turn → Place) → KeepsNumbers (turn_to who place x)
  takes who place = Gives-and_then (SameNumbers {B = Turn}) (λ (z : Place × Actors). numbers z.1.mappers ≡ numbers x.mappers) (turn_of who x) (λ y. Done (place y.1, y.0)) (turn_numbers who) (λ y h. h)

  does : {B : Type 0} (p : ℕ) (f : Reducer → Prog (Reducer × B)) (none : B) (place : B → Place) → KeepsNumbers (at_reducer p f none place x)
  does {B} p f none place = Gives-and_then (SameNumbers {B = B}) (λ (z : Place × Actors). numbers z.1.mappers ≡ numbers x.mappers) (by_reducer p f none x) (λ y. Done (place y.1, y.0)) (reducer_numbers p f none) (λ y h. h)

  abbrev WhenDue : Option (Prog (Place × Actors)) → Type 0
  WhenDue None = Unit {0}
  WhenDue (Some k) = KeepsNumbers k

  order_numbers : (o : Order) (later : List Order) → KeepsNumbers (order_due o later x)
  order_numbers (TurnOf who) later = takes who (λ t. unless_spent t (Listed later))
  order_numbers CatchUp later = refl

  due_numbers : (s : Sizes) (place : Place) → WhenDue (due_at s place x)
  due_numbers s (Opening p list) = either (nat_lt p (length x.reducers)) _ _ (does p (same_reducer send_due) true (unless_halted (Opening (p + 1) list))) refl
  due_numbers s (Listed (o ∷ later)) = order_numbers o later
  due_numbers s (Listed []) = refl
  due_numbers s (CatchingUp p later) = either (nat_lt p (length x.reducers)) _ _ (does p (catch_up (kept_rows x.mappers s.limit 0 s.splits)) true (unless_halted (CatchingUp (p + 1) later))) refl
  due_numbers s (Passing ended) = refl
  due_numbers s (Mapping w ended) =
      either (nat_lt w (length x.mappers)) _ _ (either (slice_index_or ended w false) _ _ refl (takes (whose.Mapper w) (λ t. unless_spent t (Mapping (w + 1) (slice_set ended w (is_ended t)))))) refl
  due_numbers s (Draining p ended) = either (nat_lt p (length x.reducers)) _ _ (takes (whose.Reducer p) (λ t. once_idle t (Draining (p + 1) ended) (Draining p ended))) refl
  due_numbers s (Emptying p) = either (nat_lt p (length x.reducers)) _ _ (takes (whose.Reducer p) (λ t. once_idle t (Emptying (p + 1)) (Emptying p))) refl
  due_numbers s (Pulling p i) =
      either (nat_lt p (length x.reducers)) _ _
      (either (nat_lt i s.splits) _ _ (does p (pull_split i) (Some false) (after_pull p i)) (does p (same_reducer finish) true (unless_halted (Pulling (p + 1) 0)))) refl
  due_numbers s Writing = takes whose.Writer (λ t. once_idle t Over Writing)
  due_numbers s Over = tt
  due_numbers s (NoneLeft i) = tt
  due_numbers s Halted = tt

next_numbers : (e : Bool) (a b : Place × World) → Next e a b → numbers b.1.actors.mappers ≡ numbers a.1.actors.mappers
next_numbers e a b n =
    let sizes : Sizes = record { splits = splits_of n.told.setup; limit = n.told.setup.attempts } in
    Runs-gives (λ (z : Place × Actors). numbers z.1.mappers ≡ numbers a.1.actors.mappers) e n.program n.told b.1.deeds (b.0, b.1.actors) (subst (WhenDue a.1.actors) n.is_due (due_numbers a.1.actors sizes a.0)) n.runs

-- # Along a run

pub went_numbers : (e : Bool) (from at : Place) (a b : World) → Went e (from, a) (at, b) → numbers b.actors.mappers ≡ numbers a.actors.mappers
went_numbers e from at a b w = went_keeps e (λ z. numbers z.1.actors.mappers ≡ numbers a.actors.mappers)
    (λ x y p s l h. ap (λ (k : Actors). numbers k.mappers) s ∙ h) (λ x y n h. next_numbers e x y n ∙ h) (from, a) (at, b) w refl

-- the number at a place
number_at : (ms ns : List Mapper) (w : ℕ) (m : Mapper) → numbers ns ≡ numbers ms → slice_get ns w ≡ Some m → (k : Mapper) × (slice_get ms w ≡ Some k) × (m.number ≡ k.number)
number_at [] [] w m e g = cc
number_at [] (n ∷ ns) w m e g = cc
number_at (k ∷ ms) [] w m e g = cc
number_at (k ∷ ms) (n ∷ ns) zero m e g = (k, refl, ap (λ (z : Mapper). z.number) (sym (same_Some n m g)) ∙ cc)
number_at (k ∷ ms) (n ∷ ns) (suc w) m e g = number_at ms ns w m (cc) g

-- from a start on, the mapper at a place has that number
pub start_numbers : (e backup : Bool) (from at : Place) (a b : World) → IsStart backup a.actors a.deeds → Went e (from, a) (at, b) → (w : ℕ) (m : Mapper) → slice_get b.actors.mappers w ≡ Some m → m.number ≡ w
start_numbers e backup from at a b start went w m g =
    let t = number_at a.actors.mappers b.actors.mappers w m (went_numbers e from at a b went) g in
    t.2 ∙ ap (λ (k : Mapper). k.number) (start.mapper w t.0 t.1)
