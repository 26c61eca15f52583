-- Along a run the writer alone changes itself, and only its idle turn at the last place ends the run.
use Rattle.std.proofs.Common.{◌≡◌, ◌⊎◌, ℕ, ◌+◌, Bool, true, false, List, [], ◌∷◌, length, refl, sym, ◌∙◌, subst, inl, inr, ⊎_elim, cond, nat_lt, Option, Some, None, slice_set, slice_index_or}
use Rattle.std.specs.List.{slice_get}
use Rattle.hop_machine.specs.declared.words.Who.{Who}
use Rattle.hop_machine.specs.declared.words.Who.TheVariants as whose
use Rattle.hop_machine.specs.declared.words.Turn.{Turn}
use Rattle.hop_machine.specs.declared.words.Turn.TheVariants.{Worked, Idle, Ended, Spent, Stopped}
use Rattle.hop_machine.specs.step.Steps.{Prog, Done, Then}
use Rattle.hop_machine.specs.step.Setup.{splits_of}
use Rattle.hop_machine.specs.step.Programs.{Gives}
use Rattle.hop_machine.specs.actors.MapperTurns.{mapper_turn}
use Rattle.hop_machine.specs.actors.ReducerTurns.{Reducer, Writer, send_due, reducer_turn, finish, writer_turn}
use Rattle.hop_machine.specs.play.Actors.{at_place}
use Rattle.hop_machine.specs.play.Play.{Actors, Order, TurnOf, CatchUp, Place, Opening, Listed, CatchingUp, Passing, Mapping, Draining, Emptying, Pulling, Writing, Over, NoneLeft, Halted, Sizes, World, Next, when, turn_of, by_reducer, turn_to, at_reducer, same_reducer, unless_halted, unless_spent, once_idle, after_pull, all_true, is_ended, order_due, due_at, catch_up, kept_rows, pull_split}
use Rattle.hop_machine.proofs.step.Programs.{Runs-gives, Gives-and_then}
use Rattle.hop_ending.proofs.Giving.{any}

-- what holds of the writer, unless memory was wanting or a folder failed
abbrev pub UnlessHalted : (Writer → Type 0) → Place → Writer → Type 0
UnlessHalted G place x = (place ≡ Halted) ⊎ G x

-- what each turn of the writer keeps, unless it stops
abbrev pub TurnsKeep : (Writer → Type 0) → Type 0
TurnsKeep G = (x : Writer) → G x → Gives (λ (y : Writer × Turn). (y.1 ≡ Stopped) ⊎ G y.0) (writer_turn x)

-- # Places that aren't the end

-- the place isn't the end
abbrev pub NotOver : Place → Type 0
NotOver place = place ≡ Over → ⊥

spent_isnt : (t : Turn) (go : Place) → NotOver go → NotOver (unless_spent t go)
spent_isnt (Spent i) go n e = cc
spent_isnt Worked go n e = n e
spent_isnt Idle go n e = n e
spent_isnt Ended go n e = n e
spent_isnt Stopped go n e = cc

idle_isnt : (t : Turn) (go again : Place) → NotOver go → NotOver again → NotOver (once_idle t go again)
idle_isnt Idle go again n m = n
idle_isnt Worked go again n m = m
idle_isnt Ended go again n m = m
idle_isnt (Spent i) go again n m = m
idle_isnt Stopped go again n m = λ e. cc

halted_isnt : (ok : Bool) (go : Place) → NotOver go → NotOver (unless_halted go ok)
halted_isnt true go n = n
halted_isnt false go n = λ e. cc

pull_isnt : (p i : ℕ) (o : Option Bool) → NotOver (after_pull p i o)
pull_isnt p i None = λ e. cc
pull_isnt p i (Some true) = λ e. cc
pull_isnt p i (Some false) = λ e. cc

pass_isnt : (t : Bool) (ended : List Bool) → NotOver (cond t (Emptying 0) (Mapping 0 ended))
pass_isnt true ended = λ e. cc
pass_isnt false ended = λ e. cc

-- # The step that is due

-- what one step from a place comes to
pub record CameTo (G : Writer → Type 0) (from : Place) (z : Place × Actors) : Type 0 where
  pub writer : UnlessHalted G z.0 z.1.writer
  pub over : z.0 ≡ Over → from ≡ Writing

-- each way through the program that is due, if one is, comes to that
abbrev WhenDue : (Writer → Type 0) → Place → Option (Prog (Place × Actors)) → Type 0
WhenDue G from None = Unit {0}
WhenDue G from (Some k) = Gives (CameTo G from) k

module _ (G : Writer → Type 0) (keeps : TurnsKeep G) (x : Actors) (good : G x.writer) where
  -- the writer is as before
  abbrev SameWriter : {B : Type 0} → Actors × B → Type 0
  SameWriter y = y.0.writer ≡ x.writer

  reducer_writer : {B : Type 0} (p : ℕ) (f : Reducer → Prog (Reducer × B)) (none : B) → Gives (SameWriter {B = B}) (by_reducer p f none x)
  reducer_writer {B} p f none =
      let k = at_place (slice_get x.reducers p) x.reducers p f none in
      Gives-and_then (λ y. Unit {0}) (SameWriter {B = B}) k (λ y. Done (record x { reducers = y.0 }, y.1)) (any k) (λ y u. refl)

  turn_writer : (who : Who) → Gives (λ (y : Actors × Turn). (y.1 ≡ Stopped) ⊎ G y.0.writer) (turn_of who x)
  turn_writer (whose.Mapper w) =
      let k = at_place (slice_get x.mappers w) x.mappers w mapper_turn Idle in
      Gives-and_then (λ y. Unit {0}) (λ (y : Actors × Turn). (y.1 ≡ Stopped) ⊎ G y.0.writer) k (λ y. Done (record x { mappers = y.0 }, y.1)) (any k) (λ y u. inr good)
  turn_writer (whose.Reducer p) =
      let k = at_place (slice_get x.reducers p) x.reducers p reducer_turn Idle in
      Gives-and_then (λ y. Unit {0}) (λ (y : Actors × Turn). (y.1 ≡ Stopped) ⊎ G y.0.writer) k (λ y. Done (record x { reducers = y.0 }, y.1)) (any k) (λ y u. inr good)
  turn_writer (whose.Merger j) = inr good
  turn_writer whose.Writer = Gives-and_then (λ (y : Writer × Turn). (y.1 ≡ Stopped) ⊎ G y.0) (λ (y : Actors × Turn). (y.1 ≡ Stopped) ⊎ G y.0.writer) (writer_turn x.writer) (λ y. Done (record x { writer = y.0 }, y.1)) (keeps x.writer good) (λ y h. h)

  -- and of a program
  abbrev Comes : Place → Prog (Place × Actors) → Type 0
  Comes from k = Gives (CameTo G from) k

  at_once : (from place : Place) → NotOver place → (y : Actors) → y.writer ≡ x.writer → Comes from (Done (place, y))
  at_once from place n y e = record { writer = inr (subst G (sym e) good); over = λ o. absurd (n o) }

  either : (from : Place) (t : Bool) (k l : Prog (Place × Actors)) → Comes from k → Comes from l → Comes from (when t k l)
  either from true k l f g = f
  either from false k l f g = g

  takes : (from : Place) (who : Who) (place : Turn → Place) → place Stopped ≡ Halted → ((t : Turn) → place t ≡ Over → from ≡ Writing) → Comes from (turn_to who place x)
  takes from who place s n = Gives-and_then (λ (y : Actors × Turn). (y.1 ≡ Stopped) ⊎ G y.0.writer) (CameTo G from) (turn_of who x) (λ y. Done (place y.1, y.0)) (turn_writer who)
      (λ y h. record { writer = ⊎_elim (λ (k : y.1 ≡ Stopped). inl ((λ i. place (k i)) ∙ s)) (λ (k : G y.0.writer). inr k) h; over = n y.1 })

  does : {B : Type 0} (from : Place) (p : ℕ) (f : Reducer → Prog (Reducer × B)) (none : B) (place : B → Place) → ((o : B) → NotOver (place o)) → Comes from (at_reducer p f none place x)
  does {B} from p f none place n = Gives-and_then (SameWriter {B = B}) (CameTo G from) (by_reducer p f none x) (λ y. Done (place y.1, y.0)) (reducer_writer p f none)
      (λ y h. at_once from (place y.1) (n y.1) y.0 h)

  order_comes : (from : Place) (o : Order) (later : List Order) → Comes from (order_due o later x)
  order_comes from (TurnOf who) later = takes from who (λ t. unless_spent t (Listed later)) refl (λ t o. absurd (spent_isnt t (Listed later) (λ e. cc) o))
  order_comes from CatchUp later = at_once from (CatchingUp 0 later) (λ e. cc) x refl

  until_idle : (from : Place) (who : Who) (go again : Place) → NotOver go → NotOver again → Comes from (turn_to who (λ t. once_idle t go again) x)
  until_idle from who go again n m = takes from who (λ t. once_idle t go again) refl (λ t o. absurd (idle_isnt t go again n m o))

  pub due_comes : (s : Sizes) (place : Place) → WhenDue G place (due_at s place x)
  due_comes s (Opening p list) = either (Opening p list) (nat_lt p (length x.reducers)) _ _
      (does (Opening p list) p (same_reducer send_due) true (unless_halted (Opening (p + 1) list)) (λ ok. halted_isnt ok (Opening (p + 1) list) (λ e. cc)))
      (at_once (Opening p list) (Listed list) (λ e. cc) x refl)
  due_comes s (Listed (o ∷ later)) = order_comes (Listed (o ∷ later)) o later
  due_comes s (Listed []) = record { writer = inr good; over = λ o. cc }
  due_comes s (CatchingUp p later) = either (CatchingUp p later) (nat_lt p (length x.reducers)) _ _
      (does (CatchingUp p later) p (catch_up (kept_rows x.mappers s.limit 0 s.splits)) true (unless_halted (CatchingUp (p + 1) later)) (λ ok. halted_isnt ok (CatchingUp (p + 1) later) (λ e. cc)))
      (at_once (CatchingUp p later) (Listed later) (λ e. cc) x refl)
  due_comes s (Passing ended) = at_once (Passing ended) (cond (all_true ended) (Emptying 0) (Mapping 0 ended)) (pass_isnt (all_true ended) ended) x refl
  due_comes s (Mapping w ended) = either (Mapping w ended) (nat_lt w (length x.mappers)) _ _
      (either (Mapping w ended) (slice_index_or ended w false) _ _
      (at_once (Mapping w ended) (Mapping (w + 1) ended) (λ e. cc) x refl)
      (takes (Mapping w ended) (whose.Mapper w) (λ t. unless_spent t (Mapping (w + 1) (slice_set ended w (is_ended t)))) refl (λ t o. absurd (spent_isnt t (Mapping (w + 1) (slice_set ended w (is_ended t))) (λ e. cc) o))))
      (at_once (Mapping w ended) (Draining 0 ended) (λ e. cc) x refl)
  due_comes s (Draining p ended) = either (Draining p ended) (nat_lt p (length x.reducers)) _ _
      (until_idle (Draining p ended) (whose.Reducer p) (Draining (p + 1) ended) (Draining p ended) (λ e. cc) (λ e. cc))
      (at_once (Draining p ended) (Passing ended) (λ e. cc) x refl)
  due_comes s (Emptying p) = either (Emptying p) (nat_lt p (length x.reducers)) _ _
      (until_idle (Emptying p) (whose.Reducer p) (Emptying (p + 1)) (Emptying p) (λ e. cc) (λ e. cc))
      (at_once (Emptying p) (Pulling 0 0) (λ e. cc) x refl)
  due_comes s (Pulling p i) = either (Pulling p i) (nat_lt p (length x.reducers)) _ _
      (either (Pulling p i) (nat_lt i s.splits) _ _
      (does (Pulling p i) p (pull_split i) (Some false) (after_pull p i) (pull_isnt p i))
      (does (Pulling p i) p (same_reducer finish) true (unless_halted (Pulling (p + 1) 0)) (λ ok. halted_isnt ok (Pulling (p + 1) 0) (λ e. cc))))
      (at_once (Pulling p i) Writing (λ e. cc) x refl)
  due_comes s Writing = takes Writing whose.Writer (λ t. once_idle t Over Writing) refl (λ t o. refl)
  due_comes s Over = tt
  due_comes s (NoneLeft i) = tt
  due_comes s Halted = tt

-- # Along a run

pub next_came : (G : Writer → Type 0) → TurnsKeep G → (e : Bool) (a b : Place × World) → Next e a b → G a.1.actors.writer → CameTo G a.0 (b.0, b.1.actors)
next_came G keeps e a b n good =
    let sizes : Sizes = record { splits = splits_of n.told.setup; limit = n.told.setup.attempts } in
    Runs-gives (CameTo G a.0) e n.program n.told b.1.deeds (b.0, b.1.actors) (subst (WhenDue G a.0) n.is_due (due_comes G keeps a.1.actors good sizes a.0)) n.runs

none_halted : (e : Bool) (a b : Place × World) → Next e a b → a.0 ≡ Halted → ⊥
none_halted e a b n h =
    let sizes : Sizes = record { splits = splits_of n.told.setup; limit = n.told.setup.attempts } in
    let due : None ≡ Some n.program = (λ i. due_at sizes (sym h i) a.1.actors) ∙ n.is_due in cc

-- the writer keeps what its turns keep
pub next_writer : (G : Writer → Type 0) → TurnsKeep G → (e : Bool) (a b : Place × World) → Next e a b → UnlessHalted G a.0 a.1.actors.writer → UnlessHalted G b.0 b.1.actors.writer
next_writer G keeps e a b n h = ⊎_elim (λ (k : a.0 ≡ Halted). absurd (none_halted e a b n k)) (λ (g : G a.1.actors.writer). (next_came G keeps e a b n g).writer) h

nothing_kept : TurnsKeep (λ x. Unit {0})
nothing_kept x u = gives_right (writer_turn x)
  where
    gives_right : (k : Prog (Writer × Turn)) → Gives (λ (y : Writer × Turn). (y.1 ≡ Stopped) ⊎ Unit {0}) k
    gives_right (Done y) = inr tt
    gives_right (Then s k) = λ o. gives_right (k o)

-- the end is reached by an idle turn of the writer
pub next_over : (e : Bool) (a b : Place × World) → Next e a b → b.0 ≡ Over → a.0 ≡ Writing
next_over e a b n = (next_came (λ x. Unit {0}) nothing_kept e a b n tt).over
