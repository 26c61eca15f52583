-- A run gives up a split only by a mapper's turn that says so, from a place where all are at home, over any ends.
use Rattle.std.proofs.Common.{◌≡◌, ◌≢◌, ℕ, ◌+◌, Bool, true, false, List, [], ◌∷◌, length, map, refl, sym, ap, ◌∙◌, subst, inl, inr, cond, nat_lt, Option, Some, None, slice_set, slice_index_or}
use Rattle.hop_machine.specs.declared.words.Who.{Who}
use Rattle.hop_machine.specs.declared.words.Who.TheVariants as whose
use Rattle.hop_machine.specs.declared.words.Turn.{Turn}
use Rattle.hop_machine.specs.declared.words.Turn.TheVariants.{Worked, Idle, Ended, Spent, Stopped}
use Rattle.hop_machine.specs.step.Steps.{Prog, Done, Deeds, Runs}
use Rattle.hop_machine.specs.step.Setup.{splits_of}
use Rattle.hop_machine.specs.actors.ReducerTurns.{Reducer, send_due, reducer_turn, finish, writer_turn}
use Rattle.hop_machine.specs.play.Play.{Actors, Order, TurnOf, CatchUp, Place, Opening, Listed, CatchingUp, Passing, Mapping, Draining, Emptying, Pulling, Writing, Over, NoneLeft, Halted, Sizes, World, Learns, Went, when, turn_of, turn_to, at_reducer, same_reducer, unless_halted, unless_spent, once_idle, after_pull, has_ended, is_late, is_ended, all_true, order_due, due_at, catch_up, kept_rows, pull_split}
use Rattle.hop_machine.specs.run.AllHome.{Ready, IsAtPlace}
use Rattle.hop_machine.proofs.step.Programs.{Runs-parted, Runs-gives}
use Rattle.hop_machine.proofs.play.Plays.{went_learns, went_keeps}
use Rattle.hop_machine.proofs.run.Turns.{DidReducer, by_reducer-run}
use Rattle.hop_machine.proofs.run.Coming.{done-came, turn_to-came, at_reducer-came, when-came}
use Rattle.hop_machine.proofs.run.Places.{IsAt, place_told, next_at_home, went_at_home}
use Rattle.hop_ending.proofs.Giving.{NotSpent, idle, reducer_never, writer_never}

-- # Places at which no split was given up

abbrev pub NotLeft : Place → Type 0
NotLeft place = (i : ℕ) → place ≢ NoneLeft i

same_split : (i j : ℕ) → NoneLeft i ≡ NoneLeft j → i ≡ j
same_split i j e = cc

-- a split is given up only where the turn answered that it is spent
turn_says : (t : Turn) (go : Place) (i : ℕ) → NotLeft go → unless_spent t go ≡ NoneLeft i → t ≡ Spent i
turn_says (Spent j) go i n e = ap Spent (same_split j i e)
turn_says Worked go i n e = absurd (n i e)
turn_says Idle go i n e = absurd (n i e)
turn_says Ended go i n e = absurd (n i e)
turn_says Stopped go i n e = cc

halted_isnt : (ok : Bool) (go : Place) → NotLeft go → NotLeft (unless_halted go ok)
halted_isnt true go n = n
halted_isnt false go n = λ i e. cc

idle_isnt : (t : Turn) (go again : Place) → NotLeft go → NotLeft again → NotLeft (once_idle t go again)
idle_isnt Idle go again n m = n
idle_isnt Worked go again n m = m
idle_isnt Ended go again n m = m
idle_isnt (Spent i) go again n m = m
idle_isnt Stopped go again n m = λ i e. cc

pull_isnt : (p i : ℕ) (o : Option Bool) → NotLeft (after_pull p i o)
pull_isnt p i None = λ j e. cc
pull_isnt p i (Some true) = λ j e. cc
pull_isnt p i (Some false) = λ j e. cc

pass_isnt : (t : Bool) (ended : List Bool) → NotLeft (cond t (Emptying 0) (Mapping 0 ended))
pass_isnt true ended = λ i e. cc
pass_isnt false ended = λ i e. cc

-- # The step that is due

module _ (D : Actors → Deeds → ℕ → Type 0) where
  -- where a split was given up, this holds
  abbrev pub Leaves : Place × Actors → Deeds → Type 0
  Leaves z b = (i : ℕ) → z.0 ≡ NoneLeft i → D z.1 b i

  none_left : (place : Place) (y : Actors) (b : Deeds) → NotLeft place → Leaves (place, y) b
  none_left place y b n i e = absurd (n i e)

  -- what a mapper's turn leads to which says that a split is spent
  abbrev pub MapperLeaves : Bool → Actors → Deeds → Deeds → Type 0
  MapperLeaves e x a b = Ready x a → (w : ℕ) (y : Actors × Turn) (i : ℕ) → y.1 ≡ Spent i → Runs e (turn_of (whose.Mapper w) x) a y b → D y.0 b i

  module _ (e : Bool) (x : Actors) (a b : Deeds) (z : Place × Actors) (mapper : MapperLeaves e x a b) where
    reducer_says : (p : ℕ) (y : Actors × Turn) (i : ℕ) → y.1 ≡ Spent i → DidReducer e p reducer_turn Idle x a y b → D y.0 b i
    reducer_says p y i s (inl d) = absurd (idle i (sym (ap (λ (k : Actors × Turn). k.1) d.0) ∙ s))
    reducer_says p y i s (inr d) =
        absurd (Runs-gives (λ (k : Reducer × Turn). NotSpent k.1) e (reducer_turn d.0) a b d.2 (reducer_never d.0) d.3 i (sym (ap (λ (k : Actors × Turn). k.1) d.4) ∙ s))

    turn_leaves : Ready x a → (who : Who) (y : Actors × Turn) (i : ℕ) → y.1 ≡ Spent i → Runs e (turn_of who x) a y b → D y.0 b i
    turn_leaves h (whose.Mapper w) y i s run = mapper h w y i s run
    turn_leaves h (whose.Reducer p) y i s run = reducer_says p y i s (by_reducer-run e Idle x a b y p reducer_turn run)
    turn_leaves h (whose.Merger j) y i s run = absurd (idle i (sym (ap (λ (k : Actors × Turn). k.1) run.0) ∙ s))
    turn_leaves h whose.Writer y i s run =
        let t = Runs-parted e (writer_turn x.writer) (λ y. Done (record x { writer = y.0 }, y.1)) a b y run in
        absurd (Runs-gives (λ k. NotSpent k.1) e (writer_turn x.writer) a t.mid t.answer (writer_never x.writer) t.first i (sym (ap (λ (k : Actors × Turn). k.1) t.later.0) ∙ s))

    abbrev Goes : Prog (Place × Actors) → Type 0
    Goes k = Runs e k a z b → Leaves z b

    goes_to : (place : Place) (y : Actors) → NotLeft place → Goes (Done (place, y))
    goes_to place y n = done-came Leaves e x a b z place y (none_left place y a n)

    takes_turn : Ready x a → (who : Who) (go : Place) → NotLeft go → Goes (turn_to who (λ t. unless_spent t go) x)
    takes_turn h who go n = turn_to-came Leaves e x a b z who (λ t. unless_spent t go) (λ y run i q. turn_leaves h who y i (turn_says y.1 go i n q) run)

    until_idle : (who : Who) (go again : Place) → NotLeft go → NotLeft again → Goes (turn_to who (λ t. once_idle t go again) x)
    until_idle who go again n m = turn_to-came Leaves e x a b z who (λ t. once_idle t go again) (λ y run. none_left (once_idle y.1 go again) y.0 b (idle_isnt y.1 go again n m))

    reducer_does : {B : Type 0} (p : ℕ) (f : Reducer → Prog (Reducer × B)) (none : B) (place : B → Place) → ((o : B) → NotLeft (place o)) → Goes (at_reducer p f none place x)
    reducer_does p f none place n = at_reducer-came Leaves e x a b z p f none place (λ y d. none_left (place y.1) y.0 b (n y.1))

    either : (t : Bool) (k l : Prog (Place × Actors)) → Goes k → Goes l → Goes (when t k l)
    either t k l f g = when-came Leaves e x a b z t k l (λ q. f) (λ q. g)

    abbrev sizes : Sizes
    sizes = record { splits = splits_of a.setup; limit = a.setup.attempts }

    abbrev WhenDue : Option (Prog (Place × Actors)) → Type 0
    WhenDue None = Unit {0}
    WhenDue (Some k) = Goes k

    order_leaves : Ready x a → (o : Order) (later : List Order) → Goes (order_due o later x)
    order_leaves h (TurnOf who) later = takes_turn h who (Listed later) (λ i q. cc)
    order_leaves h CatchUp later = goes_to (CatchingUp 0 later) x (λ i q. cc)

    due_leaves : (place : Place) → IsAtPlace place x a → WhenDue (due_at sizes place x)
    due_leaves (Opening p list) h = either (nat_lt p (length x.reducers)) (at_reducer p (same_reducer send_due) true (unless_halted (Opening (p + 1) list)) x) (Done (Listed list, x))
        (reducer_does p (same_reducer send_due) true (unless_halted (Opening (p + 1) list)) (λ ok. halted_isnt ok (Opening (p + 1) list) (λ i q. cc)))
        (goes_to (Listed list) x (λ i q. cc))
    due_leaves (Listed (o ∷ later)) h = order_leaves h o later
    due_leaves (Listed []) h = goes_to (Passing (map has_ended x.mappers)) (record x { reducers = map is_late x.reducers }) (λ i q. cc)
    due_leaves (CatchingUp p later) h = either (nat_lt p (length x.reducers)) (at_reducer p (catch_up (kept_rows x.mappers a.setup.attempts 0 (splits_of a.setup))) true (unless_halted (CatchingUp (p + 1) later)) x) (Done (Listed later, x))
        (reducer_does p (catch_up (kept_rows x.mappers a.setup.attempts 0 (splits_of a.setup))) true (unless_halted (CatchingUp (p + 1) later)) (λ ok. halted_isnt ok (CatchingUp (p + 1) later) (λ i q. cc)))
        (goes_to (Listed later) x (λ i q. cc))
    due_leaves (Passing ended) h = goes_to (cond (all_true ended) (Emptying 0) (Mapping 0 ended)) x (pass_isnt (all_true ended) ended)
    due_leaves (Mapping w ended) h = either (nat_lt w (length x.mappers))
        (when (slice_index_or ended w false) (Done (Mapping (w + 1) ended, x)) (turn_to (whose.Mapper w) (λ t. unless_spent t (Mapping (w + 1) (slice_set ended w (is_ended t)))) x)) (Done (Draining 0 ended, x))
        (either (slice_index_or ended w false) (Done (Mapping (w + 1) ended, x)) (turn_to (whose.Mapper w) (λ t. unless_spent t (Mapping (w + 1) (slice_set ended w (is_ended t)))) x)
        (goes_to (Mapping (w + 1) ended) x (λ i q. cc))
        (turn_to-came Leaves e x a b z (whose.Mapper w) (λ t. unless_spent t (Mapping (w + 1) (slice_set ended w (is_ended t)))) (λ y run i q.
        turn_leaves h.ready (whose.Mapper w) y i (turn_says y.1 (Mapping (w + 1) (slice_set ended w (is_ended y.1))) i (λ j k. cc) q) run)))
        (goes_to (Draining 0 ended) x (λ i q. cc))
    due_leaves (Draining p ended) h = either (nat_lt p (length x.reducers)) (turn_to (whose.Reducer p) (λ t. once_idle t (Draining (p + 1) ended) (Draining p ended)) x) (Done (Passing ended, x))
        (until_idle (whose.Reducer p) (Draining (p + 1) ended) (Draining p ended) (λ i q. cc) (λ i q. cc))
        (goes_to (Passing ended) x (λ i q. cc))
    due_leaves (Emptying p) h = either (nat_lt p (length x.reducers)) (turn_to (whose.Reducer p) (λ t. once_idle t (Emptying (p + 1)) (Emptying p)) x) (Done (Pulling 0 0, x))
        (until_idle (whose.Reducer p) (Emptying (p + 1)) (Emptying p) (λ i q. cc) (λ i q. cc))
        (goes_to (Pulling 0 0) x (λ i q. cc))
    due_leaves (Pulling p i) h = either (nat_lt p (length x.reducers))
        (when (nat_lt i (splits_of a.setup)) (at_reducer p (pull_split i) (Some false) (after_pull p i) x) (at_reducer p (same_reducer finish) true (unless_halted (Pulling (p + 1) 0)) x)) (Done (Writing, x))
        (either (nat_lt i (splits_of a.setup)) (at_reducer p (pull_split i) (Some false) (after_pull p i) x) (at_reducer p (same_reducer finish) true (unless_halted (Pulling (p + 1) 0)) x)
        (reducer_does p (pull_split i) (Some false) (after_pull p i) (pull_isnt p i))
        (reducer_does p (same_reducer finish) true (unless_halted (Pulling (p + 1) 0)) (λ ok. halted_isnt ok (Pulling (p + 1) 0) (λ j q. cc))))
        (goes_to Writing x (λ j q. cc))
    due_leaves Writing h = until_idle whose.Writer Over Writing (λ i q. cc) (λ i q. cc)
    due_leaves Over h = tt
    due_leaves (NoneLeft i) h = tt
    due_leaves Halted h = tt

    program_leaves : (place : Place) → IsAtPlace place x a → (k : Prog (Place × Actors)) → due_at sizes place x ≡ Some k → Goes k
    program_leaves place h k is = subst WhenDue is (due_leaves place h)

  -- # Along a run

  -- all are at home at the place, and this holds where a split was given up there
  abbrev IsLeft : Place × World → Type 0
  IsLeft c = IsAt c × Leaves (c.0, c.1.actors) c.1.deeds

  stays_left : (e : Bool) → ((x : Actors) (a b : Deeds) (i : ℕ) → Learns e a b → D x a i → D x b i) → ((x : Actors) (a b : Deeds) → MapperLeaves e x a b) → (a b : Place × World) → Went e a b → IsLeft a → IsLeft b
  stays_left e told mapper a b w h = went_keeps e IsLeft
      (λ x y p s l g. (
        went_at_home e x y (went_learns e x y p s l) g.0,
        λ i q. subst (λ (k : Actors). D k y.1.deeds i) (sym s) (told x.1.actors x.1.deeds y.1.deeds i l (g.1 i (sym p ∙ q))),
      ))
      (λ x y n g. (
        next_at_home e x y n g.0,
        program_leaves e x.1.actors n.told y.1.deeds (y.0, y.1.actors) (mapper x.1.actors n.told y.1.deeds) x.0 (place_told e x.0 x.1.actors x.1.deeds n.told n.learns g.0) n.program n.is_due n.runs,
      )) a b w h

  pub went_leaves : (e : Bool) → ((x : Actors) (a b : Deeds) (i : ℕ) → Learns e a b → D x a i → D x b i) → ((x : Actors) (a b : Deeds) → MapperLeaves e x a b)
      → (from : Place) (i : ℕ) (a b : World) → NotLeft from → IsAtPlace from a.actors a.deeds → Went e (from, a) (NoneLeft i, b) → D b.actors b.deeds i
  went_leaves e told mapper from i a b n h w = (stays_left e told mapper (from, a) (NoneLeft i, b) w (h, none_left from a.actors a.deeds n)).1 i refl
