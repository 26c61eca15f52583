-- Along a run over exact ends, what reducers record and send is of the splits, and the writer writes cuts of marks that were reached.
use Rattle.std.proofs.Common.{◌≡◌, ℕ, zero, suc, ◌+◌, ◌≤◌, ◌<◌, Bool, true, false, List, [], ◌∷◌, length, map, refl, sym, ap, ◌∙◌, subst, nat_lt, Option, Some, None, slice_set, slice_index, slice_index_or, arith}
use Rattle.std.specs.List.{slice_get}
use Rattle.std.proofs.lemmas.List.Elements.{All-nil}
use Rattle.hop_event.specs.Legal.{Rules}
use Rattle.hop_machine.specs.declared.words.Who.{Who}
use Rattle.hop_machine.specs.declared.words.Who.TheVariants as whose
use Rattle.hop_machine.specs.declared.words.Turn.{Turn}
use Rattle.hop_machine.specs.declared.words.Turn.TheVariants.{Idle}
use Rattle.hop_machine.specs.step.Steps.{Prog, Done, Deeds, Setup}
use Rattle.hop_machine.specs.step.Setup.{splits_of}
use Rattle.hop_machine.specs.actors.MapperTurns.{Mapper, mapper_turn}
use Rattle.hop_machine.specs.actors.ReducerTurns.{Reducer, Writer, Writing, send_due, reducer_turn, finish, writer_turn}
use Rattle.hop_machine.specs.play.Actors.{at_place}
use Rattle.hop_machine.specs.play.Play.{Actors, Order, TurnOf, CatchUp, Place, Opening, Listed, CatchingUp, Passing, Mapping, Draining, Emptying, Pulling, Writing as Writes, Over, NoneLeft, Halted, Sizes, World, Next, Went, when, turn_of, by_reducer, turn_to, at_reducer, same_reducer, unless_halted, unless_spent, once_idle, after_pull, is_late, is_ended, order_due, due_at, catch_up, kept_rows, kept_by, pull_split}
use Rattle.hop_machine.specs.run.AllHome.{IsStart, AllHome, IsAtPlace, MapperIsHome}
use Rattle.hop_machine.proofs.mapper.AtHome.{at_home_says}
use Rattle.hop_machine.proofs.ending.KeptEnds.{kept_end-within}
use Rattle.hop_machine.proofs.ending.CatchingUp.{is-kept}
use Rattle.hop_machine.proofs.settling.Passes.{there}
use Rattle.hop_machine.proofs.play.Plays.{went_learns, went_keeps}
use Rattle.hop_machine.proofs.run.AllMoving.{set_each, some_is}
use Rattle.hop_machine.proofs.run.Places.{IsAt, place_told, next_at_home, went_at_home}
use Rattle.hop_machine.proofs.run.Starting.{start_at_home}
use Rattle.hop_ending.specs.Reached.{IsReached, WroteReached}
use Rattle.hop_ending.proofs.FineHistories.{AllFine}
use Rattle.hop_ending.proofs.Reaching.{AreWithin}
use Rattle.hop_ending.proofs.Fitting.{AreFine, Fits, fits_then, runs_fit}
use Rattle.hop_ending.proofs.FittingTurns.{OfRun, StaysOf, HasReached, reducer_fits, mapper_fits, writer_fits}
use Rattle.hop_ending.proofs.FittingPulls.{due_fits, finish_fits, same_fits, split_fits, catch_fits, rows_fine}

-- actors of the run, and what its writer wrote
pub record GoodActors (s : Setup) (x : Actors) : Type 0 where
  pub reducers : (p : ℕ) (r : Reducer) → slice_get x.reducers p ≡ Some r → OfRun s r
  pub writer : HasReached s x.writer

-- # The step that is due

module _ (s : Setup) (x : Actors) (good : GoodActors s x) where
  abbrev Good : {B : Type 0} → Actors × B → Type 0
  Good y = GoodActors s y.0

  abbrev Goes : Prog (Place × Actors) → Type 0
  Goes k = Fits s (λ (z : Place × Actors). GoodActors s z.1) k

  abbrev GoodList : {B : Type 0} → List Reducer × B → Type 0
  GoodList y = (p : ℕ) (r : Reducer) → slice_get y.0 p ≡ Some r → OfRun s r

  placed : {B : Type 0} (p : ℕ) (f : Reducer → Prog (Reducer × B)) (none : B) → ((r : Reducer) → OfRun s r → Fits s (StaysOf s) (f r)) → (o : Option Reducer) → slice_get x.reducers p ≡ o → Fits s GoodList (at_place o x.reducers p f none)
  placed p f none g None e = good.reducers
  placed p f none g (Some r) e = fits_then s (StaysOf s) GoodList (f r) (λ y. Done (slice_set x.reducers p y.0, y.1)) (g r (good.reducers p r e))
      (λ y h. set_each (λ q k. OfRun s k) x.reducers p r y.0 e h (λ q k n. good.reducers q k))

  by_reducer_fits : {B : Type 0} (p : ℕ) (f : Reducer → Prog (Reducer × B)) (none : B) → ((r : Reducer) → OfRun s r → Fits s (StaysOf s) (f r)) → Fits s Good (by_reducer p f none x)
  by_reducer_fits p f none g = fits_then s GoodList Good (at_place (slice_get x.reducers p) x.reducers p f none) (λ y. Done (record x { reducers = y.0 }, y.1)) (placed p f none g (slice_get x.reducers p) refl)
      (λ y h. record { reducers = h; writer = good.writer })

  mapper_placed : (w : ℕ) (o : Option Mapper) → Fits s (λ y. Unit {0}) (at_place o x.mappers w mapper_turn Idle)
  mapper_placed w None = tt
  mapper_placed w (Some m) = fits_then s (λ y. Unit {0}) (λ y. Unit {0}) (mapper_turn m) (λ y. Done (slice_set x.mappers w y.0, y.1)) (mapper_fits s m) (λ y u. tt)

  turn_fits : (who : Who) → Fits s Good (turn_of who x)
  turn_fits (whose.Mapper w) = fits_then s (λ y. Unit {0}) Good (at_place (slice_get x.mappers w) x.mappers w mapper_turn Idle) (λ y. Done (record x { mappers = y.0 }, y.1)) (mapper_placed w (slice_get x.mappers w))
      (λ y u. record { reducers = good.reducers; writer = good.writer })
  turn_fits (whose.Reducer p) = by_reducer_fits p reducer_turn Idle (reducer_fits s)
  turn_fits (whose.Merger j) = good
  turn_fits whose.Writer = fits_then s (λ (y : Writer × Turn). HasReached s y.0) Good (writer_turn x.writer) (λ y. Done (record x { writer = y.0 }, y.1)) (writer_fits s x.writer good.writer)
      (λ y h. record { reducers = good.reducers; writer = h })

  takes : (who : Who) (place : Turn → Place) → Goes (turn_to who place x)
  takes who place = fits_then s Good (λ (z : Place × Actors). GoodActors s z.1) (turn_of who x) (λ y. Done (place y.1, y.0)) (turn_fits who) (λ y h. h)

  does : {B : Type 0} (p : ℕ) (f : Reducer → Prog (Reducer × B)) (none : B) (place : B → Place) → ((r : Reducer) → OfRun s r → Fits s (StaysOf s) (f r)) → Goes (at_reducer p f none place x)
  does p f none place g = fits_then s Good (λ (z : Place × Actors). GoodActors s z.1) (by_reducer p f none x) (λ y. Done (place y.1, y.0)) (by_reducer_fits p f none g) (λ y h. h)

  either : (t : Bool) (k l : Prog (Place × Actors)) → Goes k → Goes l → Goes (when t k l)
  either true k l f g = f
  either false k l f g = g

  late_fine : (rs : List Reducer) → ((p : ℕ) (r : Reducer) → slice_get rs p ≡ Some r → OfRun s r) → (p : ℕ) (r : Reducer) → slice_get (map is_late rs) p ≡ Some r → OfRun s r
  late_fine [] h p r e = cc
  late_fine (q ∷ rs) h zero r e = let o : OfRun s (is_late q) = h zero q refl in subst (OfRun s) (some_is (is_late q) r e) o
  late_fine (q ∷ rs) h (suc p) r e = late_fine rs (λ n. h (suc n)) p r e

  order_fits : (o : Order) (later : List Order) → Goes (order_due o later x)
  order_fits (TurnOf who) later = takes who (λ t. unless_spent t (Listed later))
  order_fits CatchUp later = good

  -- what mappers kept is of the splits, where a reducer is caught up
  abbrev pub KeptAt : Place → Type 0
  KeptAt place = (p : ℕ) (list : List Order) → place ≡ CatchingUp p list → (i a : ℕ) → kept_by x.mappers i a ≤ slice_index s.lens i

  abbrev pub sizes : Sizes
  sizes = record { splits = splits_of s; limit = s.attempts }

  abbrev pub WhenDue : Option (Prog (Place × Actors)) → Type 0
  WhenDue None = Unit {0}
  WhenDue (Some k) = Goes k

  pub place_fits : (place : Place) → KeptAt place → WhenDue (due_at sizes place x)
  place_fits (Opening p list) h = either (nat_lt p (length x.reducers)) _ _ (does p (same_reducer send_due) true (unless_halted (Opening (p + 1) list)) (λ r is. same_fits s r is send_due (due_fits s r is))) good
  place_fits (Listed (o ∷ later)) h = order_fits o later
  place_fits (Listed []) h = record { reducers = late_fine x.reducers good.reducers; writer = good.writer }
  place_fits (CatchingUp p later) h = either (nat_lt p (length x.reducers)) _ _
      (does p (catch_up (kept_rows x.mappers s.attempts 0 (splits_of s))) true (unless_halted (CatchingUp (p + 1) later)) (catch_fits s (kept_rows x.mappers s.attempts 0 (splits_of s)) (rows_fine s x.mappers (h p later refl) 0 (splits_of s)))) good
  place_fits (Passing ended) h = good
  place_fits (Mapping w ended) h = either (nat_lt w (length x.mappers)) _ _
      (either (slice_index_or ended w false) _ _ good (takes (whose.Mapper w) (λ t. unless_spent t (Mapping (w + 1) (slice_set ended w (is_ended t)))))) good
  place_fits (Draining p ended) h = either (nat_lt p (length x.reducers)) _ _ (takes (whose.Reducer p) (λ t. once_idle t (Draining (p + 1) ended) (Draining p ended))) good
  place_fits (Emptying p) h = either (nat_lt p (length x.reducers)) _ _ (takes (whose.Reducer p) (λ t. once_idle t (Emptying (p + 1)) (Emptying p))) good
  place_fits (Pulling p i) h = either (nat_lt p (length x.reducers)) _ _
      (either (nat_lt i (splits_of s)) _ _ (does p (pull_split i) (Some false) (after_pull p i) (λ r is. split_fits s r is i))
      (does p (same_reducer finish) true (unless_halted (Pulling (p + 1) 0)) (λ r is. same_fits s r is finish (finish_fits s r is)))) good
  place_fits Writes h = takes whose.Writer (λ t. once_idle t Over Writes)
  place_fits Over h = tt
  place_fits (NoneLeft i) h = tt
  place_fits Halted h = tt

-- # What mappers at home kept

mapper_kept : (w : ℕ) (m : Mapper) (d : Deeds) → MapperIsHome w m d → (i a : ℕ) → m.kept i a ≤ slice_index d.setup.lens i
mapper_kept w m d h i a = which (m.kept i a) refl
  where
    says : Rattle.hop_machine.specs.home.Said.SaidOfMapper m d
    says = at_home_says m d h.home

    which : (n : ℕ) → m.kept i a ≡ n → m.kept i a ≤ slice_index d.setup.lens i
    which zero e = omega (arith, e)
    which (suc n) e =
        let k = (is-kept m d says i a (says.vault i a (omega (arith, e)))).within in
        let l = kept_end-within m.rules i a in
        let same : slice_index m.rules.lens i ≡ slice_index d.setup.lens i = ap (λ (r : Rules). slice_index r.lens i) h.home.fits.rules in
        omega (arith, k, l, same)

all_kept : (ms : List Mapper) (i a n : ℕ) → ((w : ℕ) (m : Mapper) → slice_get ms w ≡ Some m → m.kept i a ≤ n) → kept_by ms i a ≤ n
all_kept [] i a n h = omega arith
all_kept (m ∷ ms) i a n h = let k = h zero m refl in let l = all_kept ms i a n (λ w. h (suc w)) in omega (arith, k, l)

home_kept : (s : Setup) (place : Place) (x : Actors) (d : Deeds) → d.setup ≡ s → IsAtPlace place x d → (good : GoodActors s x) → KeptAt s x good place
home_kept s place x d e h good p list is i a =
    let ready : Rattle.hop_machine.specs.run.AllHome.Ready x d = subst (λ (k : Place). IsAtPlace k x d) is h in
    subst (λ (k : Setup). kept_by x.mappers i a ≤ slice_index k.lens i) e (all_kept x.mappers i a (slice_index d.setup.lens i) (λ w m g. mapper_kept w m d (ready.home.mapper w m g) i a))

-- # Along a run

record IsGood (s : Setup) (z : Place × World) : Type 0 where
  pub home : IsAt z
  pub setup : z.1.deeds.setup ≡ s
  pub actors : GoodActors s z.1.actors
  pub fine : AreFine s z.1.deeds.did

next_good : (s : Setup) (a b : Place × World) → Next true a b → IsGood s a → IsGood s b
next_good s a b n h =
    let set : n.told.setup ≡ s = n.learns.setup ∙ h.setup in
    let at : IsAtPlace a.0 a.1.actors n.told = place_told true a.0 a.1.actors a.1.deeds n.told n.learns h.home in
    let due : due_at (record { splits = splits_of s; limit = s.attempts }) a.0 a.1.actors ≡ Some n.program =
    subst (λ (k : Setup). due_at (record { splits = splits_of k; limit = k.attempts }) a.0 a.1.actors ≡ Some n.program) set n.is_due in
    let fits = subst (WhenDue s a.1.actors h.actors) due (place_fits s a.1.actors h.actors a.0 (home_kept s a.0 a.1.actors n.told set at h.actors)) in
    let t = runs_fit s (λ (z : Place × Actors). GoodActors s z.1) n.program n.told b.1.deeds (b.0, b.1.actors) fits n.runs set (subst (AreFine s) (sym n.learns.did) h.fine) in
    record {
      home = next_at_home true a b n h.home;
      setup = (Rattle.hop_machine.proofs.step.Owners.Runs-rightly true n.program n.told b.1.deeds (b.0, b.1.actors) n.runs).setup ∙ set;
      actors = t.0;
      fine = t.1;
    }

went_good : (s : Setup) (a b : Place × World) → Went true a b → IsGood s a → IsGood s b
went_good s a b w h = went_keeps true (IsGood s)
    (λ x y p k l g. record {
      home = went_at_home true x y (went_learns true x y p k l) g.home;
      setup = l.setup ∙ g.setup;
      actors = subst (GoodActors s) (sym k) g.actors;
      fine = subst (AreFine s) (sym l.did) g.fine;
    })
    (λ x y n g. next_good s x y n g) a b w h

-- # From a start

start_good : (backup : Bool) (list : List Order) (a : World) → IsStart backup a.actors a.deeds → IsGood a.deeds.setup (Opening 0 list, a)
start_good backup list a z =
    let s = a.deeds.setup in
    record {
      home = start_at_home backup a.actors a.deeds z;
      setup = refl;
      actors = record {
        reducers = λ p r g. subst (OfRun s) (sym (z.reducer p r g)) (refl, (let l = there a.actors.reducers p r g in let n = z.reducers in omega (arith, l, n)));
        writer = subst (HasReached s) (sym z.writer) (record { setup = refl; next = z.set.reducers; wrote = All-nil (λ (w : Writing). (w.reducer < s.reducers) × IsReached s w.cut) });
      };
      fine = λ p l. record {
        history = subst (AllFine s) (sym (z.reducers_idle p l).events) tt;
        sent = subst (AreWithin s) (sym (z.reducers_idle p l).sent) tt;
      };
    }

pub start_reached : (backup : Bool) (list : List Order) (at : Place) (a b : World) → IsStart backup a.actors a.deeds → Went true (Opening 0 list, a) (at, b) → WroteReached a.deeds.setup b.actors.writer.writings
start_reached backup list at a b z w = (went_good a.deeds.setup (Opening 0 list, a) (at, b) w (start_good backup list a z)).actors.writer.wrote
