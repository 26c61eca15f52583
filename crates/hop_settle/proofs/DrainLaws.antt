-- A turn of a reducer of a list, while a run is settled.
use Rattle.std.proofs.Common.{◌≡◌, ℕ, ◌+◌, ◌<◌, ◌≤◌, ◌⊎◌, nat_lt, Bool, true, false, List, length, refl, sym, ap, ◌∙◌, subst, inl, inr, cond, arith, Some, Ok, Err, Result}
use Rattle.std.specs.List.{slice_get}
use Rattle.std.proofs.lemmas.Bool.Decides.{nat_tests}
use Rattle.std.proofs.lemmas.List.{length-set}
use Rattle.hop_machine.specs.declared.words.Turn.{Turn}
use Rattle.hop_machine.specs.declared.words.Turn.TheVariants as said
use Rattle.hop_machine.specs.declared.words.Who.TheVariants as whose
use Rattle.hop_machine.specs.step.Steps.{Deeds, rules_of}
use Rattle.hop_machine.specs.actors.MapperTurns.{Mapper}
use Rattle.hop_machine.specs.actors.ReducerTurns.{Reducer, Writer, reducer_turn}
use Rattle.hop_machine.specs.home.Conditions.{HasReducer, HasAll}
use Rattle.hop_machine.specs.home.ReducerHome.{NoneDue}
use Rattle.hop_machine.specs.play.Play.{Actors, Place, Turned, Went, once_idle, Draining, Passing, Halted}
use Rattle.hop_machine.specs.run.AllHome.{Ready, AllLate, IsAtPlace}
use Rattle.hop_machine.specs.settling.Settling.{DrainsLate, Drained, BoundsLists, drain_left}
use Rattle.hop_machine.proofs.step.Owners.{Runs-only, Runs-ends}
use Rattle.hop_machine.proofs.actors.OwnTurns.{own_reducer}
use Rattle.hop_machine.proofs.play.Plays.{went_both}
use Rattle.hop_machine.proofs.play.Going.{reducer_did, drains, empties, drains-over}
use Rattle.hop_machine.proofs.run.Places.{went_at_home}
use Rattle.hop_machine.proofs.home.OfRun.{reducer-late}
use Rattle.hop_machine.proofs.settling.Drains.{drained-turn, drained-idle}
use Rattle.hop_machine.proofs.settling.ReducerEnds.{reducer-falls}
use Rattle.hop_actors.specs.declared.turn.Turn.{Turn as Answer}
use Rattle.hop_actors.specs.declared.turn.Turn.TheVariants as answer
use Rattle.hop_actors.specs.declared.fault.Fault.{Fault}
use Rattle.hop_actors.specs.declared.fault.Fault.TheVariants as fault
use Rattle.hop_actors.specs.Acting.{said_turn}
use Rattle.hop_settle.specs.Crews.{MayReduceAt, Reduced, actors_of, world_of}
use Rattle.hop_settle.specs.Drains.{Stage, AfterPass, AtLast, drains_at, after_drains, DrainsHere}
use Rattle.hop_settle.specs.Stops.{place_after, idle_or_fault}

pub not_below : (w n : ℕ) → n ≤ w → nat_lt w n ≡ false
not_below w n h = grind (arith, nat_tests)

-- # At home

pub ready_here : (s : Stage) (p : ℕ) (x : Actors) (d : Deeds) → IsAtPlace (drains_at s p) x d → Ready x d
ready_here (AfterPass ended) p x d h = h.ready
ready_here AtLast p x d h = h.ready

pub late_here : (s : Stage) (p : ℕ) (x : Actors) (d : Deeds) → IsAtPlace (drains_at s p) x d → AllLate x
late_here (AfterPass ended) p x d h = h.late
late_here AtLast p x d h = h.late

pub may_reduce : (x : Actors) (d : Deeds) (p : ℕ) (r : Reducer) → Ready x d → HasAll d → p < length x.reducers → slice_get x.reducers p ≡ Some r → MayReduceAt p r d
may_reduce x d p r h ends l is =
    let k = h.home.reducer p r is in
    let inside : p < d.setup.reducers = let n = h.home.reducers in omega (arith, l, n) in
    record {
      number = k.number;
      may = record {
        call = record { setup = h.home.set; home = k.home; ends = subst (λ n. HasReducer n d) (sym k.number) (ends.reducer p inside) };
        none_due = subst (λ n. NoneDue n d) (sym k.number) (h.none p inside);
      };
    }

-- # A turn

ok_is : (a b : Bool) → ◌≡◌ {A = Result Bool Fault} (Ok a) (Ok b) → a ≡ b
ok_is a b h = cc

-- whether the turn was idle, and where the run goes on
abbrev IsIdle : Turn → Bool → Type 0
IsIdle t b = (b ≡ true → t ≡ said.Idle) × ((go again : Place) → once_idle t go again ≡ cond b go again)

-- its answer, as the code reads it
pub idle_is : (t : Answer) (b : Bool) → idle_or_fault t ≡ Ok b → IsIdle (said_turn t) b
idle_is answer.Worked b h = subst (IsIdle said.Worked) (ok_is false b h) (λ k. cc, λ go again. refl)
idle_is answer.Idle b h = subst (IsIdle said.Idle) (ok_is true b h) (λ k. refl, λ go again. refl)
idle_is answer.Ended b h = subst (IsIdle said.Ended) (ok_is false b h) (λ k. cc, λ go again. refl)
idle_is (answer.Failed f) b h = cc

err_is : (a b : Fault) → ◌≡◌ {A = Result Bool Fault} (Err a) (Err b) → a ≡ b
err_is a b h = cc

-- a turn that failed halts the run where memory was wanting
pub fault_is : (t : Answer) (f : Fault) → idle_or_fault t ≡ Err f → ((g : Fault) → t ≡ answer.Failed g → g ≡ fault.NoMemory) → (f ≡ fault.NoMemory) × ((go again : Place) → once_idle (said_turn t) go again ≡ Halted)
fault_is (answer.Failed g) f h only = let memory = only g refl in (sym (err_is g f h) ∙ memory, λ go again. ap (λ (k : Fault). once_idle (said_turn (answer.Failed k)) go again) memory)
fault_is answer.Worked f h only = cc
fault_is answer.Idle f h only = cc
fault_is answer.Ended f h only = cc

-- a turn that was neither idle nor failed left less to do
pub goes_on : (t : Answer) (b : Bool) (L : Type 0) → idle_or_fault t ≡ Ok b → b ≡ false → (said_turn t ≡ said.Stopped) ⊎ ((said_turn t ≡ said.Idle) ⊎ L) → L
goes_on t b L h off (inr (inr l)) = l
goes_on answer.Idle b L h off (inr (inl l)) = let n : true ≡ false = ok_is true b h ∙ off in cc
goes_on answer.Worked b L h off (inr (inl l)) = cc
goes_on answer.Ended b L h off (inr (inl l)) = cc
goes_on (answer.Failed f) b L h off (inr (inl l)) = cc
goes_on answer.Worked b L h off (inl l) = cc
goes_on answer.Idle b L h off (inl l) = cc
goes_on answer.Ended b L h off (inl l) = cc
goes_on (answer.Failed f) b L h off (inl l) = cc

pub smaller : (now was : Bool) (x y : ℕ) → was ≡ false → (now ≡ false → x < y) → cond now 0 (x + 1) < cond was 0 (y + 1)
smaller now true x y h k = cc
smaller true false x y h k = omega arith
smaller false false x y h k = let l = k refl in omega (arith, l)

pub halts : (f : Fault) (go : Place) → f ≡ fault.NoMemory → place_after {A = Unit {0}} (Err f) go ≡ Halted
halts f go h = (λ i. place_after {A = Unit {0}} (Err (h i)) go)

module _ (e : Bool) (p : ℕ) (rs : List Reducer) (a : Deeds) (ss : List Reducer) (t : Turn) (b : Deeds) (z : Reduced e p rs a ss t b) where
  pub red_ends : b.ends ≡ a.ends
  red_ends = Runs-ends e (reducer_turn z.before) a b (z.after, t) z.runs

  pub red_setup : b.setup ≡ a.setup
  red_setup = (Runs-only (whose.Reducer z.before.number) e (reducer_turn z.before) a b (z.after, t) (own_reducer z.before) z.runs).setup

  pub red_count : length ss ≡ length rs
  red_count = ap length z.now ∙ length-set rs p z.after

  pub red_turned : (ms : List Mapper) (x : Writer) → Turned e (whose.Reducer p) (world_of ms rs x a) t (world_of ms ss x b)
  red_turned ms x =
      subst (λ (ns : List Reducer). Turned e (whose.Reducer p) (world_of ms rs x a) t (world_of ms ns x b)) (sym z.now)
      (reducer_did e p reducer_turn said.Idle (actors_of ms rs x) z.before a b (z.after, t) z.here z.runs)

  pub red_goes : (s : Stage) (ms : List Mapper) (x : Writer) → p < length rs → Went e (drains_at s p, world_of ms rs x a) (once_idle t (drains_at s (p + 1)) (drains_at s p), world_of ms ss x b)
  red_goes (AfterPass ended) ms x l = drains e p ended (world_of ms rs x a) (world_of ms ss x b) t l (red_turned ms x)
  red_goes AtLast ms x l = empties e p (world_of ms rs x a) (world_of ms ss x b) t l (red_turned ms x)

  module _ (x : Actors) (same : x.reducers ≡ rs) (home : Ready x a) (late : AllLate x) where
    own : (z.before.number ≡ p) × DrainsLate z.before a.setup
    own =
        let is : slice_get x.reducers p ≡ Some z.before = ap (λ (l : List Reducer). slice_get l p) same ∙ z.here in
        let k = home.home.reducer p z.before is in (k.number, reducer-late z.before a k.home (late p z.before is))

    pub red_falls : (most : ℕ) → BoundsLists (rules_of a.setup) most → (t ≡ said.Stopped) ⊎ ((t ≡ said.Idle) ⊎ (drain_left most p b < drain_left most p a))
    red_falls most bounds =
        subst (λ n. (t ≡ said.Stopped) ⊎ ((t ≡ said.Idle) ⊎ (drain_left most n b < drain_left most n a))) own.0
        (reducer-falls e z.before most a b (z.after, t) own.1 bounds red_setup z.runs)

    pub red_drained : (c : Deeds) → Drained p c a → Drained p c b × (t ≡ said.Idle → Drained (p + 1) c b)
    red_drained c d = (drained-turn e p z.before c a b (z.after, t) own.0 z.runs d, λ i. drained-idle e p z.before c a b (z.after, t) own.0 z.runs d own.1 i)

-- # So far

module _ (e : Bool) (p q : ℕ) (rs : List Reducer) (a : Deeds) (ss : List Reducer) (b : Deeds) (ms : List Mapper) (x : Writer) where
  -- the reducer is not idle yet
  pub still_here : (idle : Bool) → idle ≡ false → (s : Stage) → Went e (drains_at s p, world_of ms rs x a) (cond idle (drains_at s (q + 1)) (drains_at s q), world_of ms ss x b)
      → Went e (drains_at s p, world_of ms rs x a) (drains_at s q, world_of ms ss x b)
  still_here idle off s w = subst (λ (t : Bool). Went e (drains_at s p, world_of ms rs x a) (cond t (drains_at s (q + 1)) (drains_at s q), world_of ms ss x b)) off w

  -- all are at home where the run is
  pub home_here : (h : DrainsHere p (actors_of ms rs x) a) → ((s : Stage) → Went e (drains_at s p, world_of ms rs x a) (drains_at s q, world_of ms ss x b)) → DrainsHere q (actors_of ms ss x) b
  home_here h w = record { stage = h.stage; home = went_at_home e (drains_at h.stage p, world_of ms rs x a) (drains_at h.stage q, world_of ms ss x b) (w h.stage) h.home }

pub ready_so : (p : ℕ) (x : Actors) (d : Deeds) → DrainsHere p x d → Ready x d × AllLate x
ready_so p x d h = (ready_here h.stage p x d h.home, late_here h.stage p x d h.home)

-- behind the last reducer
pub drains_done : (e : Bool) (rs : List Reducer) (a : Deeds) (ss : List Reducer) (b : Deeds) (ms : List Mapper) (x : Writer) (n : ℕ) → length ss ≡ n → (s : Stage)
    → Went e (drains_at s 0, world_of ms rs x a) (drains_at s n, world_of ms ss x b) → Went e (drains_at s 0, world_of ms rs x a) (after_drains s n, world_of ms ss x b)
drains_done e rs a ss b ms x n many (AfterPass ended) w =
    went_both e (Draining 0 ended, world_of ms rs x a) (Draining n ended, world_of ms ss x b) (Passing ended, world_of ms ss x b) w
    (drains-over e n ended (world_of ms ss x b) (not_below n (length ss) (omega (arith, many))))
drains_done e rs a ss b ms x n many AtLast w = w

-- a fault ends the run at one place, wherever it would have gone on
pub fault_place : (f : Fault) (go other : Place) → place_after {A = Unit {0}} (Err f) go ≡ place_after {A = Unit {0}} (Err f) other
fault_place (fault.SpentAt split) go other = refl
fault_place fault.FolderFailed go other = refl
fault_place (fault.SpillFailed worker) go other = refl
fault_place (fault.SpillDamaged worker at kept found) go other = refl
fault_place (fault.SpillCollides worker at place) go other = refl
fault_place fault.NoMemory go other = refl
