-- What a step's program may come to, the flags of a pass, and how settling begins.
use Rattle.std.proofs.Common.{◌≡◌, ◌⊎◌, ℕ, zero, suc, ◌<◌, ◌&&◌, Bool, true, false, List, [], ◌∷◌, length, map, refl, sym, ap, ◌∙◌, subst, inl, inr, Some, slice_set, slice_index_or, arith}
use Rattle.std.specs.List.{slice_get}
use Rattle.std.proofs.lemmas.List.{length-map}
use Rattle.hop_machine.specs.declared.words.Who.{Who}
use Rattle.hop_machine.specs.declared.words.Turn.{Turn}
use Rattle.hop_machine.specs.declared.words.Turn.TheVariants.{Worked, Idle, Ended, Spent, Stopped}
use Rattle.hop_machine.specs.step.Steps.{Prog, Done, Deeds, Runs}
use Rattle.hop_machine.specs.actors.MapperTurns.{Mapper}
use Rattle.hop_machine.specs.actors.ReducerTurns.{Reducer}
use Rattle.hop_machine.specs.home.MapperHome.{has_failed}
use Rattle.hop_machine.specs.play.Play.{Actors, Place, when, turn_of, turn_to, at_reducer, by_reducer, unless_halted, unless_spent, once_idle, has_ended, is_late, is_ended, all_true}
use Rattle.hop_machine.specs.run.AllHome.{ReducerIsHome, Ready, Settles, IsAtPlace}
use Rattle.hop_machine.proofs.step.Programs.{Runs-parted}
use Rattle.hop_machine.proofs.reducer.Starts.{marked_home}
use Rattle.hop_machine.proofs.settling.Passes.{there}
use Rattle.hop_machine.proofs.run.AllMoving.{set_each, reducer_is, locks_one, locks_same, home_by_reducer, home_told, ready_by_reducer, ready_told}
use Rattle.hop_machine.proofs.run.Turns.{DidReducer, by_reducer-run}

-- # What a step's program may come to

abbrev pub Came : Place × Actors → Deeds → Type 0
Came z b = IsAtPlace z.0 z.1 b

module _ (P : Place × Actors → Deeds → Type 0) (e : Bool) (x : Actors) (a b : Deeds) (z : Place × Actors) where
  pub done-came : (place : Place) (y : Actors) → P (place, y) a → Runs e (Done (place, y)) a z b → P z b
  done-came place y h run = subst (λ (k : (Place × Actors) × Deeds). P k.0 k.1) (λ i. (sym run.0 i, sym run.1 i)) h

  pub turn_to-came : (who : Who) (place : Turn → Place) → ((y : Actors × Turn) → Runs e (turn_of who x) a y b → P (place y.1, y.0) b) → Runs e (turn_to who place x) a z b → P z b
  turn_to-came who place f run =
      let t = Runs-parted e (turn_of who x) (λ y. Done (place y.1, y.0)) a b z run in
      subst (λ (k : Place × Actors). P k b) (sym t.later.0) (f t.answer (subst (λ (d : Deeds). Runs e (turn_of who x) a t.answer d) (sym t.later.1) t.first))

  pub at_reducer-came : {B : Type 0} (p : ℕ) (f : Reducer → Prog (Reducer × B)) (none : B) (place : B → Place) → ((y : Actors × B) → DidReducer e p f none x a y b → P (place y.1, y.0) b) → Runs e (at_reducer p f none place x) a z b → P z b
  at_reducer-came p f none place g run =
      let t = Runs-parted e (by_reducer p f none x) (λ y. Done (place y.1, y.0)) a b z run in
      subst (λ (k : Place × Actors). P k b) (sym t.later.0)
      (g t.answer (by_reducer-run e none x a b t.answer p f (subst (λ (d : Deeds). Runs e (by_reducer p f none x) a t.answer d) (sym t.later.1) t.first)))

  pub when-came : (t : Bool) (k l : Prog (Place × Actors)) → (t ≡ true → Runs e k a z b → P z b) → (t ≡ false → Runs e l a z b → P z b) → Runs e (when t k l) a z b → P z b
  when-came true k l f g run = f refl run
  when-came false k l f g run = g refl run

pub spent-came : (t : Turn) (go : Place) (y : Actors) (b : Deeds) → (has_failed t ≡ false → IsAtPlace go y b) → IsAtPlace (unless_spent t go) y b
spent-came Worked go y b h = h refl
spent-came Idle go y b h = h refl
spent-came Ended go y b h = h refl
spent-came (Spent i) go y b h = tt
spent-came Stopped go y b h = tt

pub idle-came : (t : Turn) (go again : Place) (y : Actors) (b : Deeds) → (t ≡ Idle → IsAtPlace go y b) → ((t ≡ Stopped → ⊥) → IsAtPlace again y b) → IsAtPlace (once_idle t go again) y b
idle-came Idle go again y b f g = f refl
idle-came Worked go again y b f g = g (λ k. cc)
idle-came Ended go again y b f g = g (λ k. cc)
idle-came (Spent i) go again y b f g = g (λ k. cc)
idle-came Stopped go again y b f g = tt

pub idle_goes : (t : Turn) → t ≡ Idle → t ≡ Stopped → ⊥
idle_goes t i s = let n : Idle ≡ Stopped = sym i ∙ s in cc

pub halted-came : (ok : Bool) (go : Place) (y : Actors) (b : Deeds) → (ok ≡ true → IsAtPlace go y b) → IsAtPlace (unless_halted go ok) y b
halted-came true go y b h = h refl
halted-came false go y b h = tt

-- # Flags

pub flag_set : (bs : List Bool) (w v : ℕ) (t : Bool) → slice_index_or (slice_set bs w t) v false ≡ true → ((v ≡ w) × (t ≡ true)) ⊎ (slice_index_or bs v false ≡ true)
flag_set [] w v t h = inr h
flag_set (c ∷ bs) zero zero t h = inl (refl, h)
flag_set (c ∷ bs) zero (suc v) t h = inr h
flag_set (c ∷ bs) (suc w) zero t h = inr h
flag_set (c ∷ bs) (suc w) (suc v) t h = of (flag_set bs w v t h)
  where
    of : ((v ≡ w) × (t ≡ true)) ⊎ (slice_index_or bs v false ≡ true) → ((suc v ≡ suc w) × (t ≡ true)) ⊎ (slice_index_or bs v false ≡ true)
    of (inl k) = inl (ap suc k.0, k.1)
    of (inr k) = inr k

flag_there : (ms : List Mapper) (v : ℕ) (m : Mapper) → slice_get ms v ≡ Some m → slice_index_or (map has_ended ms) v false ≡ true → m.ended ≡ true
flag_there [] v m g h = cc
flag_there (n ∷ ms) zero m g h = subst (λ (k : Mapper). k.ended ≡ true) (Rattle.hop_machine.proofs.run.AllMoving.some_is n m g) h
flag_there (n ∷ ms) (suc v) m g h = flag_there ms v m g h

both : (s t : Bool) → (s && t) ≡ true → (s ≡ true) × (t ≡ true)
both true t h = (refl, h)
both false t h = cc

pub all_flags : (bs : List Bool) (v : ℕ) → all_true bs ≡ true → v < length bs → slice_index_or bs v false ≡ true
all_flags [] v h l = absurd (omega arith)
all_flags (b ∷ bs) zero h l = (both b (all_true bs) h).0
all_flags (b ∷ bs) (suc v) h l = all_flags bs v (both b (all_true bs) h).1 (omega arith)

pub flag_length : (bs : List Bool) (w : ℕ) (t : Bool) → length (slice_set bs w t) ≡ length bs
flag_length bs w t = Rattle.hop_machine.proofs.settling.Passes.length_set bs w t

pub ended_is : (t : Turn) → is_ended t ≡ true → t ≡ Ended
ended_is Ended h = refl
ended_is Worked h = cc
ended_is Idle h = cc
ended_is (Spent i) h = cc
ended_is Stopped h = cc

-- # Late reducers

late_there : (rs : List Reducer) (p : ℕ) (r : Reducer) → slice_get (map is_late rs) p ≡ Some r → (q : Reducer) × (slice_get rs p ≡ Some q) × (r ≡ is_late q)
late_there [] p r h = cc
late_there (q ∷ rs) zero r h = (q, refl, sym (Rattle.hop_machine.proofs.run.AllMoving.some_is (is_late q) r h))
late_there (q ∷ rs) (suc p) r h = late_there rs p r h

module _ (x : Actors) (d : Deeds) (h : Ready x d) where
  late_home : (p : ℕ) (r : Reducer) → slice_get (map is_late x.reducers) p ≡ Some r → ReducerIsHome p r d
  late_home p r g =
      let t = late_there x.reducers p r g in let k = h.home.reducer p t.0 t.1 in
      subst (λ (q : Reducer). ReducerIsHome p q d) (sym t.2) (record { number = k.number; home = marked_home t.0 d true t.0.lagging k.home; lags = k.lags; pulls = k.pulls })

  pub begins_settling : Settles (map has_ended x.mappers) (record x { reducers = map is_late x.reducers }) d
  begins_settling = record {
    ready = record {
      home = record { set = h.home.set; workers = h.home.workers; reducers = length-map x.reducers is_late ∙ h.home.reducers; mapper = h.home.mapper; reducer = late_home; writer = h.home.writer };
      «open» = h.«open»;
      none = h.none;
    };
    late = λ p r g. ap (λ (q : Reducer). q.late) (late_there x.reducers p r g).2;
    count = length-map x.mappers has_ended;
    ended = λ w m g f. (h.home.mapper w m g).home.over (flag_there x.mappers w m g f);
  }
