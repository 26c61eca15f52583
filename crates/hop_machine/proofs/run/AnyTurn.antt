-- Any actor's turn leaves all actors at home.
use Rattle.std.proofs.Common.{◌≡◌, ℕ, zero, suc, ◌<◌, Bool, true, false, List, [], ◌∷◌, length, refl, sym, ap, ◌∙◌, subst, inl, inr, Some, None, arith}
use Rattle.std.specs.List.{slice_get}
use Rattle.hop_machine.specs.declared.words.Who.{Who}
use Rattle.hop_machine.specs.declared.words.Who.TheVariants as whose
use Rattle.hop_machine.specs.declared.words.Turn.{Turn}
use Rattle.hop_machine.specs.declared.words.Turn.TheVariants.{Idle, Ended, Stopped}
use Rattle.hop_machine.specs.step.Steps.{Done, Deeds, Runs}
use Rattle.hop_machine.specs.actors.MapperTurns.{Mapper, mapper_turn}
use Rattle.hop_machine.specs.actors.ReducerTurns.{Reducer, reducer_turn, writer_turn}
use Rattle.hop_machine.specs.home.Said.{HasEnded}
use Rattle.hop_machine.specs.home.MapperHome.{has_failed}
use Rattle.hop_machine.specs.play.Play.{Actors, turn_of}
use Rattle.hop_machine.specs.run.AllHome.{AllLate, Ready, NoRestartDue}
use Rattle.hop_machine.proofs.step.Programs.{Runs-parted}
use Rattle.hop_machine.proofs.actors.OwnTurns.{own_writer}
use Rattle.hop_machine.proofs.reducer.WriterHome.{writer_turn-home}
use Rattle.hop_machine.proofs.settling.Passes.{get_here, get_else, length_set, there}
use Rattle.hop_machine.proofs.run.Moving.{Runs-moved, kept_same}
use Rattle.hop_machine.proofs.run.AllMoving.{reducer_is, some_is, set_each, ready_by_mapper, ready_by_reducer, ready_by_writer}
use Rattle.hop_machine.proofs.run.Turns.{DidMapper, DidReducer, by_mapper-run, by_reducer-run, not_stopped, reducer_turned, mapper_turned}

-- # Any turn

pub none_there : {A : Type 0} (xs : List A) (i : ℕ) → slice_get xs i ≡ None → i < length xs → ⊥
none_there [] i e l = absurd (omega arith)
none_there (x ∷ xs) zero e l = cc
none_there (x ∷ xs) (suc i) e l = none_there xs i e (omega arith)

-- what a reducer's turn leaves of all
pub record ReducerDid (p : ℕ) (x : Actors) (a : Deeds) (y : Actors) (t : Turn) (b : Deeds) : Type 0 where
  pub ready : Ready y b
  pub setup : b.setup ≡ a.setup
  pub mappers : y.mappers ≡ x.mappers
  pub late : AllLate x → AllLate y
  pub idle : AllLate x → t ≡ Idle → p < a.setup.reducers → NoRestartDue b p
  pub locks : (q : ℕ) → (q ≡ p → ⊥) → b.did.keeps q ≡ a.did.keeps q

-- and a mapper's
pub record MapperDid (w : ℕ) (x : Actors) (y : Actors) (t : Turn) (b : Deeds) : Type 0 where
  pub ready : Ready y b
  pub reducers : y.reducers ≡ x.reducers
  pub count : length y.mappers ≡ length x.mappers
  pub own : (m : Mapper) → slice_get y.mappers w ≡ Some m → t ≡ Ended → HasEnded m
  pub others : (v : ℕ) (m : Mapper) → (v ≡ w → ⊥) → slice_get y.mappers v ≡ Some m → slice_get x.mappers v ≡ Some m

module _ (e : Bool) (x : Actors) (a b : Deeds) (h : Ready x a) where
  pub in_range : (p : ℕ) (r : Reducer) → slice_get x.reducers p ≡ Some r → p < a.setup.reducers
  in_range p r g = let l = there x.reducers p r g in let k = h.home.reducers in omega (arith, l, k)

  mapper_did : (w : ℕ) (y : Actors) (t : Turn) → has_failed t ≡ false → DidMapper e w mapper_turn Idle x a (y, t) b → MapperDid w x y t b
  mapper_did w y t n (inl d) = subst (λ (k : (Actors × Turn) × Deeds). MapperDid w x k.0.0 k.0.1 k.1) (λ i. (sym d.0 i, sym d.1 i))
      (record { ready = h; reducers = refl; count = refl; own = λ m g k. let n : Some m ≡ None = sym g ∙ d.2 in cc; others = λ v m n g. g })
  mapper_did w y t n (inr d) =
      let s : t ≡ d.2.1 = ap (λ (k : Actors × Turn). k.1) d.4 in
      let z = mapper_turned e w d.0 d.2.0 d.2.1 a b (h.home.mapper w d.0 d.1) (ap has_failed (sym s) ∙ n) d.3 in
      subst (λ (k : Actors × Turn). MapperDid w x k.0 k.1 b) (sym d.4) (record {
        ready = ready_by_mapper x a b h w d.0 d.2.0 z.moved d.1 z.after;
        reducers = refl;
        count = length_set x.mappers w d.2.0;
        own = λ m g k. subst HasEnded (some_is d.2.0 m (sym (get_here x.mappers w d.2.0 d.0 d.1) ∙ g)) (z.ended k);
        others = λ v m ne g. sym (get_else x.mappers w v d.2.0 ne) ∙ g;
      })

  reducer_did : (p : ℕ) (y : Actors) (t : Turn) → (t ≡ Stopped → ⊥) → DidReducer e p reducer_turn Idle x a (y, t) b → ReducerDid p x a y t b
  reducer_did p y t n (inl d) = subst (λ (k : (Actors × Turn) × Deeds). ReducerDid p x a k.0.0 k.0.1 k.1) (λ i. (sym d.0 i, sym d.1 i))
      (record { ready = h; setup = refl; mappers = refl; late = λ l. l; idle = λ l i k. absurd (none_there x.reducers p d.2 (let g = h.home.reducers in omega (arith, g, k))); locks = λ q ne. refl })
  reducer_did p y t n (inr d) =
      let s : t ≡ d.2.1 = ap (λ (k : Actors × Turn). k.1) d.4 in
      let l = in_range p d.0 d.1 in
      let z = reducer_turned e p d.0 d.2.0 d.2.1 a b h.home.set (h.home.reducer p d.0 d.1) (h.«open» p l) (h.none p l) (λ k. n (s ∙ k)) d.3 in
      subst (λ (k : Actors × Turn). ReducerDid p x a k.0 k.1 b) (sym d.4) (record {
        ready = ready_by_reducer x a b h p d.0 d.2.0 z.moved d.1 z.after.home z.after.«open» z.after.none;
        setup = z.moved.acted.only.setup;
        mappers = refl;
        late = λ all. set_each (λ q (k : Reducer). k.late ≡ true) x.reducers p d.0 d.2.0 d.1 (z.late ∙ all p d.0 d.1) (λ q k ne g. all q k g);
        idle = λ all i k. z.idle (all p d.0 d.1) i;
        locks = λ q ne. kept_same (whose.Reducer p) a b z.moved q (λ k. ne (reducer_is p q k));
      })

  writer_ready : (y : Actors) (t : Turn) → Runs e (turn_of whose.Writer x) a (y, t) b → Ready y b
  writer_ready y t run =
      let u = Runs-parted e (writer_turn x.writer) (λ y. Done (record x { writer = y.0 }, y.1)) a b (y, t) run in
      let first = subst (λ (d : Deeds). Runs e (writer_turn x.writer) a u.answer d) (sym u.later.1) u.first in
      let z = Runs-moved whose.Writer e (writer_turn x.writer) a b u.answer (own_writer x.writer) first in
      let w = writer_turn-home e x.writer u.answer.0 u.answer.1 a b h.home.writer first in
      subst (λ (k : Actors × Turn). Ready k.0 b) (sym u.later.0) (ready_by_writer x a b h u.answer.0 z w.home)

  pub mapper_turn-did : (w : ℕ) (y : Actors) (t : Turn) → has_failed t ≡ false → Runs e (turn_of (whose.Mapper w) x) a (y, t) b → MapperDid w x y t b
  mapper_turn-did w y t n run = mapper_did w y t n (by_mapper-run e Idle x a b (y, t) w mapper_turn run)

  pub reducer_turn-did : (p : ℕ) (y : Actors) (t : Turn) → (t ≡ Stopped → ⊥) → Runs e (turn_of (whose.Reducer p) x) a (y, t) b → ReducerDid p x a y t b
  reducer_turn-did p y t n run = reducer_did p y t n (by_reducer-run e Idle x a b (y, t) p reducer_turn run)

  pub turn_ready : (who : Who) (y : Actors) (t : Turn) → has_failed t ≡ false → Runs e (turn_of who x) a (y, t) b → Ready y b
  turn_ready (whose.Mapper w) y t n run = (mapper_turn-did w y t n run).ready
  turn_ready (whose.Reducer p) y t n run = (reducer_turn-did p y t (not_stopped t n) run).ready
  turn_ready (whose.Merger j) y t n run = subst (λ (k : (Actors × Turn) × Deeds). Ready k.0.0 k.1) (λ i. (sym run.0 i, sym run.1 i)) h
  turn_ready whose.Writer y t n run = writer_ready y t run
