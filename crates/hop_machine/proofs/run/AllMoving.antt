-- All actors stay at home where one of them moved.
use Rattle.std.proofs.Common.{◌≡◌, ◌≢◌, ◌⊎◌, ℕ, ◌<◌, Bool, List, [], length, sym, ap, ◌∙◌, subst, inl, inr, Some, slice_set}
use Rattle.std.specs.List.{slice_get}
use Rattle.std.proofs.lemmas.Bool.{cases_eq}
use Rattle.hop_event.specs.Legal.{NoFinish}
use Rattle.hop_machine.specs.declared.words.Who.{Who}
use Rattle.hop_machine.specs.declared.words.Who.TheVariants as whose
use Rattle.hop_machine.specs.step.Steps.{Deeds, Kept, Setup}
use Rattle.hop_machine.specs.actors.MapperTurns.{Mapper}
use Rattle.hop_machine.specs.actors.ReducerTurns.{Reducer, Writer}
use Rattle.hop_machine.specs.home.Said.{history_of}
use Rattle.hop_machine.specs.home.ReducerHome.{IsSetup, NoneDue, WriterAtHome}
use Rattle.hop_machine.specs.play.Play.{Actors, Learns}
use Rattle.hop_machine.specs.run.AllHome.{MapperIsHome, ReducerIsHome, AllHome, Ready}
use Rattle.hop_machine.proofs.home.OthersKeep.{keeps_writer}
use Rattle.hop_machine.proofs.settling.Passes.{get_here, get_else, length_set}
use Rattle.hop_machine.proofs.run.Moving.{Moved, learns-moved, setup_same, kept_same, mapper_still, reducer_still}

-- # All actors

mapper_is : (w v : ℕ) → whose.Mapper w ≡ whose.Mapper v → v ≡ w
mapper_is w v e = cc

pub reducer_is : (w v : ℕ) → whose.Reducer w ≡ whose.Reducer v → v ≡ w
reducer_is w v e = cc

pub no_mapper : (p w : ℕ) → whose.Reducer p ≢ whose.Mapper w
no_mapper p w e = cc

pub no_reducer : (w p : ℕ) → whose.Mapper w ≢ whose.Reducer p
no_reducer w p e = cc

mapper_not_writer : (w : ℕ) → whose.Mapper w ≢ whose.Writer
mapper_not_writer w e = cc

reducer_not_writer : (w : ℕ) → whose.Reducer w ≢ whose.Writer
reducer_not_writer w e = cc

writer_no_mapper : (w : ℕ) → whose.Writer ≢ whose.Mapper w
writer_no_mapper w e = cc

pub writer_no_reducer : (w : ℕ) → whose.Writer ≢ whose.Reducer w
writer_no_reducer w e = cc

pub some_is : {A : Type 0} (x y : A) → Some x ≡ Some y → x ≡ y
some_is x y e = cc

-- what holds at each place of a list with one item new
pub set_each : {A : Type 0} (P : ℕ → A → Type 0) (xs : List A) (i : ℕ) (x y : A) → slice_get xs i ≡ Some x → P i y → ((j : ℕ) (z : A) → j ≢ i → slice_get xs j ≡ Some z → P j z) → (j : ℕ) (z : A) → slice_get (slice_set xs i y) j ≡ Some z → P j z
set_each P xs i x y is new old j z h = which (cases_eq j i)
  where
    which : (j ≡ i) ⊎ (j ≡ i → ⊥) → P j z
    which (inl e) =
        let h1 : slice_get (slice_set xs i y) i ≡ Some z = subst (λ k. slice_get (slice_set xs i y) k ≡ Some z) e h in
        let s = some_is y z (sym (get_here xs i y x is) ∙ h1) in
        subst (λ k. P k z) (sym e) (subst (λ v. P i v) s new)
    which (inr n) = old j z n (sym (get_else xs i j y n) ∙ h)

module _ (x : Actors) (a b : Deeds) (h : AllHome x a) where
  lens_w : b.setup ≡ a.setup → length x.mappers ≡ b.setup.workers
  lens_w s = h.workers ∙ ap (λ (k : Setup). k.workers) (sym s)

  lens_r : b.setup ≡ a.setup → length x.reducers ≡ b.setup.reducers
  lens_r s = h.reducers ∙ ap (λ (k : Setup). k.reducers) (sym s)

  pub home_by_mapper : (w : ℕ) (m n : Mapper) → Moved (whose.Mapper w) a b → slice_get x.mappers w ≡ Some m → MapperIsHome w n b → AllHome (record x { mappers = slice_set x.mappers w n }) b
  home_by_mapper w m n z is new =
      let s = setup_same (whose.Mapper w) a b z in
      record {
        set = subst IsSetup (sym s) h.set;
        workers = length_set x.mappers w n ∙ lens_w s;
        reducers = lens_r s;
        mapper = set_each (λ v k. MapperIsHome v k b) x.mappers w m n is new (λ v k ne g. mapper_still (whose.Mapper w) a b z v k (λ e. ne (mapper_is w v e)) (h.mapper v k g));
        reducer = λ p r g. reducer_still (whose.Mapper w) a b z p r (no_reducer w p) (h.reducer p r g);
        writer = keeps_writer (whose.Mapper w) a b z.acted x.writer (mapper_not_writer w) h.writer;
      }

  pub home_by_reducer : (p : ℕ) (r n : Reducer) → Moved (whose.Reducer p) a b → slice_get x.reducers p ≡ Some r → ReducerIsHome p n b → AllHome (record x { reducers = slice_set x.reducers p n }) b
  home_by_reducer p r n z is new =
      let s = setup_same (whose.Reducer p) a b z in
      record {
        set = subst IsSetup (sym s) h.set;
        workers = lens_w s;
        reducers = length_set x.reducers p n ∙ lens_r s;
        mapper = λ w m g. mapper_still (whose.Reducer p) a b z w m (no_mapper p w) (h.mapper w m g);
        reducer = set_each (λ v k. ReducerIsHome v k b) x.reducers p r n is new (λ v k ne g. reducer_still (whose.Reducer p) a b z v k (λ e. ne (reducer_is p v e)) (h.reducer v k g));
        writer = keeps_writer (whose.Reducer p) a b z.acted x.writer (reducer_not_writer p) h.writer;
      }

  pub home_by_writer : (n : Writer) → Moved whose.Writer a b → WriterAtHome n b → AllHome (record x { writer = n }) b
  home_by_writer n z new =
      let s = setup_same whose.Writer a b z in
      record {
        set = subst IsSetup (sym s) h.set;
        workers = lens_w s;
        reducers = lens_r s;
        mapper = λ w m g. mapper_still whose.Writer a b z w m (writer_no_mapper w) (h.mapper w m g);
        reducer = λ p r g. reducer_still whose.Writer a b z p r (writer_no_reducer p) (h.reducer p r g);
        writer = new;
      }

  pub home_told : (e : Bool) → Learns e a b → AllHome x b
  home_told e l =
      let s = l.setup in let z = learns-moved (whose.Merger 0) e a b l in
      record {
        set = subst IsSetup (sym s) h.set;
        workers = lens_w s;
        reducers = lens_r s;
        mapper = λ w m g. mapper_still (whose.Merger 0) a b z w m (λ k. cc) (h.mapper w m g);
        reducer = λ p r g. reducer_still (whose.Merger 0) a b z p r (λ k. cc) (h.reducer p r g);
        writer = keeps_writer (whose.Merger 0) a b z.acted x.writer (λ k. cc) h.writer;
      }

-- # What stands of each reducer's lock

-- where reducer p moved
pub locks_one : (P : ℕ → Kept → Type 0) (p : ℕ) (a b : Deeds) → Moved (whose.Reducer p) a b → P p (b.did.keeps p) → ((q : ℕ) → (q ≡ p → ⊥) → q < a.setup.reducers → P q (a.did.keeps q)) → (q : ℕ) → q < b.setup.reducers → P q (b.did.keeps q)
locks_one P p a b z new old q l = which (cases_eq q p)
  where
    which : (q ≡ p) ⊎ (q ≡ p → ⊥) → P q (b.did.keeps q)
    which (inl e) = subst (λ k. P k (b.did.keeps k)) (sym e) new
    which (inr n) = subst (λ k. P q k) (sym (kept_same (whose.Reducer p) a b z q (λ e. n (reducer_is p q e)))) (old q n (subst (λ (s : Setup). q < s.reducers) (setup_same (whose.Reducer p) a b z) l))

-- where no reducer moved
pub locks_same : (P : ℕ → Kept → Type 0) (who : Who) (a b : Deeds) → Moved who a b → ((q : ℕ) → who ≢ whose.Reducer q) → ((q : ℕ) → q < a.setup.reducers → P q (a.did.keeps q)) → (q : ℕ) → q < b.setup.reducers → P q (b.did.keeps q)
locks_same P who a b z n old q l = subst (λ k. P q k) (sym (kept_same who a b z q (n q))) (old q (subst (λ (s : Setup). q < s.reducers) (setup_same who a b z) l))

abbrev is_open : ℕ → Kept → Type 0
is_open q k = NoFinish k.events

abbrev is_none : ℕ → Kept → Type 0
is_none q k = k.due ≡ []

module _ (x : Actors) (a b : Deeds) (h : Ready x a) where
  pub ready_by_mapper : (w : ℕ) (m n : Mapper) → Moved (whose.Mapper w) a b → slice_get x.mappers w ≡ Some m → MapperIsHome w n b → Ready (record x { mappers = slice_set x.mappers w n }) b
  ready_by_mapper w m n z is new = record {
    home = home_by_mapper x a b h.home w m n z is new;
    «open» = locks_same is_open (whose.Mapper w) a b z (no_reducer w) h.«open»;
    none = locks_same is_none (whose.Mapper w) a b z (no_reducer w) h.none;
  }

  pub ready_by_reducer : (p : ℕ) (r n : Reducer) → Moved (whose.Reducer p) a b → slice_get x.reducers p ≡ Some r → ReducerIsHome p n b → NoFinish (history_of b p) → NoneDue p b → Ready (record x { reducers = slice_set x.reducers p n }) b
  ready_by_reducer p r n z is new «open» none = record {
    home = home_by_reducer x a b h.home p r n z is new;
    «open» = locks_one is_open p a b z «open» (λ q n l. h.«open» q l);
    none = locks_one is_none p a b z none (λ q n l. h.none q l);
  }

  pub ready_by_writer : (n : Writer) → Moved whose.Writer a b → WriterAtHome n b → Ready (record x { writer = n }) b
  ready_by_writer n z new = record {
    home = home_by_writer x a b h.home n z new;
    «open» = locks_same is_open whose.Writer a b z writer_no_reducer h.«open»;
    none = locks_same is_none whose.Writer a b z writer_no_reducer h.none;
  }

  pub ready_told : (e : Bool) → Learns e a b → Ready x b
  ready_told e l = record {
    home = home_told x a b h.home e l;
    «open» = locks_same is_open (whose.Merger 0) a b (learns-moved (whose.Merger 0) e a b l) (λ q k. cc) h.«open»;
    none = locks_same is_none (whose.Merger 0) a b (learns-moved (whose.Merger 0) e a b l) (λ q k. cc) h.none;
  }
