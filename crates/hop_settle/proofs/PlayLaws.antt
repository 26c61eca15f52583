-- The turns of a turn list.
use Rattle.std.proofs.Common.{◌≡◌, ⊎_elim, ℕ, suc, ◌+◌, ◌-◌, ◌≤◌, ◌<◌, Bool, List, ◌∷◌, length, refl, sym, ap, ◌∙◌, subst, slice_set, get_or, drop, drop-cons, add-one, Some, Result, Ok, Err, arith}
use Rattle.hop_base.specs.Meaning.{Meaning}
use Rattle.hop_base.specs.Run.{ScriptLines, RunSettings}
use Rattle.hop_script.specs.declared.turn.Turn.{Turn as Line}
use Rattle.std.proofs.lemmas.List.Sums.{sum_by-drop_more}
use Rattle.hop_script.specs.TurnLines.{turn_count}
use Rattle.std.specs.Prelude.{OnOk, IfErr}
use Rattle.std.specs.List.{slice_get}
use Rattle.hop_machine.specs.declared.words.Turn.{Turn as Said}
use Rattle.hop_machine.specs.step.Steps.{Done, Ends, Deeds, Runs}
use Rattle.hop_machine.specs.actors.MapperTurns.{Mapper}
use Rattle.hop_machine.specs.actors.ReducerTurns.{Reducer, Writer, send_due}
use Rattle.hop_machine.specs.home.Conditions.{HasReducer, HasAll}
use Rattle.hop_machine.specs.play.Play.{Order, Actors, Place, World, Went, Opening, Learns, unless_halted}
use Rattle.hop_machine.specs.run.AllHome.{Opens}
use Rattle.hop_machine.proofs.step.Programs.{Runs-and_then}
use Rattle.hop_machine.proofs.play.Plays.{went_both}
use Rattle.hop_machine.proofs.play.Going.{opens}
use Rattle.hop_machine.proofs.settling.Passes.{get_set}
use Rattle.hop_actors.specs.declared.fault.Fault.{Fault}
use Rattle.hop_actors.specs.declared.fault.Fault.TheVariants as fault
use Rattle.hop_actors.specs.Acting.{Acting, Merges, Turned, MayCall}
use Rattle.hop_actors.specs.Counting.{Counts, MemoryCause, TurnCause}
use Rattle.hop_actors.specs.declared.turn.Turn.{Turn}
use Rattle.hop_actors.specs.declared.turn.Turn.TheVariants as answer
use Rattle.hop_settle.specs.Crews.{AreWell, TurnsBelow, world_of}
use Rattle.hop_settle.specs.Playing.{AreMergers, EndsAt, WentOn, order_of, orders_of, repeated}
use Rattle.hop_settle.specs.Stops.{place_after}

-- # The first cuts

pub may-open : (p : ℕ) (x : Actors) (d : Deeds) (r : Reducer) → Opens p x d → HasAll d → p < length x.reducers → slice_get x.reducers p ≡ Some r → MayCall r d
may-open p x d r h ends l is =
    let k = h.home.reducer p r is in
    record { setup = h.home.set; home = k.home; ends = subst (λ n. HasReducer n d) (sym k.number) (ends.reducer p (let n = h.home.reducers in omega (arith, l, n))) }

pub opened-one : (e : Bool) (ms : List Mapper) (rs ss : List Reducer) (x : Writer) (p : ℕ) (r y : Reducer) (a b : Deeds) (list : List Order) (ok : Bool) → y ≡ r → ss ≡ slice_set rs p y → slice_get rs p ≡ Some r → p < length rs → Runs e (send_due r) a ok b
    → Went e (Opening p list, world_of ms rs x a) (unless_halted (Opening (p + 1) list) ok, world_of ms ss x b)
opened-one e ms rs ss x p r y a b list ok same now is inside run =
    subst (λ (z : List Reducer). Went e (Opening p list, world_of ms rs x a) (unless_halted (Opening (p + 1) list) ok, world_of ms z x b)) (sym (now ∙ ap (slice_set rs p) same))
    (opens e p list (world_of ms rs x a) r b ok is inside (Runs-and_then e (send_due r) (λ ok. Done (r, ok)) a b b ok (r, ok) run (refl, refl)))

-- # Mergers

-- a merger's turn is no step
pub merged : (e : Bool) (x y : Acting) (a b : Deeds) (t : Said) → x ≡ Merges → Turned e x a y t b → (y ≡ Merges) × Learns e a b × (b.ends ≡ a.ends)
merged e x y a b t is h = subst (λ (z : Acting). Turned e z a y t b) is h

pub mergers-set : {G : Type 0} (acting : G → Acting) (gs : List G) (j : ℕ) (y : G) → AreMergers acting gs → acting y ≡ Merges → AreMergers acting (slice_set gs j y)
mergers-set acting gs j y all is k x g =
    ⊎_elim (λ (s : (k ≡ j) × (y ≡ x)). ap acting (sym s.1) ∙ is) (λ (s : slice_get gs k ≡ Some x). all k x s) (get_set gs j k y x g)

pub memory-only : (a b : Counts) (f : Fault) → MemoryCause a b f → f ≡ fault.NoMemory
memory-only a b (fault.SpentAt split) h = absurd h
memory-only a b fault.FolderFailed h = absurd h
memory-only a b (fault.SpillFailed worker) h = absurd h
memory-only a b (fault.SpillDamaged worker at kept found) h = absurd h
memory-only a b (fault.SpillCollides worker at place) h = absurd h
memory-only a b fault.NoMemory h = refl

-- # Turns

pub turns-more : (n m : ℕ) (ms : List Mapper) → n ≤ m → TurnsBelow n ms → TurnsBelow m ms
turns-more n m ms l h k x g = let y = h k x g in omega (arith, l, y)

-- one turn of a line, and those behind it
pub repeated-next : (o : Order) (later : List Order) (n i : ℕ) → i < n → repeated (n - i) o later ≡ o ∷ repeated (n - (i + 1)) o later
repeated-next o later n i l = let e : n - i ≡ suc (n - (i + 1)) = omega (arith, l) in ap (λ k. repeated k o later) e

pub repeated-over : (o : Order) (later : List Order) (n i : ℕ) → n ≤ i → repeated (n - i) o later ≡ later
repeated-over o later n i l = let e : n - i ≡ 0 = omega (arith, l) in ap (λ k. repeated k o later) e

pub merger-memory : (job : Meaning) (records : List (List ℕ)) (script : ScriptLines) (settings : RunSettings) (x : Acting) (a b : Counts) (t : Turn) (f : Fault) → x ≡ Merges → t ≡ answer.Failed f → TurnCause job records script settings x a b t → f ≡ fault.NoMemory
merger-memory job records script settings x a b t f is so h = memory-only a b f (subst (λ (z : Acting × Turn). TurnCause job records script settings z.0 a b z.1) (λ i. (is i, so i)) h)

-- # Where the run goes on, or a fault ended it

pub ends-so : (f : Fault) (go : Place) → EndsAt f (place_after {A = Unit {0}} (Err f) go)
ends-so (fault.SpentAt split) go = refl
ends-so fault.FolderFailed go = refl
ends-so (fault.SpillFailed worker) go = refl
ends-so (fault.SpillDamaged worker at kept found) go = refl
ends-so (fault.SpillCollides worker at place) go = refl
ends-so fault.NoMemory go = tt

module _ (e : Bool) (a : Place × World) (w : World) where
  pub went-on : (r : Result (Unit {0}) Fault) (go : Place) → Went e a (place_after r go, w) → WentOn e a r go w
  went-on (Ok x) go h = h
  went-on (Err f) go h = (place_after {A = Unit {0}} (Err f) go, h, ends-so f go)

  -- a merger's turn leaves it where it goes on, whether memory was there or not
  pub went-merging : (r : Result (Unit {0}) Fault) (go : Place) → IfErr r (λ f. f ≡ fault.NoMemory) → Went e a (go, w) → WentOn e a r go w
  went-merging (Ok x) go memory h = h
  went-merging (Err f) go memory h = (go, h, subst (λ z. EndsAt z go) (sym memory) tt)

  pub went-then : (b : Place × World) (r : Result (Unit {0}) Fault) (go : Place) → Went e a b → WentOn e b r go w → WentOn e a r go w
  went-then b (Ok x) go h k = went_both e a b (go, w) h k
  went-then b (Err f) go h k = (k.0, went_both e a b (k.0, w) h k.1, k.2)

  pub went-fault : (r : Result (Unit {0}) Fault) (f : Fault) (go other : Place) → Err f ≡ r → WentOn e a (Err f) go w → WentOn e a r other w
  went-fault r f go other is h = subst (λ z. WentOn e a z other w) is h

pub ok-any : {A E : Type 0} (r : Result A E) (P : Type 0) → P → OnOk r P
ok-any (Ok x) P h = h
ok-any (Err e) P h = tt

pub well-kept : {M : Type 0} (failed : M → Bool) (fits : M → List ℕ → Type 0) (ms : List M) (a b : Deeds) → b.ends ≡ a.ends → AreWell failed fits a.ends.board ms → AreWell failed fits b.ends.board ms
well-kept failed fits ms a b same h = subst (λ (z : Ends). AreWell failed fits z.board ms) (sym same) h

-- # The lines

-- the next line, and those behind it
pub line-next : (items : List Line) (k : ℕ) (d : Line) → k < length items → drop k items ≡ get_or items k d ∷ drop (k + 1) items
line-next items k d l = rw (add-one, drop-cons items k d)

pub count-next : (items : List Line) (k : ℕ) (d : Line) → k < length items → turn_count (drop k items) ≡ (get_or items k d).count + turn_count (drop (k + 1) items)
count-next items k d l = sum_by-drop_more (λ (t : Line). t.count) items k d l

pub orders-next : (items : List Line) (k : ℕ) (d : Line) → k < length items → orders_of (drop k items) ≡ repeated (get_or items k d).count (order_of (get_or items k d).actor) (orders_of (drop (k + 1) items))
orders-next items k d l = ap orders_of (line-next items k d l)
