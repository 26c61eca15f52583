-- Catching up a reducer.
use Rattle.std.proofs.Common.{◌≡◌, ℕ, ◌+◌, ◌<◌, Bool, true, false, List, [], ◌∷◌, length, refl, sym, ap, subst, cond, slice_set, Option, Some, None, Result, Ok, Err, is_ok, arith}
use Rattle.std.specs.Prelude.{IsErr, IfErr}
use Rattle.std.specs.List.{slice_get}
use Rattle.std.proofs.lemmas.Bool.{true≢false}
use Rattle.hop_machine.specs.declared.words.Turn.TheVariants as said
use Rattle.hop_machine.specs.step.Setup.{splits_of}
use Rattle.hop_machine.specs.step.Steps.{Done, and_then, Deeds, Runs}
use Rattle.hop_machine.specs.actors.MapperTurns.{Mapper}
use Rattle.hop_machine.specs.actors.ReducerTurns.{Reducer, Writer, restart_if_due}
use Rattle.hop_machine.specs.home.Conditions.{HasAll}
use Rattle.hop_machine.specs.play.Play.{Row, Order, Place, Went, CatchingUp, Halted, unless_spent, unless_halted, unless_restarted, is_caught_up, kept_rows, pull_row, pull_rows, catch_up}
use Rattle.hop_machine.specs.run.AllHome.{Ready}
use Rattle.hop_machine.proofs.step.Programs.{Runs-and_then, Runs-parted}
use Rattle.hop_machine.proofs.play.Going.{catches-up}
use Rattle.hop_machine.proofs.run.CatchingLaws.{now-ready, lag-begins}
use Rattle.hop_machine.proofs.step.Owners.{Runs-rightly, Runs-ends}
use Rattle.hop_machine.proofs.home.Here.{reducer_kept}
use Rattle.hop_actors.specs.declared.fault.Fault.{Fault}
use Rattle.hop_actors.specs.Acting.{said_fault}
use Rattle.hop_settle.specs.CaughtUp.{on_row, pull_each, MayCatch, MayCatchUp}
use Rattle.hop_settle.specs.Crews.{actors_of, world_of}
use Rattle.hop_settle.specs.Stops.{place_after}

-- # Row by row, and then it is caught up

-- what is left of a reducer behind its rows, and whether it went on
abbrev pub behind_rows : Option Bool → Reducer → Reducer × Bool
behind_rows None s = (s, false)
behind_rows (Some true) s = (s, true)
behind_rows (Some false) s = (is_caught_up s, true)

module _ (e : Bool) where
  goes : (t : Option Bool) (z : Reducer) (rows : List Row) (c b : Deeds) (y : Reducer × Option Bool) → Runs e (on_row t z (pull_each rows z)) c y b → (Runs e (pull_each rows z) c y b → Runs e (pull_rows rows z) c (behind_rows y.1 y.0) b)
      → Runs e (unless_restarted t z (pull_rows rows z)) c (behind_rows y.1 y.0) b
  goes None z rows c b y run more = (ap (λ (w : Reducer × Option Bool). behind_rows w.1 w.0) run.0, run.1)
  goes (Some true) z rows c b y run more = (ap (λ (w : Reducer × Option Bool). behind_rows w.1 w.0) run.0, run.1)
  goes (Some false) z rows c b y run more = more run

  pub rows-each : (rows : List Row) (r : Reducer) (a b : Deeds) (y : Reducer × Option Bool) → Runs e (pull_each rows r) a y b → Runs e (pull_rows rows r) a (behind_rows y.1 y.0) b
  rows-each [] r a b y run = (ap (λ (w : Reducer × Option Bool). behind_rows w.1 w.0) run.0, run.1)
  rows-each (k ∷ rows) r a b y run =
      let t = Runs-parted e (pull_row k r) (λ x. on_row x.1 x.0 (pull_each rows x.0)) a b y run in
      Runs-and_then e (pull_row k r) (λ x. unless_restarted x.1 x.0 (pull_rows rows x.0)) a t.mid b t.answer (behind_rows y.1 y.0) t.first
      (goes t.answer.1 t.answer.0 rows t.mid b y t.later (λ h. rows-each rows t.answer.0 t.mid b y h))

  module _ (rows : List Row) (r : Reducer) (lag : r.lagging ≡ true) (a m : Deeds) where
    pub catches : (b : Deeds) (x : Reducer × Option Bool) (y : Reducer × Bool) → Runs e (restart_if_due r) a x m → Runs e (unless_restarted x.1 x.0 (pull_rows rows x.0)) m y b → Runs e (catch_up rows r) a y b
    catches b x y run later =
        let P : Bool → Type 0 = λ t. Runs e (cond t (and_then (restart_if_due r) (λ x. unless_restarted x.1 x.0 (pull_rows rows x.0))) (Done (r, true))) a y b in
        subst P (sym lag) (Runs-and_then e (restart_if_due r) (λ x. unless_restarted x.1 x.0 (pull_rows rows x.0)) a m b x y run later)

  pub catch-begins : (ms : List Mapper) (p : ℕ) (r y : Reducer) (a b : Deeds) → MayCatchUp ms p r a → r.lagging ≡ true → Runs e (restart_if_due r) a (y, Some false) b → MayCatch ms p y b
  catch-begins ms p r y a b h lag run =
      let x = lag-begins e ms r y a b h.now lag h.mappers run in
      subst (λ (z : Reducer). MayCatch ms p z b) (sym x.0)
      (record { number = h.number; lags = x.1; ends = reducer_kept p a b (Runs-rightly e (restart_if_due r) a b (y, Some false) run).setup (Runs-ends e (restart_if_due r) a b (y, Some false) run) h.ends })

-- # At a place of the run

pub may-catch : (ms : List Mapper) (rs : List Reducer) (x : Writer) (p : ℕ) (r : Reducer) (d : Deeds) → Ready (actors_of ms rs x) d → HasAll d → p < length rs → slice_get rs p ≡ Some r → MayCatchUp ms p r d
may-catch ms rs x p r d home ends inside is = record {
  number = (home.home.reducer p r is).number;
  now = now-ready (actors_of ms rs x) p r d home is;
  mappers = home.home.mapper;
  ends = ends.reducer p (let n = home.home.reducers in omega (arith, inside, n));
}

pub not-ok : {A E : Type 0} (r : Result A E) → IsErr r → is_ok r ≡ false
not-ok (Ok x) h = absurd (true≢false (sym h))
not-ok (Err e) h = refl

-- a call that stopped halts the run
pub halts-at : {A : Type 0} (r : Result A Fault) (go : Place) → IsErr r → IfErr r (λ f. said_fault f ≡ said.Stopped) → place_after r go ≡ Halted
halts-at (Ok x) go h s = absurd (true≢false (sym h))
halts-at (Err f) go h s = ap (λ t. unless_spent t go) s

-- reducer p was caught up, or stopped
module _ (e : Bool) (ms ns : List Mapper) (rs ss : List Reducer) (x : Writer) (p : ℕ) (r y : Reducer) (a b : Deeds) (list : List Order) where
  pub caught-one : (ok : Bool) → ns ≡ ms → ss ≡ slice_set rs p y → slice_get rs p ≡ Some r → p < length rs → Runs e (catch_up (kept_rows ms a.setup.attempts 0 (splits_of a.setup)) r) a (y, ok) b
      → Went e (CatchingUp p list, world_of ms rs x a) (unless_halted (CatchingUp (p + 1) list) ok, world_of ns ss x b)
  caught-one ok same now is inside run =
      subst (λ (z : List Mapper × List Reducer). Went e (CatchingUp p list, world_of ms rs x a) (unless_halted (CatchingUp (p + 1) list) ok, world_of z.0 z.1 x b)) (λ i. (sym same i, sym now i))
      (catches-up e p list (world_of ms rs x a) r b (y, ok) is inside run)
