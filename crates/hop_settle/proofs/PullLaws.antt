-- A pull, call by call.
use Rattle.std.proofs.Common.{◌≡◌, ◌⊎◌, ℕ, ◌≤◌, ◌<◌, Bool, true, false, List, [], ◌∷◌, refl, sym, ap, ◌∙◌, subst, inl, inr, Option, Some, None, arith}
use Rattle.hop_base.specs.declared.part.Part.{Part}
use Rattle.hop_event.specs.Legal.{Rules}
use Rattle.hop_event.specs.declared.event.Event.TheVariants.{Arrive}
use Rattle.hop_event.specs.declared.event.Via.TheVariants.{Pull}
use Rattle.hop_machine.specs.step.Steps.{Prog, and_then, Ends, Deeds, Runs, rules_of}
use Rattle.hop_machine.specs.actors.MapperTurns.{Mapper}
use Rattle.hop_machine.specs.actors.ReducerTurns.{Reducer, marks_due, take_pull, send_due, restart_if_due}
use Rattle.hop_machine.specs.home.Said.{history_of}
use Rattle.hop_machine.specs.home.ReducerHome.{IsSetup, ReducerAtHome, NoneDue, MayPull, ReducerLeft, NothingRecorded}
use Rattle.hop_machine.specs.play.Play.{if_ok, pull, kept_by}
use Rattle.hop_machine.specs.run.Catches.{AreHome}
use Rattle.hop_machine.proofs.step.Programs.{Runs-and_then, risk_steps}
use Rattle.hop_machine.proofs.step.Owners.{Runs-rightly, Runs-ends}
use Rattle.hop_machine.proofs.home.Here.{reducer_kept}
use Rattle.hop_machine.proofs.reducer.Calls.{take_pull-left, send_due-left}
use Rattle.hop_actors.specs.Acting.{MayCall}
use Rattle.hop_settle.specs.Crews.{AreWell}
use Rattle.hop_settle.specs.Pulled.{MayAllFetch, MayPullAt, records_pull}

-- a reducer at home after a call may be called again
pub may-again : {A : Type 0} (e : Bool) (r y : Reducer) (k : Prog A) (z : A) (a b : Deeds) → MayCall r a → Runs e k a z b → y.number ≡ r.number → ReducerAtHome y b → MayCall y b
may-again e r y k z a b may run n home =
    let set = (Runs-rightly e k a b z run).setup in
    record { setup = subst IsSetup (sym set) may.setup; home = home; ends = subst (λ p. Rattle.hop_machine.specs.home.Conditions.HasReducer p b) (sym n) (reducer_kept r.number a b set (Runs-ends e k a b z run) may.ends) }

module _ (e : Bool) (r : Reducer) (a b : Deeds) (may : MayCall r a) where
  pub take-on : (part : Part) → MayPull r part a → Runs e (take_pull r part) a true b → MayCall r b
  take-on part pull run = may-again e r r (take_pull r part) true a b may run refl (of (take_pull-left e r a b may.setup may.home part true pull run))
    where
      of : ((true ≡ true) × ReducerLeft r r (Arrive part Pull ∷ history_of a r.number) (marks_due r.setup (Arrive part Pull ∷ history_of a r.number)) b) ⊎ ((true ≡ false) × NothingRecorded r a b) → ReducerAtHome r b
      of (inl x) = x.1.home
      of (inr x) = x.1.home

  pub cuts-on : Runs e (send_due r) a true b → MayCall r b × NoneDue r.number b
  cuts-on run = let left = send_due-left e r a b may.setup may.home true run in (may-again e r r (send_due r) true a b may run refl left.home, left.due)

-- # The pull

module _ (e : Bool) (part : Part) (r : Reducer) (a m : Deeds) where
  abbrev behind : Bool → Prog (Reducer × Option Bool)
  behind taken = if_ok taken r (and_then (send_due r) (λ sent. if_ok sent r (restart_if_due r)))

  pub pull-untaken : Runs e (take_pull r part) a false m → Runs e (records_pull part r) a (r, None) m
  pull-untaken run = Runs-and_then e (take_pull r part) behind a m m false (r, None) run (refl, refl)

  pub pull-unsent : (b : Deeds) → Runs e (take_pull r part) a true m → Runs e (send_due r) m false b → Runs e (records_pull part r) a (r, None) b
  pull-unsent b run sent = Runs-and_then e (take_pull r part) behind a m b true (r, None) run
      (Runs-and_then e (send_due r) (λ sent. if_ok sent r (restart_if_due r)) m b b false (r, None) sent (refl, refl))

  pub pull-sent : (n b : Deeds) (y : Reducer × Option Bool) → Runs e (take_pull r part) a true m → Runs e (send_due r) m true n → Runs e (restart_if_due r) n y b → Runs e (records_pull part r) a y b
  pull-sent n b y run sent last = Runs-and_then e (take_pull r part) behind a m b true y run
      (Runs-and_then e (send_due r) (λ sent. if_ok sent r (restart_if_due r)) m n b true y sent last)

-- behind a fetch, and without one
pub pull-fetched : (e : Bool) (part : Part) (r : Reducer) (a b : Deeds) (y : Reducer × Option Bool) → Runs e (records_pull part r) a y b → Runs e (pull part r) a y b
pull-fetched e part r a b y run = (true, a, risk_steps e true a, run)

pub pull-unfetched : (e : Bool) (part : Part) (r : Reducer) (a : Deeds) → Runs e (pull part r) a (r, None) a
pull-unfetched e part r a = (false, a, risk_steps e false a, (refl, refl))

-- # The fetch

module _ (ms : List Mapper) (r : Reducer) (part : Part) (d : Deeds) (p : ℕ) where
  -- the range of a pull is made of whole spills of each mapper that kept it to its end
  pub may-fetch : AreHome ms d → MayPullAt p part r d → part.to ≡ kept_by ms part.split part.attempt → MayAllFetch ms part
  may-fetch home may kept = record {
    number = λ w m g. (home w m g).number;
    may = λ w m g so.
        let rules : m.rules ≡ rules_of d.setup = (home w m g).home.fits.rules in
        let same : rules_of r.setup ≡ m.rules = ap rules_of may.call.home.setup ∙ sym rules in
        let range = may.pull.range in
        record {
          some = range.some;
          begins = subst (λ (k : Rules). Rattle.std.proofs.Common.◌%◌ part.from k.spill ≡ 0) same range.begins;
          ends = inr (sym so);
          within = omega (arith, so);
        };
  }

-- mappers are well over ends of the same board
pub well-over : {A M : Type 0} (failed : M → Bool) (fits : M → List ℕ → Type 0) (ms : List M) (e : Bool) (k : Prog A) (y : A) (a b : Deeds) → Runs e k a y b → AreWell failed fits a.ends.board ms → AreWell failed fits b.ends.board ms
well-over failed fits ms e k y a b run h = subst (λ (z : Ends). AreWell failed fits z.board ms) (sym (Runs-ends e k a b y run)) h
