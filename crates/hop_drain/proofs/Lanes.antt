-- The lanes in turn, and what a turn begins with.
use Rattle.std.proofs.Common.{◌≡◌, ℕ, zero, suc, ◌-◌, ◌<◌, ◌≤◌, Bool, true, false, List, [], Some, None, refl, sym, ap, ◌∙◌, subst, arith, if◌then◌else◌}
use Rattle.hop_base.specs.Run.{restarts_of}
use Rattle.hop_event.specs.declared.event.Event.{Event}
use Rattle.hop_event.specs.Legal.{restart_due}
use Rattle.hop_shelf.specs.Sound.{ShelfValue}
use Rattle.hop_machine.specs.declared.words.Turn.{Turn}
use Rattle.hop_machine.specs.declared.words.Turn.TheVariants.{Idle}
use Rattle.hop_machine.specs.declared.words.Message.{Message}
use Rattle.hop_machine.specs.step.Steps.{Setup, Value, Deeds, Prog, Then, Steps, Runs, Take, Hold, TryHold, GiveBack}
use Rattle.hop_machine.specs.actors.ReducerTurns.{Reducer, looks, reads, lane_after, must_restart, holds, tries, reducer_turn}
use Rattle.hop_machine.specs.home.Conditions.{Safe, May}
use Rattle.hop_machine.proofs.step.Told.{at1-here}
use Rattle.hop_inner.specs.Setups.{parts}
use Rattle.hop_inner.specs.Shelved.{value_of}
use Rattle.hop_drain.specs.Drains.{served}
use Rattle.hop_drain.specs.Held.{IsHeld}
use Rattle.hop_drain.proofs.Growing.{IsOfSetup}

module _ (e : Bool) (r : Reducer) (h : List Event) where
  pub looks_may : (left w : ℕ) (a : Deeds) → 0 < left → Safe parts e (looks r h left w) a → May parts (Take w r.number) a
  looks_may zero w a l safe = absurd (omega arith)
  looks_may (suc n) w a l safe = safe.0

  pub some_safe : (left w : ℕ) (m : Message) (a b : Deeds) → 0 < left → Steps e (Take w r.number) (Some m) a b → Safe parts e (looks r h left w) a → Safe parts e (reads (served r w) w h m) b
  some_safe zero w m a b l st safe = absurd (omega arith)
  some_safe (suc n) w m a b l st safe = safe.1 (Some m) b st

  pub none_safe : (left w : ℕ) (a b : Deeds) → 0 < left → Steps e (Take w r.number) None a b → Safe parts e (looks r h left w) a → Safe parts e (looks r h (left - 1) (lane_after r.setup.workers w)) b
  none_safe zero w a b l st safe = absurd (omega arith)
  none_safe (suc n) w a b l st safe = let same : n ≡ suc n - 1 = omega arith in subst (λ k. Safe parts e (looks r h k (lane_after r.setup.workers w)) b) same (safe.1 None b st)

  pub some_ran : (left w : ℕ) (m : Message) (a b d : Deeds) (x : Reducer × Turn) → 0 < left → Steps e (Take w r.number) (Some m) a b → Runs e (reads (served r w) w h m) b x d → Runs e (looks r h left w) a x d
  some_ran zero w m a b d x l st ran = absurd (omega arith)
  some_ran (suc n) w m a b d x l st ran = (Some m, b, st, ran)

  pub none_ran : (left w : ℕ) (a b d : Deeds) (x : Reducer × Turn) → 0 < left → Steps e (Take w r.number) None a b → Runs e (looks r h (left - 1) (lane_after r.setup.workers w)) b x d → Runs e (looks r h left w) a x d
  none_ran zero w a b d x l st ran = absurd (omega arith)
  none_ran (suc n) w a b d x l st ran = let same : suc n - 1 ≡ n = omega arith in (None, b, st, subst (λ k. Runs e (looks r h k (lane_after r.setup.workers w)) b x d) same ran)

  pub over_safe : (left w : ℕ) (a : Deeds) → left ≤ 0 → Safe parts e (looks r h left w) a → May parts (GiveBack r.number []) a
  over_safe zero w a l safe = safe.0
  over_safe (suc n) w a l safe = absurd (omega arith)

  pub over_ran : (left w : ℕ) (a b : Deeds) → left ≤ 0 → Steps e (GiveBack r.number []) tt a b → let x : Reducer × Turn = (r, Idle) in Runs e (looks r h left w) a x b
  over_ran zero w a b l st = (tt, b, st, (refl, refl))
  over_ran (suc n) w a b l st = absurd (omega arith)

-- whether a restart is due is what the shelf says
pub must_is : (st : Setup) (r : Reducer) (s : ShelfValue) → r.setup ≡ st → s.p ≡ r.number → IsOfSetup st s → restart_due s.journal.restarts s.journal.events ≡ must_restart r.setup r.number s.journal.events
must_is st r s setup number of = ap (λ x. restart_due x s.journal.events) of.restarts ∙ (λ i. restart_due (restarts_of (sym setup i).script (number i)) s.journal.events)

-- # Holding

pub hold_held : (e : Bool) (p : ℕ) (s : ShelfValue) (a m : Deeds) → Steps e (Hold p) (value_of s) a m → s.p ≡ p → IsHeld p s m
hold_held e p s a m st number =
    let here : m.did.keeps p ≡ record (a.did.keeps p) { held = true } = (λ i. (st.did i).keeps p) ∙ at1-here a.did.keeps p (record (a.did.keeps p) { held = true }) in
    record { number = number; held = λ i. (here i).held; events = st.tells.events ∙ sym (λ i. (here i).events) }

pub try_held : (e : Bool) (p : ℕ) (s : ShelfValue) (a m : Deeds) → Steps e (TryHold p) (Some (value_of s)) a m → s.p ≡ p → IsHeld p s m
try_held e p s a m st number =
    let here : m.did.keeps p ≡ record (a.did.keeps p) { held = true } = (λ i. (st.did i).keeps p) ∙ at1-here a.did.keeps p (record (a.did.keeps p) { held = true }) in
    record { number = number; held = λ i. (here i).held; events = st.tells.events ∙ sym (λ i. (here i).events) }

-- # The two ways to begin

module _ (e : Bool) (r : Reducer) where
  abbrev Begins : Bool → Prog (Reducer × Turn)
  Begins late = if late then Then (Hold r.number) (λ v. holds r v) else Then (TryHold r.number) (λ o. tries r o)

  pub late_safe : r.late ≡ true → (v : Value) (a m : Deeds) → Safe parts e (reducer_turn r) a → Steps e (Hold r.number) v a m → Safe parts e (holds r v) m
  late_safe late v a m safe st = let now : Safe parts e (Begins true) a = subst (λ b. Safe parts e (Begins b) a) late safe in now.1 v m st

  pub late_ran : r.late ≡ true → (v : Value) (a m b : Deeds) (x : Reducer × Turn) → Steps e (Hold r.number) v a m → Runs e (holds r v) m x b → Runs e (reducer_turn r) a x b
  late_ran late v a m b x st ran = let now : Runs e (Begins true) a x b = (v, m, st, ran) in subst (λ l. Runs e (Begins l) a x b) (sym late) now

  pub soon_may : r.late ≡ false → (a : Deeds) → Safe parts e (reducer_turn r) a → May parts (TryHold r.number) a
  soon_may late a safe = let now : Safe parts e (Begins false) a = subst (λ b. Safe parts e (Begins b) a) late safe in now.0

  pub soon_safe : r.late ≡ false → (v : Value) (a m : Deeds) → Safe parts e (reducer_turn r) a → Steps e (TryHold r.number) (Some v) a m → Safe parts e (holds r v) m
  soon_safe late v a m safe st = let now : Safe parts e (Begins false) a = subst (λ b. Safe parts e (Begins b) a) late safe in now.1 (Some v) m st

  pub soon_ran : r.late ≡ false → (v : Value) (a m b : Deeds) (x : Reducer × Turn) → Steps e (TryHold r.number) (Some v) a m → Runs e (holds r v) m x b → Runs e (reducer_turn r) a x b
  soon_ran late v a m b x st ran = let now : Runs e (Begins false) a x b = (Some v, m, st, ran) in subst (λ l. Runs e (Begins l) a x b) (sym late) now

  pub busy_ran : r.late ≡ false → (a m : Deeds) → Steps e (TryHold r.number) None a m → let x : Reducer × Turn = (r, Idle) in Runs e (reducer_turn r) a x m
  busy_ran late a m st = let x : Reducer × Turn = (r, Idle) in let now : Runs e (Begins false) a x m = (None, m, st, (refl, refl)) in subst (λ l. Runs e (Begins l) a x m) (sym late) now
