-- The calls of a coordinator.
use Rattle.std.proofs.Common.{◌≡◌, ℕ, ◌<◌, Bool, true, false, List, ◌∷◌, length, Option, Some, None, refl, sym, ap, ◌∙◌, subst, if◌then◌else◌}
use Rattle.std.specs.Prelude.{slice_index}
use Rattle.hop_event.specs.declared.event.Event.{Event}
use Rattle.hop_event.specs.declared.event.Event.TheVariants.{Restart}
use Rattle.hop_event.specs.Legal.{IsWon, AllSettled}
use Rattle.hop_shelf.specs.Finish.{IsDone}
use Rattle.hop_shelf.specs.Journal.{JournalValue}
use Rattle.hop_shelf.specs.Sound.{ShelfValue}
use Rattle.hop_machine.specs.step.Steps.{Deeds, Prog, Then, Steps, Runs, Hold, GiveBack, Record, KeepEnd}
use Rattle.hop_machine.specs.actors.ReducerTurns.{Reducer, marks_due, records, gives_back, with_room, send_cuts, send_due, still_due, restarts, lags, must_restart, restart_if_due}
use Rattle.hop_machine.specs.home.Said.{history_of}
use Rattle.hop_machine.specs.home.Conditions.{Safe, May}
use Rattle.hop_machine.proofs.step.Programs.{Runs-and_then, risk_steps}
use Rattle.hop_inner.specs.Locks.{RecordsOne}
use Rattle.hop_inner.specs.Setups.{parts}
use Rattle.hop_inner.specs.Shelved.{value_of}
use Rattle.hop_actors.specs.Calls.{MayEnd}
use Rattle.hop_drain.specs.Drains.{records_last}
use Rattle.hop_drain.specs.Held.{IsHeld, IsAdded, with_due}
use Rattle.hop_drain.proofs.Safety.{safe_first, safe_after, held_on}
use Rattle.hop_drain.proofs.Cutting.{records_ran, sends_keep}

-- # One event, whose cuts are due

pub last_ran : (e : Bool) (r : Reducer) (s : ShelfValue) (q : ℕ) (a b : Deeds) → q ≡ r.number → IsAdded r.number s a → s.journal.due ≡ marks_due r.setup s.journal.events
    → ((ev : Event) → s.journal.events ≡ ev ∷ (a.did.keeps q).events → RecordsOne e q ev s.journal.due a b) → Runs e (records_last r s.journal.events true) a true b
last_ran e r s q a b here added due one =
    let before = (a.did.keeps r.number).events in
    let at_r = subst (λ k. (ev : Event) → s.journal.events ≡ ev ∷ (a.did.keeps k).events → RecordsOne e k ev s.journal.due a b) here one in
    let got = subst (λ d. RecordsOne e r.number added.event d a b) (due ∙ ap (marks_due r.setup) added.events) (at_r added.event added.events) in
    subst (λ z. Runs e (records_last r z true) a true b) (sym added.events) (records_ran e r added.event (marks_due r.setup (added.event ∷ before)) true a b got)

-- the value is held, and there is room for one event or it is given back
abbrev pub one_event : Reducer → Event → Prog Bool
one_event r ev = Then (Hold r.number) (λ v. with_room r v.due false (records r ev (marks_due r.setup (ev ∷ v.events)) true))

module _ (e : Bool) (r : Reducer) (ev : Event) (s : ShelfValue) (a m : Deeds) (st : Steps e (Hold r.number) (value_of s) a m) where
  pub one_safe : (now : JournalValue) → now.events ≡ ev ∷ s.journal.events → Safe parts e (one_event r ev) a → Safe parts e (records_last r now.events true) m
  one_safe now is safe =
      let there : Safe parts e (records_last r (ev ∷ s.journal.events) true) m = (safe.1 (value_of s) m st).1 true m (risk_steps e true m) in
      subst (λ z. Safe parts e (records_last r z true) m) (sym is) there

  pub one_may : Safe parts e (one_event r ev) a → May parts (Record r.number ev) m
  one_may safe = ((safe.1 (value_of s) m st).1 true m (risk_steps e true m)).0

  pub one_ran : (now : JournalValue) (b : Deeds) → now.events ≡ ev ∷ s.journal.events → Runs e (records_last r now.events true) m true b → Runs e (one_event r ev) a true b
  one_ran now b is ran =
      let there : Runs e (records_last r (ev ∷ s.journal.events) true) m true b = subst (λ z. Runs e (records_last r z true) m true b) is ran in
      (value_of s, m, st, (true, m, risk_steps e true m, there))

  pub one_not : (b : Deeds) (due : List ℕ) → due ≡ s.journal.due → Steps e (GiveBack r.number due) tt m b → Runs e (one_event r ev) a false b
  one_not b due is give = (value_of s, m, st, (false, m, risk_steps e false m, (tt, b, subst (λ d. Steps e (GiveBack r.number d) tt m b) is give, (refl, refl))))

pub done_here : (r : Reducer) (j : JournalValue) (begun : List ℕ) (a : Deeds) (i : ℕ) → r.setup.lens ≡ j.lens → history_of a r.number ≡ j.events → MayEnd r begun a → i < length j.lens → IsDone j begun i
done_here r j begun a i lens events ends l =
    let at_r : i < length r.setup.lens = subst (λ n. i < length n) (sym lens) l in
    record {
      won = let P : (List ℕ) × (List Event) → Type 0 = λ z. IsWon z.0 z.1 i in subst P (λ k. (lens k, events k)) (ends.done.won i at_r);
      settled = subst (λ h. AllSettled h i (slice_index begun i)) events (ends.done.settled i at_r);
    }

-- # The cuts that are due

module _ (e : Bool) (r : Reducer) (s : ShelfValue) (a m : Deeds) (st : Steps e (Hold r.number) (value_of s) a m) where
  module _ (safe : Safe parts e (send_due r) a) where
    pub due_safe : Safe parts e (send_cuts r s.journal.events s.journal.due) m
    due_safe = safe_first parts e (send_cuts r s.journal.events s.journal.due) (λ ok. gives_back r (still_due ok s.journal.due) ok) m (safe.1 (value_of s) m st)

    pub due_end : (ok : Bool) (n : Deeds) → Runs e (send_cuts r s.journal.events s.journal.due) m ok n → n.ends.has (KeepEnd r.number) ≡ true
    due_end ok n ran = (safe_after parts e (send_cuts r s.journal.events s.journal.due) (λ ok. gives_back r (still_due ok s.journal.due) ok) m n ok (safe.1 (value_of s) m st) ran).0.here

  pub due_held : (ok : Bool) (now : ShelfValue) (n : Deeds) → IsHeld r.number s m → Runs e (send_cuts r s.journal.events s.journal.due) m ok n → now ≡ with_due (still_due ok s.journal.due) s → IsHeld r.number now n
  due_held ok now n held ran is =
      let old = held_on r.number s m n (sends_keep e r s.journal.events s.journal.due ok m n ran) held in
      record { number = (λ i. (is i).p) ∙ old.number; held = old.held; events = (λ i. (is i).journal.events) ∙ old.events }

  pub due_ran : (ok : Bool) (now : ShelfValue) (n b : Deeds) → Runs e (send_cuts r s.journal.events s.journal.due) m ok n → now ≡ with_due (still_due ok s.journal.due) s → Steps e (GiveBack r.number now.journal.due) tt n b → Runs e (send_due r) a ok b
  due_ran ok now n b ran is give =
      let give_now : Steps e (GiveBack r.number (still_due ok s.journal.due)) tt n b = subst (λ d. Steps e (GiveBack r.number d) tt n b) (λ i. (is i).journal.due) give in
      (value_of s, m, st, Runs-and_then e (send_cuts r s.journal.events s.journal.due) (λ ok. gives_back r (still_due ok s.journal.due) ok) m n b ok ok ran (tt, b, give_now, (refl, refl)))

-- # The restart that is due

module _ (e : Bool) (r : Reducer) (s : ShelfValue) (a m : Deeds) (st : Steps e (Hold r.number) (value_of s) a m) (must : must_restart r.setup r.number s.journal.events ≡ true) where
  abbrev Either : Bool → Prog (Reducer × Option Bool)
  Either b = if b then with_room r s.journal.due (r, None) (restarts r s.journal.events (lags r, Some true)) else gives_back r s.journal.due (r, Some false)

  pub restart_may : Safe parts e (restart_if_due r) a → May parts (Record r.number Restart) m
  restart_may safe = let there : Safe parts e (Either true) m = subst (λ b. Safe parts e (Either b) m) must (safe.1 (value_of s) m st) in (there.1 true m (risk_steps e true m)).0

  pub restarted : (y : Reducer) (b : Deeds) → (let x : Reducer × Option Bool = (y, Some true) in let z : Reducer × Option Bool = (lags r, Some true) in Runs e (restarts r s.journal.events z) m x b)
      → let x : Reducer × Option Bool = (y, Some true) in Runs e (restart_if_due r) a x b
  restarted y b ran =
      let x : Reducer × Option Bool = (y, Some true) in
      let there : Runs e (Either true) m x b = (true, m, risk_steps e true m, ran) in
      (value_of s, m, st, subst (λ k. Runs e (Either k) m x b) (sym must) there)

  pub not_restarted : (y : Reducer) (b : Deeds) (due : List ℕ) → y ≡ r → due ≡ s.journal.due → Steps e (GiveBack r.number due) tt m b → let x : Reducer × Option Bool = (y, None) in Runs e (restart_if_due r) a x b
  not_restarted y b due same is give =
      let x : Reducer × Option Bool = (y, None) in
      let there : Runs e (Either true) m x b = (false, m, risk_steps e false m, (tt, b, subst (λ d. Steps e (GiveBack r.number d) tt m b) is give, ((λ i. (same i, None)), refl))) in
      (value_of s, m, st, subst (λ k. Runs e (Either k) m x b) (sym must) there)
