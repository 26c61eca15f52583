-- Each step of a coordinator's call for a reducer at home has what it asks for at its end.
use Rattle.std.proofs.Common.{◌≡◌, ◌⊎◌, ℕ, ◌+◌, ◌≤◌, Bool, true, false, if◌then◌else◌, List, [], ◌∷◌, refl, sym, ap, ◌∙◌, subst, Option, Some, None, inl, inr, map, length, length-append, arith}
use Rattle.std.proofs.lemmas.List.{length-map}
use Rattle.hop_base.specs.declared.part.Part.{Part}
use Rattle.hop_event.specs.declared.event.Event.{Event}
use Rattle.hop_event.specs.declared.event.Event.TheVariants as events
use Rattle.hop_event.specs.declared.event.Via.TheVariants as via
use Rattle.hop_event.specs.Legal.{Follows}
use Rattle.hop_machine.specs.step.Setup.{Setup, rules_of}
use Rattle.hop_machine.specs.step.Steps.{Hold, Risk, Value, and_then, Deeds, Steps}
use Rattle.hop_machine.specs.actors.ReducerTurns.{Reducer, cut_after, marks_due, must_restart, records, gives_back, with_room, restarts, lags, send_cuts, still_due, reads_off, take_pull, send_due, restart_if_due, finish}
use Rattle.hop_machine.specs.home.Said.{history_of}
use Rattle.hop_machine.specs.home.ReducerHome.{IsSetup, CutsSent, MayPull, ReducerAtHome}
use Rattle.hop_machine.proofs.home.Asked.{Asked}
use Rattle.hop_machine.proofs.mapper.SafeLanes.{Safe-and_then, safe_if}
use Rattle.hop_machine.proofs.reducer.CutLaws.{cuts_few}
use Rattle.hop_machine.proofs.reducer.Seen.{Seen, seen, Goes, goes_both, goes_by, seen-hold}
use Rattle.hop_machine.proofs.reducer.Holding.{goes_on}
use Rattle.hop_machine.proofs.reducer.TurnHome.{sound_of}
use Rattle.hop_machine.proofs.reducer.CallsHome.{value_of}
use Rattle.hop_machine.proofs.reducer.PullsHome.{pull_adds}
use Rattle.hop_machine.proofs.reducer.Reading.{know}
use Rattle.hop_machine.proofs.reducer.Safe.{back-safe, record-safe, sends-safe}

module _ (parts : ℕ) (e : Bool) (r : Reducer) (a : Deeds) (set : IsSetup a.setup) (home : ReducerAtHome r a) where
  abbrev x : Seen
  x = seen r.number a.did

  abbrev held : Seen
  held = record x { held = true }

  now_held : (v : Value) (m : Deeds) → Steps e (Hold r.number) v a m → Goes r.number held a m
  now_held v m st = goes_on e r.number (Hold r.number) v (λ z. record z { held = true }) x a m st (seen-hold r.number a.did v) refl

  value_is : (v : Value) (m : Deeds) → Steps e (Hold r.number) v a m → v ≡ value_of x
  value_is v m st = let t = st.tells in λ i. record { events = t.events i; due = t.due i }

  -- what may come after the history that was found may come after the history as it is
  legal_there : (ev : Event) → Follows (rules_of r.setup) r.number (λ i. r.setup.attempts) x.events ev → (b : Deeds) → Goes r.number held a b → Follows (rules_of b.setup) r.number (λ i. b.setup.attempts) (history_of b r.number) ev
  legal_there ev l b g = subst (λ (u : Setup × List Event). Follows (rules_of u.0) r.number (λ i. u.0.attempts) u.1 ev) (λ t. (sym (g.setup ∙ sym home.setup) t, sym (ap (λ (v : Seen). v.events) g.seen) t)) l

  roomed : {A : Type 0} (ev : Event) (stopped y : A) (due new : List ℕ) → Follows (rules_of r.setup) r.number (λ i. r.setup.attempts) x.events ev → (m : Deeds) → Goes r.number held a m → Asked parts e (with_room r due stopped (records r ev new y)) m
  roomed ev stopped y due new l m g = (
    tt,
    λ ok b st.
        let h = goes_both r.number held held a m b g (goes_by e r.number Risk ok held m b st g.seen) in
        safe_if parts e ok _ _ b (λ _. record-safe parts e r ev new y b (legal_there ev l b h)) (λ _. back-safe parts e r due stopped b),
  )

  pub reads_asked : {A : Type 0} (f : List Event → A) → Asked parts e (reads_off r f) a
  reads_asked f = (tt, λ v m st. back-safe parts e r v.due (f v.events) m)

  pub pull_asked : (part : Part) → MayPull r part a → Asked parts e (take_pull r part) a
  pull_asked part may = (tt, λ v m st. roomed (events.Arrive part via.Pull) false true v.due (marks_due r.setup (events.Arrive part via.Pull ∷ v.events)) (pull_adds r part a home may (know r a)).legal m (now_held v m st))

  pub finish_asked : must_restart r.setup r.number x.events ≡ false → Asked parts e (finish r) a
  finish_asked none = (tt, λ v m st. roomed events.Finish false true v.due (marks_due r.setup (events.Finish ∷ v.events)) (record { restarts = sym none; rule = tt }) m (now_held v m st))

  restart_by : (v : Value) (m : Deeds) → Goes r.number held a m → (t : Bool) → must_restart r.setup r.number x.events ≡ t
      → Asked {A = Reducer × Option Bool} parts e (if t then with_room r v.due (r, None) (restarts r v.events (lags r, Some true)) else gives_back r v.due (r, Some false)) m
  restart_by v m g true due = roomed {A = Reducer × Option Bool} events.Restart (r, None) (lags r, Some true) v.due (marks_due r.setup (events.Restart ∷ v.events)) (record { restarts = sym due; rule = tt }) m g
  restart_by v m g false due = back-safe parts e r {A = Reducer × Option Bool} v.due (r, Some false) m

  pub restart_asked : Asked parts e (restart_if_due r) a
  restart_asked = (
    tt,
    λ v m st. restart_by v m (now_held v m st) (must_restart r.setup r.number v.events) (ap (λ (u : Value). must_restart r.setup r.number u.events) (sym (value_is v m st))),
  )

  -- # The cuts that are due

  few : length x.sent + length x.due ≤ 16
  few =
      let s : IsSetup r.setup = subst IsSetup (sym home.setup) set in
      let f = cuts_few r.setup x.events s.marks.few in
      let n = sym (ap length (sound_of r a home).cuts.sent_are) ∙ length-append x.sent (map (cut_after r.setup x.events) x.due) in
      let m = length-map x.due (cut_after r.setup x.events) in
      omega (arith, f, n, m)

  sends_asked : (m : Deeds) → Goes r.number held a m → Asked parts e (send_cuts r x.events x.due) m
  sends_asked m g = of (sound_of r a home).cuts.due_are
    where
      of : (x.due ≡ []) ⊎ (x.due ≡ marks_due r.setup x.events) → Asked parts e (send_cuts r x.events x.due) m
      of (inl none) = subst (λ ms. Asked parts e (send_cuts r x.events ms) m) (sym none) (tt, λ ok b st. safe_if parts e ok _ _ b (λ _. tt) (λ _. tt))
      of (inr all) = subst (λ ms. Asked parts e (send_cuts r x.events ms) m) (sym all)
          (sends-safe parts e r x.events x.sent (subst IsSetup (sym home.setup) set) (subst (λ ms. CutsSent r.setup x.events ms x.sent) all (sound_of r a home).cuts) m (g.setup ∙ sym home.setup) (ap (λ (v : Seen). v.sent) g.seen)
          (subst (λ (ms : List ℕ). length x.sent + length ms ≤ 16) all few))

  pub due_asked : Asked parts e (send_due r) a
  due_asked = (
    tt,
    λ v m st. subst (λ (u : Value). Asked parts e (and_then (send_cuts r u.events u.due) (λ ok. gives_back r (still_due ok u.due) ok)) m) (sym (value_is v m st))
        (Safe-and_then parts e (send_cuts r x.events x.due) (λ ok. gives_back r (still_due ok x.due) ok) m (sends_asked m (now_held v m st)) (λ ok b run. back-safe parts e r (still_due ok x.due) ok b)),
  )
