-- Each step of a turn or call of a reducer, and of the writer's turn, meets the condition of its end, in a value that has the actor's ends.
use Rattle.std.proofs.Common.{◌≡◌, ℕ, ◌<◌, Bool, false, List, sym, subst, Some, None, Option}
use Rattle.hop_base.specs.declared.part.Part.{Part}
use Rattle.hop_event.specs.declared.event.Event.{Event}
use Rattle.hop_machine.specs.declared.words.Turn.{Turn}
use Rattle.hop_machine.specs.step.Steps.{Prog, Then, Risk, Done, Setup, CutSaid, Deeds}
use Rattle.hop_machine.specs.actors.ReducerTurns.{Reducer, Writer, reducer_turn, reads_off, take_pull, send_due, restart_if_due, finish, must_restart, writes, wrote, works, lane_after, writer_turn}
use Rattle.hop_machine.specs.home.Said.{history_of}
use Rattle.hop_machine.specs.home.ReducerHome.{IsSetup, MayPull, ReducerAtHome, NoneDue, WriterAtHome}
use Rattle.hop_machine.specs.home.Conditions.{Safe, HasReducer, HasWriter}
use Rattle.hop_machine.proofs.home.Asked.{Asked, IsAmong, asked-safe}
use Rattle.hop_machine.proofs.home.Here.{reducer_here, writer_here}
use Rattle.hop_machine.proofs.actors.OwnTurns.{all_reducer, all_reads_off, all_take, all_due, all_restart, all_finish, all_writer}
use Rattle.hop_machine.proofs.reducer.Safe.{reducer_asked}
use Rattle.hop_machine.proofs.reducer.SafeCalls.{reads_asked, pull_asked, finish_asked, restart_asked, due_asked}

module _ (parts : ℕ) (e : Bool) (r : Reducer) (a : Deeds) (set : IsSetup a.setup) (home : ReducerAtHome r a) (has : HasReducer r.number a) where
  abbrev Inside : ℕ → Type 0
  Inside w = w < r.setup.workers

  pub reducer_safe : NoneDue r.number a → Safe parts e (reducer_turn r) a
  reducer_safe none = asked-safe parts e (reducer_turn r) a
      (all_reducer (IsAmong a.ends) Inside r (reducer_here r a home.setup has) (subst (λ (s : Setup). r.next < s.workers) (sym home.setup) home.next))
      (reducer_asked parts e r a set home none)

  pub reads_safe : {A : Type 0} (f : List Event → A) → Safe parts e (reads_off r f) a
  reads_safe f = asked-safe parts e (reads_off r f) a (all_reads_off (IsAmong a.ends) Inside r (reducer_here r a home.setup has) f) (reads_asked parts e r a set home f)

  pub pull_safe : (part : Part) → MayPull r part a → Safe parts e (take_pull r part) a
  pull_safe part may = asked-safe parts e (take_pull r part) a (all_take (IsAmong a.ends) Inside r (reducer_here r a home.setup has) part) (pull_asked parts e r a set home part may)

  pub cuts_safe : Safe parts e (send_due r) a
  cuts_safe = asked-safe parts e (send_due r) a (all_due (IsAmong a.ends) Inside r (reducer_here r a home.setup has)) (due_asked parts e r a set home)

  pub restart_safe : Safe parts e (restart_if_due r) a
  restart_safe = asked-safe parts e (restart_if_due r) a (all_restart (IsAmong a.ends) Inside r (reducer_here r a home.setup has)) (restart_asked parts e r a set home)

  pub finish_safe : must_restart r.setup r.number (history_of a r.number) ≡ false → Safe parts e (finish r) a
  finish_safe none = asked-safe parts e (finish r) a (all_finish (IsAmong a.ends) Inside r (reducer_here r a home.setup has)) (finish_asked parts e r a set home none)

-- # The writer

module _ (parts : ℕ) (e : Bool) (x : Writer) where
  wrote_asked : (n p : ℕ) (found : Option CutSaid) (b : Deeds) → Asked parts e (writes x n (lane_after x.setup.reducers p)) b
      → Asked parts e (elim found as (λ _. Prog (Writer × Turn)) [ None ↦ writes x n (lane_after x.setup.reducers p) | Some c ↦ Then Risk (λ ok. Done (wrote x p c ok, works ok)) ]) b
  wrote_asked n p None b h = h
  wrote_asked n p (Some c) b h = (tt, λ ok d st. tt)

  writes_asked : (n p : ℕ) (a : Deeds) → Asked parts e (writes x n p) a
  writes_asked Rattle.std.specs.Prelude.zero p a = tt
  writes_asked (Rattle.std.specs.Prelude.suc n) p a = (tt, λ found b st. wrote_asked n p found b (writes_asked n (lane_after x.setup.reducers p) b))

  pub writer_safe : (a : Deeds) → WriterAtHome x a → HasWriter a → Safe parts e (writer_turn x) a
  writer_safe a home has = asked-safe parts e (writer_turn x) a
      (all_writer (IsAmong a.ends) (λ p. p < x.setup.reducers) x (writer_here x a home.setup has) (subst (λ (s : Setup). x.next < s.reducers) (sym home.setup) home.next))
      (writes_asked x.setup.reducers x.next a)
