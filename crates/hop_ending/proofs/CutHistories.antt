-- Where a run came to its end, the cuts that were sent, taken and put are those of the finished histories.
use Rattle.std.proofs.Common.{◌≡◌, ◌≢◌, ℕ, ◌≤◌, ◌<◌, Bool, true, List, [], ◌∷◌, ◌++◌, append-nil, map, refl, sym, ap, ◌∙◌, subst, inr, ⊎_elim, Option, Some, None, arith}
use Rattle.std.specs.List.{slice_get}
use Rattle.hop_event.specs.declared.event.Event.{Event}
use Rattle.hop_machine.specs.step.Steps.{Deeds, Setup}
use Rattle.hop_machine.specs.actors.ReducerTurns.{Reducer, cut_after, marks_due}
use Rattle.hop_machine.specs.home.Said.{history_of}
use Rattle.hop_machine.specs.home.ReducerHome.{IsSetup, CutsSent, cuts_of, cuts_from, due_of}
use Rattle.hop_machine.specs.play.Play.{Actors, Place, Emptying, Over, Halted, World, Went}
use Rattle.hop_machine.specs.run.AllHome.{AllHome, AllNoneDue, RanToItsEnd}
use Rattle.hop_machine.proofs.play.Plays.{went_both, went_same}
use Rattle.hop_machine.proofs.reducer.CutLaws.{cuts-first, cuts-more}
use Rattle.hop_machine.proofs.run.AnyTurn.{none_there}
use Rattle.hop_machine.proofs.run.WholeRun.{ends_settled, run_went}
use Rattle.hop_ending.specs.Cuts.{put_of, writings_of, ArePut, HasPut, CutsFollow}
use Rattle.hop_ending.proofs.CutPuts.{went_puts, writings_are, writings_none}
use Rattle.hop_ending.proofs.CutEnds.{went_follows, exact_emptied}

-- # The cuts of a history

pub first_cuts_are : (s : Setup) → IsSetup s → cuts_of s [] ≡ map (cut_after s []) (marks_due s [])
first_cuts_are s set = cuts-first s set.marks.ascending

pub more_cuts_are : (s : Setup) (e : Event) (h : List Event) → IsSetup s → cuts_of s (e ∷ h) ≡ cuts_of s h ++ map (cut_after s (e ∷ h)) (marks_due s (e ∷ h))
more_cuts_are s e h set = cuts-more s e h set.marks.ascending

-- # Along a run

pub puts_on : (e : Bool) (from at : Place) (a b : World) → Went e (from, a) (at, b) → at ≢ Halted → HasPut a.actors.writer a.deeds.setup → HasPut b.actors.writer b.deeds.setup
puts_on e from at a b w not put =
    ⊎_elim (λ (k : at ≡ Halted). absurd (not k)) (λ (h : HasPut b.actors.writer a.deeds.setup). subst (λ (s : Setup). HasPut b.actors.writer s) (sym (went_same e (from, a) (at, b) w)) h)
    (went_puts a.deeds.setup e (from, a) (at, b) w (inr put))

pub follows_on : (from at : Place) (a b : World) → Went true (from, a) (at, b) → CutsFollow a.deeds → CutsFollow b.deeds
follows_on from at a b w follow p l = went_follows p (from, a) (at, b) w (follow p (subst (λ (s : Setup). p < s.reducers) (went_same true (from, a) (at, b) w) l))

-- # Where all are at home

module _ (x : Actors) (d : Deeds) (home : AllHome x d) (none : AllNoneDue d) (p : ℕ) (l : p < d.setup.reducers) where
  reducer_cuts : (o : Option Reducer) → slice_get x.reducers p ≡ o → CutsSent d.setup (history_of d p) (due_of d p) (d.did.cut_outs p).sent
  reducer_cuts None g = absurd (none_there x.reducers p g (let n = home.reducers in omega (arith, n, l)))
  reducer_cuts (Some r) g =
      let h = home.reducer p r g in
      subst (λ q. CutsSent d.setup (history_of d q) (due_of d q) (d.did.cut_outs q).sent) h.number h.home.cuts

  -- where no cut is due all were sent
  pub home_sent : (d.did.cut_outs p).sent ≡ cuts_of d.setup (history_of d p)
  home_sent =
      let c = reducer_cuts (slice_get x.reducers p) refl in
      let sent = (d.did.cut_outs p).sent in
      sym (append-nil sent) ∙ ap (λ marks. sent ++ map (cut_after d.setup (history_of d p)) marks) (sym (none p l)) ∙ c.sent_are

-- # A whole run

module _ (e : Bool) (from : Place) (a d : World) (z : RanToItsEnd e from a d) where
  pub run_sent : (p : ℕ) → p < d.deeds.setup.reducers → (d.deeds.did.cut_outs p).sent ≡ cuts_of d.deeds.setup (history_of d.deeds p)
  run_sent p l = let h = (ends_settled e from a d z).ends in home_sent d.actors d.deeds h.home h.none p l

  pub run_took : (p : ℕ) → p < d.deeds.setup.reducers → (d.deeds.did.cut_ins p).taken ≡ cuts_from p d.actors.writer.writings
  run_took p l = (ends_settled e from a d z).ends.home.writer.took p l

  pub run_put : HasPut a.actors.writer a.deeds.setup → ArePut d.deeds.setup.reducers d.actors.writer.writings
  run_put put = (puts_on e from Over a d (run_went e from a d z) (λ k. cc) put).put

  pub run_no_others : HasPut a.actors.writer a.deeds.setup → (p : ℕ) → d.deeds.setup.reducers ≤ p → writings_of p d.actors.writer.writings ≡ []
  run_no_others put p l = writings_none d.deeds.setup.reducers p d.actors.writer.writings l (run_put put)

  -- where the cut lane holds nothing
  pub run_emptied_put : HasPut a.actors.writer a.deeds.setup → (p : ℕ) → p < d.deeds.setup.reducers → (d.deeds.did.cut_ins p).taken ≡ (d.deeds.did.cut_outs p).sent
      → writings_of p d.actors.writer.writings ≡ map (put_of p) (cuts_of d.deeds.setup (history_of d.deeds p))
  run_emptied_put put p l all =
      writings_are d.deeds.setup.reducers p d.actors.writer.writings (run_put put) ∙ ap (map (put_of p)) (sym (run_took p l) ∙ all ∙ run_sent p l)

-- # Over exact ends

module _ (from : Place) (a d : World) (put : HasPut a.actors.writer a.deeds.setup) (follow : CutsFollow a.deeds) (z : RanToItsEnd true from a d) where
  pub run_emptied : (p : ℕ) → p < d.deeds.setup.reducers → (d.deeds.did.cut_ins p).taken ≡ (d.deeds.did.cut_outs p).sent
  run_emptied p l =
      let s = a.deeds.setup in
      let lp : p < s.reducers = subst (λ (k : Setup). p < k.reducers) (went_same true (from, a) (Over, d) (run_went true from a d z)) l in
      let w = went_both true (from, a) (Emptying 0, z.b) (Emptying z.reducers, z.c) z.passes z.drains in
      exact_emptied s p lp (Emptying z.reducers) z.c d (λ o. cc) (went_puts s true (from, a) (Emptying z.reducers, z.c) w (inr put)) (went_follows p (from, a) (Emptying z.reducers, z.c) w (follow p lp)) z.pulls

  pub run_cuts_put : (p : ℕ) → p < d.deeds.setup.reducers → writings_of p d.actors.writer.writings ≡ map (put_of p) (cuts_of d.deeds.setup (history_of d.deeds p))
  run_cuts_put p l = run_emptied_put true from a d z put p l (run_emptied p l)
