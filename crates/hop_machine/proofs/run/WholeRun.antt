-- A run that came to its end has what settling promises.
use Rattle.std.proofs.Common.{◌≡◌, ℕ, ◌≤◌, ◌<◌, Bool, false, List, length, sym, subst, Some, slice_index, arith}
use Rattle.std.specs.List.{slice_get}
use Rattle.std.proofs.lemmas.Bool.{ltb-false}
use Rattle.hop_event.specs.declared.event.Event.{Event}
use Rattle.hop_event.specs.Legal.{Rules}
use Rattle.hop_event.specs.Failing.{tries}
use Rattle.hop_machine.specs.step.Steps.{rules_of}
use Rattle.hop_machine.specs.actors.MapperTurns.{Mapper}
use Rattle.hop_machine.specs.home.Said.{seat_of, DrewInTurn}
use Rattle.hop_machine.specs.play.Play.{Place, Emptying, Over, World, Went}
use Rattle.hop_machine.specs.ending.Finishing.{AreBegun, AreHistories, IsClosed, AreSettled}
use Rattle.hop_machine.specs.run.AllHome.{Pulls, Settled, RanToItsEnd, mapper_of}
use Rattle.hop_machine.proofs.mapper.AtHome.{drew_in_turn}
use Rattle.hop_machine.proofs.play.Plays.{went_both}
use Rattle.hop_machine.proofs.ending.Settled.{run-settled, run-tries}
use Rattle.hop_machine.proofs.run.Pulling.{is_there, have_ended}
use Rattle.hop_machine.proofs.run.Places.{went_at_home}
use Rattle.hop_machine.proofs.run.Lanes.{emptied_lanes}
use Rattle.hop_machine.proofs.run.Ending.{went_pulling}

-- # The whole run

-- of a run that came to its end, over any ends
module _ (e : Bool) (from : Place) (a d : World) (z : RanToItsEnd e from a d) where
  -- all have ended and are at home, and each history is closed
  pub ends_settled : Settled d.actors d.deeds
  ends_settled =
      let at_b = went_at_home e (from, a) (Emptying 0, z.b) z.passes z.home in
      let at_c = emptied_lanes e z.b z.c z.reducers at_b z.met z.drains z.last z.again in
      let h = at_c.0 in
      let many : z.c.deeds.setup.reducers ≤ z.reducers = let k = ltb-false z.reducers (length z.c.actors.reducers) z.last in let n = h.ready.home.reducers in omega (arith, k, n) in
      let pulls : Pulls 0 0 z.c.actors z.c.deeds = record {
        ends = record { home = h.ready.home; none = h.ready.none; ended = h.ended; emptied = at_c.1; gathered = z.gathered };
        closed = λ q m k. absurd (omega arith);
        «open» = λ q m k. h.ready.«open» q k;
        no_restart = λ q m k. h.no_restart q (omega (arith, k, many)) k;
        there = λ j n m. absurd (omega arith);
      } in
      went_pulling e (Emptying z.reducers, z.c) (Over, d) z.pulls (z.last, pulls)

  -- so what settling promises of the histories stands
  pub run_is_settled : (begun : List ℕ) → AreBegun (rules_of d.deeds.setup) (mapper_of d.actors d.deeds.setup) begun → (histories : List (List Event)) → AreHistories d.deeds histories → AreSettled (rules_of d.deeds.setup) begun histories
  run_is_settled begun are histories them =
      run-settled (rules_of d.deeds.setup) d.deeds (mapper_of d.actors d.deeds.setup) (have_ended d.actors d.deeds ends_settled.ends) begun are histories them
      (λ q l. let n : q < d.deeds.setup.reducers = let k = them.count in omega (arith, l, k) in subst (λ k. IsClosed (rules_of d.deeds.setup) k) (sym (them.each q n)) (ends_settled.closed q n))

  -- and without backup as many attempts were begun as it takes
  pub run_tries : ((w : ℕ) (m : Mapper) → slice_get d.actors.mappers w ≡ Some m → m.backup ≡ false) → (begun : List ℕ) → AreBegun (rules_of d.deeds.setup) (mapper_of d.actors d.deeds.setup) begun
      → (i : ℕ) → i < length d.deeds.setup.lens → tries d.deeds.setup.script d.deeds.setup.attempts i ≡ Some (slice_index begun i)
  run_tries none begun are i l =
      run-tries (rules_of d.deeds.setup) d.deeds (mapper_of d.actors d.deeds.setup) (have_ended d.actors d.deeds ends_settled.ends) begun are
      (λ w lw. is_there d.actors d.deeds ends_settled.ends (λ m. DrewInTurn (rules_of d.deeds.setup) (seat_of d.deeds w)) w lw (λ m g.
      let k = ends_settled.ends.home.mapper w m g in
      subst (λ (u : Rules × ℕ). DrewInTurn u.0 (seat_of d.deeds u.1)) (λ t. (k.home.fits.rules t, k.number t)) (drew_in_turn m d.deeds k.home (none w m g)))) i l

  -- on one thread it is the play of its turn list
  pub run_went : Went e (from, a) (Over, d)
  run_went = went_both e (from, a) (Emptying z.reducers, z.c) (Over, d) (went_both e (from, a) (Emptying 0, z.b) (Emptying z.reducers, z.c) z.passes z.drains) z.pulls
