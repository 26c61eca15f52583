-- From the end of a turn list to the end of the run.
use Rattle.std.proofs.Common.{◌≡◌, ℕ, Bool, false, List, [], length, map, nat_lt, refl, sym, ap, subst}
use Rattle.hop_machine.specs.step.Steps.{Deeds}
use Rattle.hop_machine.specs.actors.MapperTurns.{Mapper}
use Rattle.hop_machine.specs.actors.ReducerTurns.{Reducer, Writer}
use Rattle.hop_machine.specs.play.Play.{World, Place, Listed, Passing, Emptying, Pulling, Over, Went, Learns, is_late}
use Rattle.hop_machine.specs.run.AllHome.{IsAtPlace, Pulls, RanToItsEnd}
use Rattle.hop_machine.specs.settling.Settling.{AllMet}
use Rattle.hop_machine.specs.settling.Meeting.{Gathers}
use Rattle.hop_machine.proofs.play.Plays.{went_both, went_learns}
use Rattle.hop_machine.proofs.play.Going.{begins-settling, empties-over}
use Rattle.hop_machine.proofs.run.Places.{went_at_home}
use Rattle.hop_machine.proofs.run.Ending.{went_pulling}
use Rattle.hop_settle.specs.Crews.{actors_of, world_of, flags_of}
use Rattle.hop_settle.specs.Settled.{WorkedOff}
use Rattle.hop_settle.proofs.LackLaws.{may-begin}

-- the reducers wait for their locks from now on
pub late-went : (e : Bool) (ms : List Mapper) (rs ss : List Reducer) (x : Writer) (d : Deeds) → ss ≡ map is_late rs → Went e (Listed [], world_of ms rs x d) (Passing (flags_of ms), world_of ms ss x d)
late-went e ms rs ss x d late = begins-settling e (world_of ms rs x d) (world_of ms ss x d) (ap (λ (l : List Reducer). actors_of ms l x) late) refl

-- what is told is no step
pub told-went : (e : Bool) (p : Place) (ms : List Mapper) (rs : List Reducer) (x : Writer) (a b : Deeds) → Learns e a b → Went e (p, world_of ms rs x a) (p, world_of ms rs x b)
told-went e p ms rs x a b l = went_learns e (p, world_of ms rs x a) (p, world_of ms rs x b) refl refl l

-- # Where the ends of the board are gathered

pub still-met : (a b : Deeds) → Gathers a b → AllMet a → AllMet b
still-met a b g h = subst AllMet (sym g.changes) (λ w p l k. let m = h w p l k in record { taken = m.taken; sent = m.sent; begins = m.begins })

pub same-board : (a b : Deeds) → Gathers a b → b.ends.board ≡ a.ends.board
same-board a b g = ap (λ (d : Deeds). d.ends.board) g.changes

-- # The pulls

module _ (e : Bool) (n : ℕ) (a c : World) (home : IsAtPlace (Listed []) a.actors a.deeds) (w : WorkedOff e n a c) where
  at_b : IsAtPlace (Emptying 0) w.b.actors w.b.deeds
  at_b = went_at_home e (Listed [], a) (Emptying 0, w.b) w.passes home

  module _ (last : nat_lt n (length c.actors.reducers) ≡ false) where
    pub begins-pulls : Pulls 0 0 c.actors c.deeds
    begins-pulls = went_pulling e (Emptying n, c) (Pulling 0 0, c) (empties-over e n c last) (may-begin e w.b c n at_b w.met w.drains last w.again w.gathered)

    pub worked-went : Went e (Listed [], a) (Pulling 0 0, c)
    worked-went = went_both e (Listed [], a) (Emptying n, c) (Pulling 0 0, c) (went_both e (Listed [], a) (Emptying 0, w.b) (Emptying n, c) w.passes w.drains) (empties-over e n c last)

    pub ran-whole : (d : World) → Went e (Pulling 0 0, c) (Over, d) → RanToItsEnd e (Listed []) a d
    ran-whole d pulls = record {
      home = home;
      b = w.b;
      passes = w.passes;
      met = w.met;
      c = c;
      reducers = n;
      drains = w.drains;
      last = last;
      again = w.again;
      gathered = w.gathered;
      pulls = went_both e (Emptying n, c) (Pulling 0 0, c) (Over, d) (empties-over e n c last) pulls;
    }
