-- How a run goes on from the turn list to settling, and where a fault ends it.
use Rattle.std.proofs.Common.{◌≡◌, ℕ, Bool, List, subst, Result, Err}
use Rattle.std.specs.Prelude.{IfErr}
use Rattle.hop_base.specs.Meaning.{Meaning}
use Rattle.hop_base.specs.Run.{ScriptLines, RunSettings}
use Rattle.hop_machine.specs.play.Play.{Place, World, Went, Emptying}
use Rattle.hop_machine.specs.run.AllHome.{IsAtPlace, RanToItsEnd}
use Rattle.hop_machine.proofs.play.Plays.{went_both}
use Rattle.hop_actors.specs.declared.fault.Fault.{Fault}
use Rattle.hop_actors.specs.Counting.{Counts}
use Rattle.hop_settle.specs.Playing.{EndsAt, WentOn}
use Rattle.hop_settle.specs.Stops.{CrewStops}

-- a run that came to its end from a place came to it from an earlier one
pub ran-on : (e : Bool) (p q : Place) (a b d : World) → IsAtPlace p a.actors a.deeds → Went e (p, a) (q, b) → RanToItsEnd e q b d → RanToItsEnd e p a d
ran-on e p q a b d home went r = record {
  home = home;
  b = r.b;
  passes = went_both e (p, a) (q, b) (Emptying 0, r.b) went r.passes;
  met = r.met;
  c = r.c;
  reducers = r.reducers;
  drains = r.drains;
  last = r.last;
  again = r.again;
  gathered = r.gathered;
  pulls = r.pulls;
}

-- where a fault ended it
abbrev pub Ended : Bool → Place × World → World → Fault → Type 0
Ended e a w f = (at : Place) × Went e a (at, w) × EndsAt f at

pub ended-so : (e : Bool) (a : Place × World) (w : World) (go : Place) (r : Result (Unit {0}) Fault) (f : Fault) → Err f ≡ r → WentOn e a (Err f) go w → IfErr r (Ended e a w)
ended-so e a w go r f is h = subst (λ (z : Result (Unit {0}) Fault). IfErr z (Ended e a w)) is h

-- the counts before a call that stopped are those before the calls that went before it
pub stopped-so : (job : Meaning) (records : List (List ℕ)) (script : ScriptLines) (settings : RunSettings) (a a' b : List Counts) (x x' y : Counts) (r : Result (Unit {0}) Fault) (f : Fault) → a ≡ a' → x ≡ x' → Err f ≡ r → CrewStops job records script settings a b x y f → IfErr r (CrewStops job records script settings a' b x' y)
stopped-so job records script settings a a' b x x' y r f same put is h =
    subst (λ (z : Result (Unit {0}) Fault). IfErr z (CrewStops job records script settings a' b x' y)) is (subst (λ (k : List Counts × Counts). CrewStops job records script settings k.0 b k.1 y f) (λ i. (same i, put i)) h)
