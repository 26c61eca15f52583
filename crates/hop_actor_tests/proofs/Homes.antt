-- The actors of a run of the tests, from turn to turn.
use Rattle.std.proofs.Common.{◌≡◌, ℕ, ◌+◌, arith, Bool, true, false, List, [], ◌∷◌, map, refl, sym, ap, subst}
use Rattle.hop_machine.specs.declared.words.Turn.{Turn}
use Rattle.hop_machine.specs.declared.words.Turn.TheVariants as said
use Rattle.hop_machine.specs.declared.words.Who.{Who}
use Rattle.hop_machine.specs.declared.words.Who.TheVariants as whose
use Rattle.hop_machine.specs.step.Steps.{Setup, Deeds, Ends}
use Rattle.hop_machine.specs.actors.MapperTurns.{Mapper}
use Rattle.hop_machine.specs.actors.ReducerTurns.{Reducer}
use Rattle.hop_machine.specs.home.MapperHome.{has_failed}
use Rattle.hop_machine.specs.home.Starts.{new_writer}
use Rattle.hop_machine.specs.play.Play.{World, Place, Listed, TurnOf, Turned, unless_spent}
use Rattle.hop_machine.specs.run.AllHome.{IsAtPlace, Ready}
use Rattle.hop_machine.proofs.home.Here.{all_kept}
use Rattle.hop_machine.proofs.play.Going.{listed-turn}
use Rattle.hop_machine.proofs.run.Places.{went_at_home}
use Rattle.hop_settle.specs.Crews.{world_of, AreWell, Mapped, Reduced}
use Rattle.hop_settle.proofs.PassLaws.{map_ends, map_turned, map_turns}
use Rattle.hop_settle.proofs.DrainLaws.{red_ends, red_turned}
use Rattle.hop_actor_tests.specs.Benches.{AtHome}

-- a turn that did not fail leaves the run at its list
stays_listed : (t : Turn) → has_failed t ≡ false → unless_spent t (Listed []) ≡ Listed []
stays_listed said.Worked h = refl
stays_listed said.Idle h = refl
stays_listed said.Ended h = refl
stays_listed (said.Spent i) h = cc
stays_listed said.Stopped h = cc

ready_after : (who : Who) (a b : World) (t : Turn) → Turned true who a t b → has_failed t ≡ false → Ready a.actors a.deeds → Ready b.actors b.deeds
ready_after who a b t turned on home =
    subst (λ (p : Place). IsAtPlace p b.actors b.deeds) (stays_listed t on)
    (went_at_home true (Listed (TurnOf who ∷ []), a) (unless_spent t (Listed []), b) (listed-turn true who [] a b t turned) home)

module _ {M : Type 0} (setup : Setup) (mapper : M → Mapper) (failed : M → Bool) (fits : M → List ℕ → Type 0) (n : ℕ) (a b : Deeds) (t : Turn) (on : has_failed t ≡ false) (same : b.setup ≡ a.setup) where
  pub mapped_home : (w : ℕ) (ms ns : List M) (rs : List Reducer) → AtHome setup mapper failed fits n ms rs a → Mapped true w (map mapper ms) a (map mapper ns) t b → AreWell failed fits b.ends.board ns
      → AtHome setup mapper failed fits (n + 1) ns rs b
  mapped_home w ms ns rs h z well = record {
    ready = ready_after (whose.Mapper w) (world_of (map mapper ms) rs (new_writer setup) a) (world_of (map mapper ns) rs (new_writer setup) b) t (map_turned true w (map mapper ms) a (map mapper ns) t b z rs (new_writer setup)) on h.ready;
    ends = all_kept a b same (map_ends true w (map mapper ms) a (map mapper ns) t b z) h.ends;
    well = well;
    few = λ k m is. (map_turns true w (map mapper ms) a (map mapper ns) t b z (n + 1) (λ j x at. let l = h.few j x at in (omega (arith, l), λ _. l)) k m is).0;
  }

  pub reduced_home : (p : ℕ) (ms : List M) (rs ss : List Reducer) → AtHome setup mapper failed fits n ms rs a → Reduced true p rs a ss t b → AtHome setup mapper failed fits n ms ss b
  reduced_home p ms rs ss h z =
      let ends = red_ends true p rs a ss t b z in
      record {
        ready = ready_after (whose.Reducer p) (world_of (map mapper ms) rs (new_writer setup) a) (world_of (map mapper ms) ss (new_writer setup) b) t (red_turned true p rs a ss t b z (map mapper ms) (new_writer setup)) on h.ready;
        ends = all_kept a b same ends h.ends;
        well = subst (λ (board : List ℕ). AreWell failed fits board ms) (sym (ap (λ (e : Ends). e.board) ends)) h.well;
        few = h.few;
      }

same_list : (xs : List Reducer) → map (λ r. r) xs ≡ xs
same_list [] = refl
same_list (x ∷ xs) = ap (λ l. x ∷ l) (same_list xs)

-- a reducer's part of the machine is what contracts see of it
pub reduced_own : (e : Bool) (p : ℕ) (rs : List Reducer) (a : Deeds) (ss : List Reducer) (t : Turn) (b : Deeds) → Reduced e p (map (λ r. r) rs) a (map (λ r. r) ss) t b → Reduced e p rs a ss t b
reduced_own e p rs a ss t b z = subst (λ (l : List Reducer × List Reducer). Reduced e p l.0 a l.1 t b) {x = (map (λ r. r) rs, map (λ r. r) ss)} (λ i. (same_list rs i, same_list ss i)) z
