-- Where and why a run stopped.
use Rattle.std.proofs.Common.{◌≡◌, ℕ, Bool, true, false, List, refl, ap, subst, arith}
use Rattle.std.specs.Prelude.{All}
use Rattle.std.proofs.lemmas.Option.{slice_get-get_or}
use Rattle.hop_ending.specs.Doomed.{IsDoomedSplit}
use Rattle.hop_machine.specs.home.ReducerHome.{IsSetup}
use Rattle.hop_machine.specs.play.Play.{Order, Place, Actors, World, Went, Opening, NoneLeft, machine}
use Rattle.hop_machine.specs.play.FirstState.{Plays, IsNew}
use Rattle.hop_machine.specs.run.AllHome.{IsStart}
use Rattle.hop_machine.proofs.play.Opened.{went-plays}
use Rattle.hop_ending.proofs.Spent.{start_doomed}
use Rattle.hop_actors.specs.declared.fault.Fault.{Fault}
use Rattle.hop_actors.specs.declared.fault.Fault.TheVariants as fault
use Rattle.hop_settle.specs.Playing.{EndsAt}
use Rattle.hop_settle.specs.Crews.{AreWell, TurnsBelow}
use Rattle.hop_machine.specs.step.Steps.{Deeds}
use Rattle.hop_machine.specs.actors.MapperTurns.{Mapper}

-- where no attempt of a split is left the play ends so, and each attempt of it fails
pub spent-so : (backup : Bool) (list : List Order) (a d : World) (f : Fault) (split : ℕ) → IsSetup a.deeds.setup → IsNew backup a → IsStart backup a.actors a.deeds → (at : Place) → Went true (Opening 0 list, a) (at, d) → EndsAt f at → f ≡ fault.SpentAt split
    → Plays a.deeds.setup backup list (NoneLeft split, machine d) × IsDoomedSplit a.deeds.setup split
spent-so backup list a d f split set new start at gone ends is =
    let place : at ≡ NoneLeft split = subst (λ (z : Fault). EndsAt z at) is ends in
    let went : Went true (Opening 0 list, a) (NoneLeft split, d) = subst (λ (q : Place). Went true (Opening 0 list, a) (q, d)) place gone in
    (went-plays backup list a (NoneLeft split, d) set new went refl refl, start_doomed true backup list split a d start went)

-- all of a list whose turns went well
pub all-well : {M : Type 0} (failed : M → Bool) (fits : M → List ℕ → Type 0) (board : List ℕ) (ms : List M) → AreWell failed fits board ms → All (λ m. failed m ≡ false) ms
all-well failed fits board ms h = λ k d l. (h k _ (slice_get-get_or ms k d l)).0

-- new mappers took no turns
pub none-taken : (backup : Bool) (x : Actors) (d : Deeds) → IsStart backup x d → TurnsBelow 1 x.mappers
none-taken backup x d z k m g = let e : m.turns ≡ 0 = ap (λ (m : Mapper). m.turns) (z.mapper k m g) in omega (arith, e)
