-- What the code reads off the answer of a turn.
use Rattle.std.proofs.Common.{◌≡◌, ℕ, true, false, List, refl, sym, ◌∙◌, subst, OnOk, IfErr}
use Rattle.hop_base.specs.Meaning.{Meaning}
use Rattle.hop_base.specs.Run.{ScriptLines, RunSettings}
use Rattle.hop_machine.specs.home.MapperHome.{has_failed}
use Rattle.hop_machine.specs.play.Play.{Place, unless_spent}
use Rattle.hop_actors.specs.declared.turn.Turn.{Turn}
use Rattle.hop_actors.specs.declared.turn.Turn.TheVariants as answer
use Rattle.hop_actors.specs.declared.fault.Fault.{Fault}
use Rattle.hop_actors.specs.declared.fault.Fault.TheVariants as fault
use Rattle.hop_actors.specs.Acting.{said_turn, said_fault}
use Rattle.hop_actors.specs.Counting.{Counts}
use Rattle.hop_settle.specs.Stops.{place_after, went_or_fault, MapCounts, StoreStopped}

pub fault_failed : (f : Fault) → has_failed (said_fault f) ≡ true
fault_failed (fault.SpentAt split) = refl
fault_failed fault.FolderFailed = refl
fault_failed (fault.SpillFailed worker) = refl
fault_failed (fault.SpillDamaged worker at kept found) = refl
fault_failed (fault.SpillCollides worker at place) = refl
fault_failed fault.NoMemory = refl

-- where the run goes on after a turn
pub place_is : (t : Turn) (go : Place) → place_after (went_or_fault t) go ≡ unless_spent (said_turn t) go
place_is answer.Worked go = refl
place_is answer.Idle go = refl
place_is answer.Ended go = refl
place_is (answer.Failed f) go = refl

pub ok_when : (t : Turn) (P : Type 0) → (has_failed (said_turn t) ≡ false → P) → OnOk (went_or_fault t) P
ok_when answer.Worked P h = h refl
ok_when answer.Idle P h = h refl
ok_when answer.Ended P h = h refl
ok_when (answer.Failed f) P h = tt

pub err_when : (t : Turn) (Q : Fault → Type 0) → ((f : Fault) → t ≡ answer.Failed f → Q f) → IfErr (went_or_fault t) Q
err_when answer.Worked Q h = tt
err_when answer.Idle Q h = tt
err_when answer.Ended Q h = tt
err_when (answer.Failed f) Q h = h f refl

pub counts_same : (job : Meaning) (records : List (List ℕ)) (script : ScriptLines) (settings : RunSettings) (t : Turn) (a b : List Counts) → has_failed (said_turn t) ≡ false → MapCounts job records script settings a b t → b ≡ a
counts_same job records script settings answer.Worked a b h k = k
counts_same job records script settings answer.Idle a b h k = k
counts_same job records script settings answer.Ended a b h k = k
counts_same job records script settings (answer.Failed f) a b h k = let n : true ≡ false = sym (fault_failed f) ∙ h in cc

pub counts_stop : (job : Meaning) (records : List (List ℕ)) (script : ScriptLines) (settings : RunSettings) (t : Turn) (f : Fault) (a b : List Counts) → t ≡ answer.Failed f → MapCounts job records script settings a b t → StoreStopped job records script settings a b f
counts_stop job records script settings t f a b is k = subst (λ (u : Turn). MapCounts job records script settings a b u) is k
