-- What is left of a safe program is safe, and what stays of the value that is held.
use Rattle.std.proofs.Common.{◌≡◌, ℕ, Bool, sym, ◌∙◌, subst}
use Rattle.hop_shelf.specs.Sound.{ShelfValue}
use Rattle.hop_machine.specs.step.Steps.{Prog, Done, Then, and_then, Deeds, Runs, Risk}
use Rattle.hop_machine.specs.home.Conditions.{Safe}
use Rattle.hop_machine.proofs.step.Programs.{risk_steps}
use Rattle.hop_drain.specs.Held.{IsHeld}

module _ {A B : Type 0} (parts : ℕ) (e : Bool) where
  pub safe_after : (k : Prog A) (f : A → Prog B) (a b : Deeds) (x : A) → Safe parts e (and_then k f) a → Runs e k a x b → Safe parts e (f x) b
  safe_after (Done z) f a b x safe run = let P : A × Deeds → Type 0 = λ q. Safe parts e (f q.0) q.1 in subst P (λ i. (sym run.0 i, sym run.1 i)) safe
  safe_after (Then s k) f a b x safe run = safe_after (k run.0) f run.1 b x (safe.1 run.0 run.1 run.2) run.3

  pub safe_first : (k : Prog A) (f : A → Prog B) (a : Deeds) → Safe parts e (and_then k f) a → Safe parts e k a
  safe_first (Done z) f a safe = tt
  safe_first (Then s k) f a safe = (safe.0, λ o b st. safe_first (k o) f b (safe.1 o b st))

-- whether memory is there or not, what comes then is safe
pub safe_risk : {A : Type 0} (parts : ℕ) (e ok : Bool) (k : Bool → Prog A) (a : Deeds) → Safe parts e (Then Risk k) a → Safe parts e (k ok) a
safe_risk parts e ok k a safe = safe.1 ok a (risk_steps e ok a)

pub held_on : (p : ℕ) (s : ShelfValue) (a b : Deeds) → b.did.keeps ≡ a.did.keeps → IsHeld p s a → IsHeld p s b
held_on p s a b same held = record {
  number = held.number;
  held = (λ i. (same i p).held) ∙ held.held;
  events = held.events ∙ sym (λ i. (same i p).events);
}
