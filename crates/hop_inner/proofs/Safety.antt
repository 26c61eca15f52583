-- What is left of a safe program is safe.
use Rattle.std.proofs.Common.{ℕ, Bool, sym, subst}
use Rattle.hop_machine.specs.step.Steps.{Prog, Done, Then, and_then, Deeds, Runs}
use Rattle.hop_machine.specs.home.Conditions.{Safe}

module _ {A B : Type 0} (parts : ℕ) (e : Bool) where
  pub safe_after : (k : Prog A) (f : A → Prog B) (a b : Deeds) (x : A) → Safe parts e (and_then k f) a → Runs e k a x b → Safe parts e (f x) b
  safe_after (Done z) f a b x safe run = let P : A × Deeds → Type 0 = λ q. Safe parts e (f q.0) q.1 in subst P (λ i. (sym run.0 i, sym run.1 i)) safe
  safe_after (Then s k) f a b x safe run = safe_after (k run.0) f run.1 b x (safe.1 run.0 run.1 run.2) run.3
