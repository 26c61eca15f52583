-- A program whose steps have what they ask for, and are at ends that are there, is safe.
use Rattle.std.proofs.Common.{ℕ, Bool, sym, subst}
use Rattle.hop_machine.specs.step.Steps.{Step, Found, Prog, Done, Then, Ends, Deeds, Steps, end_of}
use Rattle.hop_machine.specs.step.Programs.{Only}
use Rattle.hop_machine.specs.home.Conditions.{Asks, IsHere, Safe}

-- each step has what it asks for, whatever was found before it
abbrev pub Asked : {A : Type 0} → ℕ → Bool → Prog A → Deeds → Type 0
Asked parts e (Done x) a = Unit {0}
Asked parts e (Then s k) a = Asks parts s a × ((o : Found s) (b : Deeds) → Steps e s o a b → Asked parts e (k o) b)

-- the step is at an end that is there
abbrev pub IsAmong : Ends → Step → Type 0
IsAmong ends s = IsHere ends (end_of s)

pub asked-safe : {A : Type 0} (parts : ℕ) (e : Bool) (k : Prog A) (a : Deeds) → Only (IsAmong a.ends) k → Asked parts e k a → Safe parts e k a
asked-safe parts e (Done x) a h g = tt
asked-safe parts e (Then s k) a h g = (
  record { here = h.0; asks = g.0 },
  λ o b st. asked-safe parts e (k o) b (subst (λ (ends : Ends). Only (IsAmong ends) (k o)) (sym st.ends) (h.1 o)) (g.1 o b st),
)
