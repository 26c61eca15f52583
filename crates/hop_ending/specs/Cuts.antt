-- The cuts that a run's writer took, and put.
use Rattle.std.specs.Prelude.{◌≡◌, ℕ, ◌<◌, ◌==◌, true, if◌then◌else◌, List, [], ◌∷◌}
use Rattle.hop_machine.specs.step.Steps.{CutSaid, Setup, Deeds, Begins}
use Rattle.hop_machine.specs.actors.ReducerTurns.{Writer, Writing}

-- the cut of reducer p, which was put
abbrev pub put_of : ℕ → CutSaid → Writing
put_of p c = record { reducer = p; cut = c; put = true }

-- the writings of one reducer, in their order
abbrev pub writings_of : ℕ → List Writing → List Writing
writings_of p [] = []
writings_of p (x ∷ writings) = if x.reducer == p then x ∷ writings_of p writings else writings_of p writings

-- each of them was put, and is of one of so many reducers
abbrev pub ArePut : ℕ → List Writing → Type 0
ArePut reducers [] = Unit {0}
ArePut reducers (x ∷ writings) = (x.put ≡ true) × (x.reducer < reducers) × ArePut reducers writings

-- a writer of this run that put all that it took
pub record HasPut (x : Writer) (s : Setup) : Type 0 where
  pub setup : x.setup ≡ s
  pub next : x.next < s.reducers
  pub put : ArePut s.reducers x.writings

-- what was taken of each cut lane is the first of what was sent to it
abbrev pub CutsFollow : Deeds → Type 0
CutsFollow d = (p : ℕ) → p < d.setup.reducers → Begins (d.did.cut_ins p).taken (d.did.cut_outs p).sent
