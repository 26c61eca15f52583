-- What a trace may tell.
use Rattle.std.specs.Prelude.{◌≡◌, ℕ, ◌<◌, ◌^◌, List, All, length}
use Rattle.hop_base.specs.declared.part.Part.{Part}
use Rattle.hop_event.specs.declared.event.Event.{Event}
use Rattle.hop_event.specs.declared.event.Event.TheVariants.{Arrive, Ignore, Won, Revoked, Restart, Finish}
use Rattle.hop_event.specs.declared.event.Via.{Via}
use Rattle.hop_event.specs.declared.event.Via.TheVariants.{Lane, Late, Pull}
use Rattle.hop_laws.specs.Laws.{IsName}
use Rattle.hop_trace.specs.Trace.{trace_of}

-- a number of 64 bits
abbrev pub IsToldNumber : ℕ → Type 0
IsToldNumber n = n < 2 ^ 64

-- each number of a range is of 64 bits
pub record IsToldRange (part : Part) : Type 0 where
  pub split : IsToldNumber part.split
  pub attempt : IsToldNumber part.attempt
  pub from : IsToldNumber part.from
  pub to : IsToldNumber part.to

abbrev pub IsToldVia : Via → Type 0
IsToldVia (Lane w) = IsToldNumber w
IsToldVia (Late w) = IsToldNumber w
IsToldVia Pull = Unit {0}

-- each number of an event is of 64 bits
abbrev pub IsToldEvent : Event → Type 0
IsToldEvent (Arrive part via) = IsToldRange part × IsToldVia via
IsToldEvent (Ignore part via have) = IsToldRange part × IsToldVia via × IsToldNumber have
IsToldEvent (Won i a) = IsToldNumber i × IsToldNumber a
IsToldEvent (Revoked i a) = IsToldNumber i × IsToldNumber a
IsToldEvent Restart = Unit {0}
IsToldEvent Finish = Unit {0}

-- a job's name, and numbers of 64 bits: what a trace may tell
pub record IsTold (name begun : List ℕ) (histories : List (List Event)) : Type 0 where
  pub named : IsName name
  pub splits : IsToldNumber (length begun)
  pub numbers : All IsToldNumber begun
  pub reducers : IsToldNumber (length histories)
  pub events : All (All IsToldEvent) histories

-- The text is the trace of nothing but these.
abbrev pub TellsOnly : List ℕ → List ℕ → List ℕ → List (List Event) → Type 0
TellsOnly text name begun histories =
    (name' begun' : List ℕ) (histories' : List (List Event)) → IsTold name' begun' histories' → trace_of name' begun' histories' ≡ text
    → (name' ≡ name) × (begun' ≡ begun) × (histories' ≡ histories)
