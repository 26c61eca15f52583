-- What is known of a value while it is out of a lock of one thread.
use Rattle.std.specs.Prelude.{◌≡◌, ℕ, Option, Some, None}
use mathlib.Core.Option as maybe
use Rattle.hop_machine.specs.step.Steps.{Value}
use Rattle.hop_crew.specs.declared.plain_keep.Memo.{Memo}

-- the value that a step announces is remembered
abbrev pub memo_of : {V : Type 0} → (V → Value) → (V → ℕ) → maybe.Option V → Memo → Memo
memo_of value number maybe.none memo = memo
memo_of value number (maybe.some x) memo = record { number = number x; events = (value x).events; due = (value x).due }

-- what is remembered is right of the value that is there
abbrev pub Remembers : {V : Type 0} → (V → Value) → (V → ℕ) → Option V → Memo → Type 0
Remembers value number None memo = Unit {0}
Remembers value number (Some x) memo = (memo.events ≡ (value x).events) × (memo.due ≡ (value x).due) × (memo.number ≡ number x)
