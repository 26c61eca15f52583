-- Atomic steps, what each finds, and programs of them.
use Rattle.std.specs.Prelude.{ℕ, Bool, true, false, List, Option}
use Rattle.hop_event.specs.declared.event.Event.{Event}
use Rattle.hop_machine.specs.declared.words.Who.{Who}
use Rattle.hop_machine.specs.declared.words.Message.{Message}
use Rattle.hop_machine.specs.declared.words.Verdict.{Verdict}
use Rattle.hop_machine.specs.step.Setup.{CutSaid}

-- what lies under a lock: the events, the last one first, and the marks whose cuts are due
pub record Value : Type 0 where
  pub events : List Event
  pub due : List ℕ

-- an atomic step, by the end at which it is made
pub data Step : Type 0 where
  Send : (w p : ℕ) → Message → Step  -- mapper w, to the lane to p
  Take : (w p : ℕ) → Step  -- reducer p, from the lane from w
  NextSplit : (w : ℕ) → Step  -- mapper w, at the board
  Draw : (w i : ℕ) → Step
  Commit : (w i a : ℕ) → Step
  Revoke : (w i a : ℕ) → Step
  AskWinner : Who → (i : ℕ) → Step  -- any actor, at the board
  AskRevoked : Who → (i a : ℕ) → Step
  Join : (p i a : ℕ) → Step  -- reducer p, of the seat that came with a notice
  TryHold : (p : ℕ) → Step  -- reducer p, at its lock
  Hold : (p : ℕ) → Step  -- the same, where no other actor runs
  Record : (p : ℕ) → Event → Step  -- while it is held
  GiveBack : (p : ℕ) → List ℕ → Step  -- with the marks whose cuts are due
  SendCut : (p : ℕ) → CutSaid → Step  -- reducer p, to its cut lane
  TakeCut : (p : ℕ) → Step  -- the writer, from it
  Risk : Step  -- at no end: memory may be wanting, or a folder may fail

-- what the step finds
abbrev pub Found : Step → Type 0
Found (Send w p m) = Bool
Found (Take w p) = Option Message
Found (NextSplit w) = Option ℕ
Found (Draw w i) = ℕ
Found (Commit w i a) = Verdict
Found (Revoke w i a) = ℕ
Found (AskWinner who i) = Option ℕ
Found (AskRevoked who i a) = Bool
Found (Join p i a) = Unit {0}
Found (TryHold p) = Option Value
Found (Hold p) = Value
Found (Record p e) = Unit {0}
Found (GiveBack p due) = Unit {0}
Found (SendCut p c) = Bool
Found (TakeCut p) = Option CutSaid
Found Risk = Bool

-- whether the actor may go on; only a risk may go wrong
abbrev pub went : (s : Step) → Found s → Bool
went Risk o = o
went (Send w p m) o = true
went (Take w p) o = true
went (NextSplit w) o = true
went (Draw w i) o = true
went (Commit w i a) o = true
went (Revoke w i a) o = true
went (AskWinner who i) o = true
went (AskRevoked who i a) o = true
went (Join p i a) o = true
went (TryHold p) o = true
went (Hold p) o = true
went (Record p e) o = true
went (GiveBack p due) o = true
went (SendCut p c) o = true
went (TakeCut p) o = true

-- a turn: it goes on by what each of its steps found
pub data Prog (A : Type 0) : Type 0 where
  Done : A → Prog A
  Then : (s : Step) → (Found s → Prog A) → Prog A

-- one program, and then another by what the first gave
abbrev pub and_then : {A B : Type 0} → Prog A → (A → Prog B) → Prog B
and_then (Done x) f = f x
and_then (Then s k) f = Then s (λ o. and_then (k o) f)

-- whether the step is at an end of the board
abbrev pub is_at_board : Step → Bool
is_at_board (NextSplit w) = true
is_at_board (Draw w i) = true
is_at_board (Commit w i a) = true
is_at_board (Revoke w i a) = true
is_at_board (AskWinner who i) = true
is_at_board (AskRevoked who i a) = true
is_at_board (Join p i a) = true
is_at_board (Send w p m) = false
is_at_board (Take w p) = false
is_at_board (TryHold p) = false
is_at_board (Hold p) = false
is_at_board (Record p e) = false
is_at_board (GiveBack p due) = false
is_at_board (SendCut p c) = false
is_at_board (TakeCut p) = false
is_at_board Risk = false
