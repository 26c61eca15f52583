-- What contracts see of the ends that a value has.
use Rattle.std.specs.Prelude.{ℕ, Bool, List, Option, Some, None}
use Rattle.hop_event.specs.declared.event.Event.{Event}
use Rattle.hop_machine.specs.declared.words.Who.{Who}
use Rattle.hop_machine.specs.declared.words.Who.TheVariants as whose
use Rattle.hop_machine.specs.declared.words.Message.{Message}
use Rattle.hop_machine.specs.declared.words.Verdict.{Verdict}
use Rattle.hop_machine.specs.step.Setup.{CutSaid, Setup}
use Rattle.hop_machine.specs.step.Step.{Step, Send, Take, NextSplit, Draw, Commit, Revoke, AskWinner, AskRevoked, Join, TryHold, Hold, Record, GiveBack, SendCut, TakeCut, Risk}

-- # What the ends did

-- a sender: what it sent, and how often its lane was full
pub record Sent (A : Type 0) : Type 0 where
  pub sent : List A
  pub fulls : ℕ

-- a receiver: what it took, and how often its lane was empty
pub record Taken (A : Type 0) : Type 0 where
  pub taken : List A
  pub nones : ℕ

-- an attempt
pub record Attempt : Type 0 where
  pub split : ℕ
  pub number : ℕ

-- an end of the board: the splits that it was given, the numbers that it drew, the attempts that it
-- revoked with the masks that were answered, whether it was answered that no split is left, and how
-- often it asked for a split or a number
pub record Seat : Type 0 where
  pub given : List ℕ
  pub drew : List Attempt
  pub revoked : List (Attempt × ℕ)
  pub committed : List (Attempt × Verdict)
  pub past : Bool
  pub calls : ℕ

-- the recorder's end of a lock: its list of events, the last one first, the marks whose cuts are due,
-- whether it holds the value, and how often it was busy
pub record Kept : Type 0 where
  pub events : List Event
  pub due : List ℕ
  pub held : Bool
  pub busy : ℕ

-- what an end of the board knows
pub record Verdicts : Type 0 where
  pub won : ℕ → ℕ → Bool
  pub gone : ℕ → ℕ → Bool

-- what each end was told of the others: a sender which messages are taken, a receiver which are sent
pub record Told : Type 0 where
  pub taken : ℕ → ℕ → List Message
  pub sent : ℕ → ℕ → List Message
  pub cut_taken : ℕ → List CutSaid
  pub cut_sent : ℕ → List CutSaid
  pub knows : Who → Verdicts

-- what the ends of a run did
pub record Did : Type 0 where
  pub outs : ℕ → ℕ → Sent Message
  pub ins : ℕ → ℕ → Taken Message
  pub cut_outs : ℕ → Sent CutSaid
  pub cut_ins : ℕ → Taken CutSaid
  pub seats : Who → Seat
  pub keeps : ℕ → Kept

-- the words of the board, where one thread alone has it: how many splits were given, how many numbers
-- of each were drawn, the winners, and what was revoked
pub record Words : Type 0 where
  pub cursor : ℕ
  pub drawn : ℕ → ℕ
  pub winner : ℕ → Option ℕ
  pub mask : ℕ → ℕ

-- # The ends that a value has

-- an end of a lane, a cut lane, the board or a lock
pub data End : Type 0 where
  OutEnd : (w p : ℕ) → End  -- the sender of the lane from mapper w to reducer p
  InEnd : (w p : ℕ) → End  -- its receiver
  CutOutEnd : (p : ℕ) → End  -- the sender of reducer p's cut lane
  CutInEnd : (p : ℕ) → End  -- its receiver
  BoardEnd : Who → End  -- this actor's end of the board
  KeepEnd : (p : ℕ) → End  -- the recorder's end of reducer p's lock

-- Which ends a value has, and the names of what they are ends of: two values that are parts of one run have the same names.
pub record Ends : Type 0 where
  pub has : End → Bool
  pub board : List ℕ
  pub lanes : ℕ → ℕ → List ℕ
  pub cut_lanes : ℕ → List ℕ

-- all of it
pub record Deeds : Type 0 where
  pub setup : Setup
  pub ends : Ends
  pub did : Did
  pub told : Told
  pub words : Words

-- the end at which the step is made, if it is made at one
abbrev pub end_of : Step → Option End
end_of (Send w p m) = Some (OutEnd w p)
end_of (Take w p) = Some (InEnd w p)
end_of (NextSplit w) = Some (BoardEnd (whose.Mapper w))
end_of (Draw w i) = Some (BoardEnd (whose.Mapper w))
end_of (Commit w i a) = Some (BoardEnd (whose.Mapper w))
end_of (Revoke w i a) = Some (BoardEnd (whose.Mapper w))
end_of (AskWinner who i) = Some (BoardEnd who)
end_of (AskRevoked who i a) = Some (BoardEnd who)
end_of (Join p i a) = Some (BoardEnd (whose.Reducer p))
end_of (TryHold p) = Some (KeepEnd p)
end_of (Hold p) = Some (KeepEnd p)
end_of (Record p e) = Some (KeepEnd p)
end_of (GiveBack p due) = Some (KeepEnd p)
end_of (SendCut p c) = Some (CutOutEnd p)
end_of (TakeCut p) = Some (CutInEnd p)
end_of Risk = None
