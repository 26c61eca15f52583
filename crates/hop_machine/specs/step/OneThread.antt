-- What a step finds on one thread, and what is then.
use Rattle.std.specs.Prelude.{ℕ, ◌+◌, ◌^◌, true, List, [], ◌∷◌, ◌++◌, length, drop, nat_lt, bit_or, Option, Some, None, if◌then◌else◌, ◌==◌}
use Rattle.hop_machine.specs.declared.words.Message.{Message}
use Rattle.hop_machine.specs.declared.words.Verdict.{Verdict}
use Rattle.hop_machine.specs.declared.words.Verdict.TheVariants.{Won, Lost}
use Rattle.hop_machine.specs.step.Setup.{splits_of}
use Rattle.hop_machine.specs.step.Setup.{CutSaid, Setup}
use Rattle.hop_machine.specs.step.Step.{Value, Step, Found, Send, Take, NextSplit, Draw, Commit, Revoke, AskWinner, AskRevoked, Join, TryHold, Hold, Record, GiveBack, SendCut, TakeCut, Risk}
use Rattle.hop_machine.specs.step.Deeds.{Words, Deeds}
use Rattle.hop_machine.specs.step.After.{at1, at2}
use Rattle.hop_machine.specs.step.Tells.{has_bit}

-- what lies in a lane, where each end is told all
abbrev pub first : {A : Type 0} → List A → Option A
first [] = None
first (x ∷ xs) = Some x

-- what lies behind the first
abbrev pub rest : {A : Type 0} → List A → List A
rest [] = []
rest (x ∷ xs) = xs

-- the part of the machine's state that its actors share
pub record Shared : Type 0 where
  pub setup : Setup
  pub lanes : ℕ → ℕ → List Message
  pub cuts : ℕ → List CutSaid
  pub words : Words
  pub histories : ℕ → Value

-- what the ends share, where each is told all
abbrev pub shown : Deeds → Shared
shown d = record {
  setup = d.setup;
  lanes = λ w p. drop (length (d.did.ins w p).taken) (d.did.outs w p).sent;
  cuts = λ p. drop (length (d.did.cut_ins p).taken) (d.did.cut_outs p).sent;
  words = d.words;
  histories = λ p. record { events = (d.did.keeps p).events; due = (d.did.keeps p).due };
}

-- the split at the cursor, if there is one
abbrev pub next_of : ℕ → ℕ → Option ℕ
next_of splits cursor = if nat_lt cursor splits then Some cursor else None

-- what a commit is answered, by the winner that was there
abbrev pub verdict_of : Option ℕ → ℕ → Verdict
verdict_of None a = Won
verdict_of (Some b) a = if b == a then Won else Lost b

-- the mask with the bit of the attempt
abbrev pub with_bit : ℕ → ℕ → ℕ
with_bit mask a = bit_or mask (2 ^ a)

-- what is found
abbrev pub finds : (s : Step) → Shared → Found s
finds (Send w p m) s = nat_lt (length (s.lanes w p)) s.setup.capacity
finds (Take w p) s = first (s.lanes w p)
finds (NextSplit w) s = next_of (splits_of s.setup) s.words.cursor
finds (Draw w i) s = s.words.drawn i
finds (Commit w i a) s = verdict_of (s.words.winner i) a
finds (Revoke w i a) s = with_bit (s.words.mask i) a
finds (AskWinner who i) s = s.words.winner i
finds (AskRevoked who i a) s = has_bit (s.words.mask i) a
finds (Join p i a) s = tt
finds (TryHold p) s = Some (s.histories p)
finds (Hold p) s = s.histories p
finds (Record p e) s = tt
finds (GiveBack p due) s = tt
finds (SendCut p c) s = nat_lt (length (s.cuts p)) 16
finds (TakeCut p) s = first (s.cuts p)
finds Risk s = true

-- the first winner stays
abbrev pub with_winner : Option ℕ → ℕ → Option ℕ
with_winner None a = Some a
with_winner (Some b) a = Some b

-- and what is then
abbrev pub becomes : (s : Step) → Shared → Shared
becomes (Send w p m) s = if nat_lt (length (s.lanes w p)) s.setup.capacity then record s { lanes = at2 s.lanes w p (s.lanes w p ++ m ∷ []) } else s
becomes (Take w p) s = record s { lanes = at2 s.lanes w p (rest (s.lanes w p)) }
becomes (NextSplit w) s = record s { words = record s.words { cursor = s.words.cursor + (if nat_lt s.words.cursor (splits_of s.setup) then 1 else 0) } }
becomes (Draw w i) s = record s { words = record s.words { drawn = at1 s.words.drawn i (s.words.drawn i + 1) } }
becomes (Commit w i a) s = record s { words = record s.words { winner = at1 s.words.winner i (with_winner (s.words.winner i) a) } }
becomes (Revoke w i a) s = record s { words = record s.words { mask = at1 s.words.mask i (with_bit (s.words.mask i) a) } }
becomes (AskWinner who i) s = s
becomes (AskRevoked who i a) s = s
becomes (Join p i a) s = s
becomes (TryHold p) s = s
becomes (Hold p) s = s
becomes (Record p e) s = record s { histories = at1 s.histories p (record (s.histories p) { events = e ∷ (s.histories p).events }) }
becomes (GiveBack p due) s = record s { histories = at1 s.histories p (record (s.histories p) { due = due }) }
becomes (SendCut p c) s = if nat_lt (length (s.cuts p)) 16 then record s { cuts = at1 s.cuts p (s.cuts p ++ c ∷ []) } else s
becomes (TakeCut p) s = record s { cuts = at1 s.cuts p (rest (s.cuts p)) }
becomes Risk s = s
