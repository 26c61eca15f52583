-- A board of one thread, as the list of the calls that were made, the last one first.
use Rattle.std.specs.Prelude.{◌≡◌, ℕ, zero, suc, ◌+◌, ◌<◌, ◌≤◌, ◌==◌, ◌&&◌, Bool, true, false, nat_lt, List, [], ◌∷◌, ◌++◌, length, Option, Some, None}
use Rattle.std.specs.List.{slice_get}
use Rattle.hop_machine.specs.declared.words.Who.{Who}
use Rattle.hop_machine.specs.declared.words.Who.TheVariants as whose
use Rattle.hop_machine.specs.declared.words.Verdict.{Verdict}
use Rattle.hop_machine.specs.step.Setup.{splits_of}
use Rattle.hop_machine.specs.step.Steps.{Setup, rules_of, Deeds, End, OutEnd, InEnd, CutOutEnd, CutInEnd, BoardEnd, KeepEnd, Seat, Words, Verdicts, Sent, Taken, Kept, at1, same_actor, at_actor, next_split_of, with_winner, with_bit, has_bit}
use Rattle.hop_machine.specs.board.Board.{BoardRule, no_words}
use Rattle.hop_machine.specs.home.Starts.{unused_seat}
use Rattle.hop_inner.specs.Setups.{parts}
use Rattle.hop_board.specs.declared.plain_board.Call.{Call}
use Rattle.hop_board.specs.declared.plain_board.Call.TheVariants.{Gave, Drew as Drew', Committed, Revoked}
use Rattle.hop_board.specs.declared.plain_board.Made.{Made}

-- a board: its name, whose end it is, and the calls
pub record BoardValue : Type 0 where
  pub name : List ℕ
  pub who : Who
  pub calls : List Made

-- how far the cursor goes
abbrev pub given_count : Option ℕ → ℕ
given_count None = 0
given_count (Some i) = 1

-- the words after a call
abbrev pub words_after : Call → Words → Words
words_after (Gave o) x = record x { cursor = x.cursor + given_count o }
words_after (Drew' i n) x = record x { drawn = at1 x.drawn i (x.drawn i + 1) }
words_after (Committed i a v) x = record x { winner = at1 x.winner i (with_winner (x.winner i) a) }
words_after (Revoked i a m) x = record x { mask = at1 x.mask i (with_bit (x.mask i) a) }

-- the words after these calls
abbrev pub words_of : List Made → Words
words_of [] = no_words
words_of (m ∷ earlier) = words_after m.call (words_of earlier)

-- the end of its caller after a call
abbrev pub seat_after : Call → Seat → Seat
seat_after (Gave o) x = next_split_of o x
seat_after (Drew' i n) x = record x { drew = x.drew ++ (record { split = i; number = n }) ∷ []; calls = x.calls + 1 }
seat_after (Committed i a v) x = record x { committed = x.committed ++ (record { split = i; number = a }, v) ∷ [] }
seat_after (Revoked i a m) x = record x { revoked = x.revoked ++ (record { split = i; number = a }, m) ∷ [] }

-- the ends after these calls
abbrev pub seats_of : List Made → Who → Seat
seats_of [] who = unused_seat
seats_of (m ∷ earlier) who = at_actor (seats_of earlier) m.who (seat_after m.call (seats_of earlier m.who)) who

-- whether it is this one
abbrev pub is_winner : Option ℕ → ℕ → Bool
is_winner None a = false
is_winner (Some b) a = b == a

-- each end knows what stands in the words
abbrev pub verdicts_of : Words → Verdicts
verdicts_of x = record { won = λ i a. is_winner (x.winner i) a; gone = λ i a. has_bit (x.mask i) a }

-- # What the board shows

-- nothing was sent
abbrev pub no_sent : {A : Type 0} → Sent A
no_sent = record { sent = []; fulls = 0 }

-- nothing was taken
abbrev pub no_taken : {A : Type 0} → Taken A
no_taken = record { taken = []; nones = 0 }

-- nothing was recorded
abbrev pub no_kept : Kept
no_kept = record { events = []; due = []; held = false; busy = 0 }

-- whether the run has the actor
abbrev pub is_actor : Setup → Who → Bool
is_actor setup (whose.Mapper w) = nat_lt w setup.workers
is_actor setup (whose.Reducer p) = true
is_actor setup (whose.Merger j) = true
is_actor setup whose.Writer = true

-- the board is the end of this actor alone
abbrev pub has_board : Setup → Who → End → Bool
has_board setup who (BoardEnd other) = same_actor other who && is_actor setup other
has_board setup who (OutEnd w p) = false
has_board setup who (InEnd w p) = false
has_board setup who (CutOutEnd p) = false
has_board setup who (CutInEnd p) = false
has_board setup who (KeepEnd p) = false

-- what a board shows: of the deeds of a run those at the board
abbrev pub board_deeds : Setup → BoardValue → Deeds
board_deeds setup b = record {
  setup = setup;
  ends = record { has = has_board setup b.who; board = b.name; lanes = λ w p. []; cut_lanes = λ p. [] };
  did = record { outs = λ w p. no_sent; ins = λ w p. no_taken; cut_outs = λ p. no_sent; cut_ins = λ p. no_taken; seats = seats_of b.calls; keeps = λ p. no_kept };
  told = record { taken = λ w p. []; sent = λ w p. []; cut_taken = λ p. []; cut_sent = λ p. []; knows = λ who. verdicts_of (words_of b.calls) };
  words = words_of b.calls;
}

-- # The board itself

-- the sum of the first so many numbers
abbrev pub total : ℕ → (ℕ → ℕ) → ℕ
total zero f = 0
total (suc n) f = total n f + f n

-- how many calls for a split or a number mapper w made
abbrev pub calls_by : List Made → ℕ → ℕ
calls_by calls w = (seats_of calls (whose.Mapper w)).calls

-- No mapper made more calls for a split or a number than its end has parts, and no number was drawn without a call.
pub record IsCounted (workers : ℕ) (calls : List Made) : Type 0 where
  pub each : (w : ℕ) → calls_by calls w ≤ parts
  pub drawn : (i : ℕ) → (words_of calls).drawn i ≤ total workers (calls_by calls)

-- What the board's words stand for, by the calls that were made; these keep the rule of a board.
pub record IsBoard (setup : Setup) (cursor : ℕ) (drawn : List ℕ) (winners : List (Option ℕ)) (masks : List ℕ) (calls : List Made) : Type 0 where
  pub cursor_is : (words_of calls).cursor ≡ cursor
  pub within : cursor ≤ splits_of setup
  pub drawn_are : (i : ℕ) → i < splits_of setup → slice_get drawn i ≡ Some ((words_of calls).drawn i)
  pub winners_are : (i : ℕ) → i < splits_of setup → slice_get winners i ≡ Some ((words_of calls).winner i)
  pub masks_are : (i : ℕ) → i < splits_of setup → slice_get masks i ≡ Some ((words_of calls).mask i)
  pub rule : BoardRule (rules_of setup) (words_of calls) (λ w. seats_of calls (whose.Mapper w))
  pub counted : IsCounted setup.workers calls
  pub sized : length drawn ≡ splits_of setup
  pub sized_winners : length winners ≡ splits_of setup
  pub sized_masks : length masks ≡ splits_of setup
  pub few : setup.attempts ≤ 16
  pub few_workers : setup.workers ≤ 8
