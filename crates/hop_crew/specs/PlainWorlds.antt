-- What the ends of a plain world did.
use Rattle.std.specs.Prelude.{ℕ, ◌+◌, ◌*◌, ◌&&◌, ◌==◌, Bool, true, false, List, [], ◌∷◌, ◌++◌, map, Option, Some, None, cond, nat_lt, not}
use Rattle.std.specs.List.{slice_get}
use Rattle.std.specs.Vec.{with_item}
use Rattle.hop_cut.specs.declared.cut.Cut.{Cut}
use Rattle.hop_machine.specs.declared.words.Who.{Who}
use Rattle.hop_machine.specs.declared.words.Who.TheVariants as whose
use Rattle.hop_machine.specs.step.Steps.{Setup, Deeds, End, OutEnd, InEnd, CutOutEnd, CutInEnd, BoardEnd, KeepEnd, Sent, Taken, Kept}
use Rattle.hop_inner.specs.declared.message.Message.{Message}
use Rattle.hop_board.specs.declared.plain_board.Made.{Made}
use Rattle.hop_crew.specs.declared.plain_world.PlainWorld.{PlainWorld}
use Rattle.hop_lane.specs.PlainLanes.{Lane}
use Rattle.hop_inner.specs.Messages.{said, said_cut}
use Rattle.hop_inner.specs.Locks.{Lock}
use Rattle.hop_board.specs.SharedLogs.{LogValue}
use Rattle.hop_board.specs.PlainBoards.{BoardValue, is_actor, words_of, seats_of, verdicts_of, no_sent, no_taken, no_kept}

-- # Places

-- the item at mapper w and reducer p, where the run has both
abbrev pub grid_get : {A : Type 0} → List A → ℕ → ℕ → ℕ → ℕ → Option A
grid_get items workers reducers w p = cond (nat_lt w workers && nat_lt p reducers) (slice_get items (w * reducers + p)) None

-- the messages of one thread
abbrev pub Mail : Type 0
Mail = Message (LogValue Made)

module _ {N V : Type 0} where
  -- the lane from w to p
  abbrev pub lane_of : PlainWorld N V → ℕ → ℕ → Option (Lane Mail)
  lane_of s w p = grid_get s.lanes.items s.workers s.reducers w p

  -- the cut lane of p
  abbrev pub cut_of : PlainWorld N V → ℕ → Option (Lane Cut)
  cut_of s p = slice_get s.cuts.items p

  -- the lock of p
  abbrev pub keep_of : PlainWorld N V → ℕ → Option Lock
  keep_of s p = slice_get s.keeps.items p

  -- the world with another lane there
  abbrev pub with_lane : PlainWorld N V → ℕ → ℕ → Lane Mail → PlainWorld N V
  with_lane s w p o = record s { lanes = with_item s.lanes (w * s.reducers + p) o }

  -- with another cut lane
  abbrev pub with_cut : PlainWorld N V → ℕ → Lane Cut → PlainWorld N V
  with_cut s p o = record s { cuts = with_item s.cuts p o }

  -- with another lock
  abbrev pub with_keep : PlainWorld N V → ℕ → Lock → PlainWorld N V
  with_keep s p k = record s { keeps = with_item s.keeps p k }

-- # What is there

-- whether the lists are equal
abbrev pub same_numbers : List ℕ → List ℕ → Bool
same_numbers [] [] = true
same_numbers (x ∷ xs) (y ∷ ys) = (x == y) && same_numbers xs ys
same_numbers [] (y ∷ ys) = false
same_numbers (x ∷ xs) [] = false

-- the lane has this key
abbrev pub is_lane : List ℕ → ℕ → ℕ → {T : Type 0} → Option (Lane T) → Bool
is_lane board w p None = false
is_lane board w p (Some l) = (l.key.mapper == w) && (l.key.reducer == p) && same_numbers l.key.board board

-- the cut lane of reducer p
abbrev pub is_cut : ℕ → Option (Lane Cut) → Bool
is_cut p None = false
is_cut p (Some l) = l.key.reducer == p

-- it is p's lock
abbrev pub is_keep : ℕ → Option Lock → Bool
is_keep p None = false
is_keep p (Some k) = k.number == p

module _ {T M : Type 0} (f : T → M) where
  -- what its sender did
  abbrev pub sent_at : Option (Lane T) → Sent M
  sent_at None = no_sent
  sent_at (Some l) = record { sent = map f (l.taken ++ l.held); fulls = l.fulls }

  -- what its receiver did
  abbrev pub taken_at : Option (Lane T) → Taken M
  taken_at None = no_taken
  taken_at (Some l) = record { taken = map f l.taken; nones = l.nones }

-- the name of a lane
abbrev pub name_at : {T : Type 0} → Option (Lane T) → List ℕ
name_at None = []
name_at (Some l) = l.name

-- what its recorder's end did
abbrev pub kept_at : Option Lock → Kept
kept_at None = no_kept
kept_at (Some k) = k.kept

-- # The deeds of lanes and locks at these places, with this board

-- whether the actor may ask the board: a mapper may not once the ends are gathered
abbrev pub may_ask : Setup → Bool → Who → Bool
may_ask setup gathered (whose.Mapper w) = not gathered && is_actor setup (whose.Mapper w)
may_ask setup gathered (whose.Reducer p) = true
may_ask setup gathered (whose.Merger j) = true
may_ask setup gathered whose.Writer = true

-- which ends there are
abbrev pub has_end : Setup → Bool → List ℕ → (ℕ → ℕ → Option (Lane Mail)) → (ℕ → Option (Lane Cut)) → (ℕ → Option Lock) → End → Bool
has_end setup gathered board lanes cuts keeps (OutEnd w p) = is_lane board w p (lanes w p)
has_end setup gathered board lanes cuts keeps (InEnd w p) = is_lane board w p (lanes w p)
has_end setup gathered board lanes cuts keeps (CutOutEnd p) = is_cut p (cuts p)
has_end setup gathered board lanes cuts keeps (CutInEnd p) = is_cut p (cuts p)
has_end setup gathered board lanes cuts keeps (BoardEnd who) = may_ask setup gathered who
has_end setup gathered board lanes cuts keeps (KeepEnd p) = is_keep p (keeps p)

-- what the ends of these lanes, this board and these locks did
abbrev pub deeds_with : Setup → Bool → BoardValue → (ℕ → ℕ → Option (Lane Mail)) → (ℕ → Option (Lane Cut)) → (ℕ → Option Lock) → Deeds
deeds_with setup gathered board lanes cuts keeps = record {
  setup = setup;
  ends = record {
    has = has_end setup gathered board.name lanes cuts keeps;
    board = board.name;
    lanes = λ w p. name_at (lanes w p);
    cut_lanes = λ p. name_at (cuts p);
  };
  did = record {
    outs = λ w p. sent_at said (lanes w p);
    ins = λ w p. taken_at said (lanes w p);
    cut_outs = λ p. sent_at said_cut (cuts p);
    cut_ins = λ p. taken_at said_cut (cuts p);
    seats = seats_of board.calls;
    keeps = λ p. kept_at (keeps p);
  };
  told = record {
    taken = λ w p. (taken_at said (lanes w p)).taken;
    sent = λ w p. (sent_at said (lanes w p)).sent;
    cut_taken = λ p. (taken_at said_cut (cuts p)).taken;
    cut_sent = λ p. (sent_at said_cut (cuts p)).sent;
    knows = λ who. verdicts_of (words_of board.calls);
  };
  words = words_of board.calls;
}

-- what the ends of the world did
abbrev pub deeds_of : {N V : Type 0} → Setup → PlainWorld N V → Deeds
deeds_of setup s = deeds_with setup s.gathered s.board (lane_of s) (cut_of s) (keep_of s)
