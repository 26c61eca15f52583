-- What a press holds for each lane, and the machine's messages that it stands for.
use Rattle.std.specs.Prelude.{◌≡◌, ℕ, List, [], ◌∷◌, map, is_ok, slice_index_or, slice_set, Option, None, Some, Result}
use Rattle.hop_machine.specs.declared.words.Message.{Message as Said}
use Rattle.hop_machine.specs.declared.words.Message.TheVariants as machine
use Rattle.hop_machine.specs.actors.MapperTurns.{Lane, Lanes}
use Rattle.hop_inner.specs.declared.message.Message.{Message}
use Rattle.hop_inner.specs.Messages.{said}
use Rattle.hop_press.specs.declared.row.Row.{Row}
use Rattle.hop_press.specs.declared.row.Row.TheVariants.{Range, Notice}

-- what is held for a lane: a ready message, and the rows behind it
pub record LaneValue (K : Type 0) : Type 0 where
  pub ready : Option (Message K)
  pub rows : List (Row K)

-- nothing is held
abbrev pub no_lane : {K : Type 0} → LaneValue K
no_lane = record { ready = None; rows = [] }

-- a row stands as its range, or as the attempt of its notice
abbrev pub said_row : {K : Type 0} → Row K → Said
said_row (Range part) = machine.Range part
said_row (Notice i a known) = machine.Notice i a

-- the ready message before the rows
abbrev pub said_first : {K : Type 0} → Option (Message K) → List Said → List Said
said_first None rows = rows
said_first (Some m) rows = said m ∷ rows

-- what is held for a lane, as one list of messages
abbrev pub said_lane : {K : Type 0} → LaneValue K → List Said
said_lane lane = said_first lane.ready (map said_row lane.rows)

-- what is held for each lane
abbrev pub said_lanes : {K : Type 0} → List (LaneValue K) → List (List Said)
said_lanes lanes = map said_lane lanes

-- what is held for lane p
abbrev pub lane_at : {K : Type 0} → List (LaneValue K) → ℕ → LaneValue K
lane_at lanes p = slice_index_or lanes p no_lane

-- Where a lane has no ready message, it has no rows. It is so but after a flush that failed, which leaves the
-- row that it couldn't fetch where it was.
abbrev pub IsReady : {K : Type 0} → LaneValue K → Type 0
IsReady lane = lane.ready ≡ None → lane.rows ≡ []

-- so of each lane
abbrev pub AreReady : {K : Type 0} → List (LaneValue K) → Type 0
AreReady lanes = (p : ℕ) → IsReady (lane_at lanes p)

-- what a call at a lane leaves, read as its program's answer: it went on exactly where it answered Ok
abbrev pub lane_left : {A E : Type 0} → Result A E → List Said → Lane
lane_left result held = record { went = is_ok result; held = held }

-- the same of a call at all lanes
abbrev pub lanes_left : {A E : Type 0} → Result A E → List (List Said) → Lanes
lanes_left result held = record { went = is_ok result; held = held }

-- lane p may have changed, and no other one
abbrev pub OnlyAt : {K : Type 0} → ℕ → List (LaneValue K) → List (LaneValue K) → Type 0
OnlyAt p old new = new ≡ slice_set old p (lane_at new p)
