-- What the coordinator tells ends of each other: of lanes, and of the board.
use Rattle.std.specs.Prelude.{◌≡◌, ℕ, Bool, true, false, not, ◌&&◌, List, ◌++◌}
use Rattle.hop_machine.specs.declared.words.Who.TheVariants as whose
use Rattle.hop_machine.specs.board.Board.{Gathered}
use Rattle.hop_machine.specs.step.Steps.{End, OutEnd, InEnd, CutOutEnd, CutInEnd, BoardEnd, KeepEnd, Ends, rules_of}
use Rattle.hop_machine.specs.step.Steps.{CutSaid, Deeds, Grows, Begins, at1, at2}

-- The two ends of the lane from mapper w to reducer p were each told of the other's whole list, and no end did anything.
pub record Meets (w p : ℕ) (a b : Deeds) : Type 0 where
  pub changes : b ≡ record a { told = record a.told { taken = at2 a.told.taken w p (a.did.ins w p).taken; sent = at2 a.told.sent w p (a.did.outs w p).sent } }
  pub grows : Grows a.told b.told
  pub follows : Begins (a.did.ins w p).taken (a.did.outs w p).sent

-- The same of reducer p's cut lane.
pub record CutMeets (p : ℕ) (a b : Deeds) : Type 0 where
  pub changes : b ≡ record a { told = record a.told { cut_taken = at1 a.told.cut_taken p (a.did.cut_ins p).taken; cut_sent = at1 a.told.cut_sent p (a.did.cut_outs p).sent } }
  pub grows : Grows a.told b.told
  pub follows : Begins (a.did.cut_ins p).taken (a.did.cut_outs p).sent

-- after a meet of reducer p's cut lane: each end is told of the other's whole list
pub record CutMet (d : Deeds) (p : ℕ) : Type 0 where
  pub taken : d.told.cut_taken p ≡ (d.did.cut_ins p).taken
  pub sent : d.told.cut_sent p ≡ (d.did.cut_outs p).sent
  pub begins : (more : List CutSaid) × ((d.did.cut_outs p).sent ≡ (d.did.cut_ins p).taken ++ more)

-- # The ends of the board

-- whether it is a mapper's end of the board
abbrev pub is_mappers_board : End → Bool
is_mappers_board (BoardEnd (whose.Mapper w)) = true
is_mappers_board (BoardEnd (whose.Reducer p)) = false
is_mappers_board (BoardEnd (whose.Merger j)) = false
is_mappers_board (BoardEnd whose.Writer) = false
is_mappers_board (OutEnd w p) = false
is_mappers_board (InEnd w p) = false
is_mappers_board (CutOutEnd p) = false
is_mappers_board (CutInEnd p) = false
is_mappers_board (KeepEnd p) = false

-- all ends but those of the mappers at the board
abbrev pub without_mappers : Ends → Ends
without_mappers ends = record ends { has = λ end. ends.has end && not (is_mappers_board end) }

-- The ends of the board were gathered: what is known of all of them together is so, and no mapper has one any more. No end did anything.
pub record Gathers (a b : Deeds) : Type 0 where
  pub changes : b ≡ record a { ends = without_mappers a.ends }
  pub gathered : Gathered (rules_of a.setup) a
