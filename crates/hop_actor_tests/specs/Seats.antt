-- What mapper 0's end of the board did.
use Rattle.std.specs.Prelude.{◌≡◌, ℕ, ◌+◌, ◌≢◌, true, [], ◌∷◌, ◌++◌}
use Rattle.hop_machine.specs.declared.words.Who.TheVariants as whose
use Rattle.hop_machine.specs.declared.words.Verdict.{Verdict}
use Rattle.hop_machine.specs.step.Steps.{Seat}
use Rattle.hop_board.specs.PlainBoards.{BoardValue, seats_of, words_of, verdicts_of}

-- its end of this board
abbrev pub seat : BoardValue → Seat
seat b = seats_of b.calls (whose.Mapper 0)

-- after it drew this number of split 0
abbrev pub drawn : ℕ → Seat → Seat
drawn n x = record x { drew = x.drew ++ (record { split = 0; number = n }) ∷ []; calls = x.calls + 1 }

-- after it committed this attempt of split 0
abbrev pub committed : ℕ → Verdict → Seat → Seat
committed a v x = record x { committed = x.committed ++ (record { split = 0; number = a }, v) ∷ [] }

-- the board knows another winner of split 0 than this attempt
pub record LostTo (winner attempt : ℕ) (b : BoardValue) : Type 0 where
  pub won : (verdicts_of (words_of b.calls)).won 0 winner ≡ true
  pub other : winner ≢ attempt
