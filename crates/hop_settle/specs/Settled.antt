-- What a run has behind it once its mappers have ended and its lanes are empty.
use Rattle.std.specs.Prelude.{◌≡◌, ℕ, ◌<◌, Bool, []}
use Rattle.hop_machine.specs.step.Steps.{rules_of, Deeds}
use Rattle.hop_machine.specs.board.Board.{Gathered}
use Rattle.hop_machine.specs.play.Play.{World, Went, Listed, Emptying}
use Rattle.hop_machine.specs.settling.Settling.{AllMet}

-- The mappers ended at b, where both ends of each lane were told of each other; so they were after the turns of so many reducers, when the ends of the board were gathered.
pub record WorkedOff (e : Bool) (reducers : ℕ) (a c : World) : Type 0 where
  pub b : World
  pub passes : Went e (Listed [], a) (Emptying 0, b)
  pub met : AllMet b.deeds
  pub drains : Went e (Emptying 0, b) (Emptying reducers, c)
  pub again : AllMet c.deeds
  pub gathered : Gathered (rules_of c.deeds.setup) c.deeds

-- the cut lanes are empty: of each, all that its reducer sent was taken
abbrev pub AllCutsTaken : Deeds → Type 0
AllCutsTaken d = (p : ℕ) → p < d.setup.reducers → (d.did.cut_ins p).taken ≡ (d.did.cut_outs p).sent
