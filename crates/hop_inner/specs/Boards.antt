-- What an actor's end of the board may be asked, and what it shows of the whole.
use Rattle.std.specs.Prelude.{◌≡◌, ℕ, ◌⊎◌, true, Option, Some, None}
use Rattle.hop_machine.specs.declared.words.Who.{Who}
use Rattle.hop_machine.specs.declared.words.Who.TheVariants as whose
use Rattle.hop_machine.specs.step.Steps.{Deeds, Verdicts, BoardEnd, Step, Send, Take, NextSplit, Draw, Commit, Revoke, AskWinner, AskRevoked, Join, TryHold, Hold, Record, GiveBack, SendCut, TakeCut, Risk}
use Rattle.hop_machine.specs.home.Conditions.{May}
use Rattle.hop_inner.specs.Setups.{parts}

-- it is the end of a mapper, which may make this step
pub record MayAsMapper (who : Who) (step : ℕ → Step) (d : Deeds) : Type 0 where
  pub number : ℕ
  pub mapper : who ≡ whose.Mapper number
  pub may : May parts (step number) d

-- it knows that the attempt won or is revoked
abbrev pub KnowsVerdict : Verdicts → ℕ → ℕ → Type 0
KnowsVerdict k i a = (k.won i a ≡ true) ⊎ (k.gone i a ≡ true)

-- What the end of an actor shows is what the whole shows of it.
pub record IsEndOf (who : Who) (b d : Deeds) : Type 0 where
  pub setup : b.setup ≡ d.setup
  pub board : b.ends.board ≡ d.ends.board
  pub here : b.ends.has (BoardEnd who) ≡ true
  pub seat : b.did.seats who ≡ d.did.seats who
  pub knows : b.told.knows who ≡ d.told.knows who

-- whose end of the board makes this step
abbrev pub boards_step : Step → Option Who
boards_step (NextSplit w) = Some (whose.Mapper w)
boards_step (Draw w i) = Some (whose.Mapper w)
boards_step (Commit w i a) = Some (whose.Mapper w)
boards_step (Revoke w i a) = Some (whose.Mapper w)
boards_step (AskWinner who i) = Some who
boards_step (AskRevoked who i a) = Some who
boards_step (Join p i a) = Some (whose.Reducer p)
boards_step (Send w p m) = None
boards_step (Take w p) = None
boards_step (TryHold p) = None
boards_step (Hold p) = None
boards_step (Record p e) = None
boards_step (GiveBack p due) = None
boards_step (SendCut p c) = None
boards_step (TakeCut p) = None
boards_step Risk = None
