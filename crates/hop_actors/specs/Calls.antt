-- What the calls of a coordinator want of a reducer and give.
use Rattle.std.specs.Prelude.{◌≡◌, ℕ, ◌≤◌, false, List, length, All, Option, Some, None, Result, Ok, Err, slice_index}
use Rattle.hop_event.specs.Legal.{MayFinish}
use Rattle.hop_shelf.specs.Finish.{NamesBelow}
use Rattle.hop_machine.specs.step.Steps.{Deeds}
use Rattle.hop_machine.specs.actors.ReducerTurns.{Reducer, must_restart}
use Rattle.hop_machine.specs.home.ReducerHome.{NoneDue}
use Rattle.hop_machine.specs.home.Said.{history_of}

-- The history may be finished: all is there by this list, which has a number, at most 16, for each split, above each attempt that the history names.
pub record MayEnd (r : Reducer) (begun : List ℕ) (d : Deeds) : Type 0 where
  pub none_due : NoneDue r.number d
  pub no_restart : must_restart r.setup r.number (history_of d r.number) ≡ false
  pub each : length begun ≡ length r.setup.lens
  pub few : All (λ b. b ≤ 16) begun
  pub named : NamesBelow (slice_index begun) (history_of d r.number)
  pub done : MayFinish r.setup.lens (slice_index begun) (history_of d r.number)

-- what the machine finds where this is answered: nothing where memory was wanting
abbrev pub found : {A E : Type 0} → Result A E → Option A
found (Ok x) = Some x
found (Err e) = None
