-- Small histories whose cuts are worked out by hand.
use Rattle.std.specs.Prelude.{ℕ, List, [], ◌∷◌, Option}
use Rattle.hop_base.specs.Run.{no_lines}
use Rattle.hop_event.specs.declared.declared.Declared.{Declared}
use Rattle.hop_event.specs.declared.event.Event.{Event}
use Rattle.hop_event.specs.declared.event.Event.TheVariants.{Arrive, Restart}
use Rattle.hop_event.specs.declared.event.Via.TheVariants.{Lane}
use Rattle.hop_machine.specs.step.Steps.{Setup, CutSaid}
use Rattle.hop_machine.specs.play.Worked.{small, range}

-- a run with splits of these sizes and three marks
abbrev pub with_marks : List ℕ → Setup
with_marks lens = small lens no_lines (2000 ∷ 5000 ∷ 8000 ∷ [])

-- the cut of a mark
abbrev pub cut_said : ℕ → ℕ → List (Option Declared) → CutSaid
cut_said mark progress declared = record { mark = mark; progress = progress; declared = declared }

-- The first of the two records of split 0 arrives, which reaches two marks.
abbrev pub half_arrived : List Event
half_arrived = Arrive (range 0 0 0 1) (Lane 0) ∷ []

-- Then the reducer restarts, below these marks, and the same record arrives again.
abbrev pub half_again : List Event
half_again = Arrive (range 0 0 0 1) (Lane 0) ∷ Restart ∷ half_arrived

-- Then the other one arrives, which reaches the third mark.
abbrev pub all_arrived : List Event
all_arrived = Arrive (range 0 0 1 2) (Lane 0) ∷ half_again
