-- A cut of a mark.
use Rattle.std.specs.Prelude.{◌≡◌, ℕ, Bool, Some, List, length, map, All, Contains, IsTrue}
use Rattle.std.specs.List.{flat_map, range_with_len}
use Rattle.hop_base.specs.declared.value.Val.{Val}
use Rattle.hop_base.specs.declared.value.Pair.{Pair}
use Rattle.hop_base.specs.declared.part.Part.{Part}
use Rattle.hop_event.specs.Coverage.{declared, progress, cut_at, first_reached}
use Rattle.hop_cut.specs.declared.cut.Cut.{Cut}
use Rattle.hop_cut.specs.Covered.{covered_parts, StandTogether}
use Rattle.hop_shelf.specs.Journal.{JournalValue}

-- The history first reaches the cut's mark here, and the cut has its coverage and its progress, with
-- runs that stand together for the covered ranges.
pub record IsCut (tells : Bool) (reduce : List ℕ → List Val → List ℕ) (pairs_of : Part → List Pair) (j : JournalValue) (cut : Cut) : Type 0 where
  pub first : cut_at j.tentative j.lens cut.mark j.events ≡ Some j.events
  pub progress_is : cut.progress ≡ progress j.tentative j.lens j.events
  pub declared_is : cut.declared ≡ map (declared j.tentative j.events) (range_with_len 0 (length j.lens))
  pub stands : IsTrue tells → StandTogether reduce cut.runs (flat_map pairs_of (covered_parts cut.declared))

-- the cuts that are due are those of the marks that the last event, or the empty history, first reached
abbrev pub AreDue : JournalValue → Type 0
AreDue j = j.due ≡ first_reached j.tentative j.lens j.marks j.events

-- each mark that the history first reaches here is among these
abbrev pub AreAllCut : JournalValue → List ℕ → Type 0
AreAllCut j cut = All (λ m. cut_at j.tentative j.lens m j.events ≡ Some j.events → Contains cut m) j.marks
