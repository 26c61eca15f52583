-- What a history covers, and all that there is.
use Rattle.std.specs.Prelude.{ℕ, Bool, true, List, [], ◌∷◌, length, map, filter, slice_index}
use Rattle.std.specs.List.{flat_map, range_with_len}
use Rattle.hop_base.specs.declared.part.Part.{Part}
use Rattle.hop_run.specs.Runs.{RunValue}
use Rattle.hop_event.specs.declared.event.Event.{Event}
use Rattle.hop_event.specs.Coverage.{declared}
use Rattle.hop_cut.specs.Covered.{part_declared}
use Rattle.hop_shelf.specs.declared.kept.Kept.{Kept}
use Rattle.hop_shelf.specs.declared.kept.Owner.{Owner}
use Rattle.hop_shelf.specs.declared.kept.Owner.TheVariants.{Committed, Attempt}
use Rattle.hop_shelf.specs.Covered.{declares}

-- the ranges that the history covers, by split
abbrev pub covered_by : Bool → List ℕ → List Event → List Part
covered_by tentative lens h = flat_map (λ i. part_declared i (declared tentative h i)) (range_with_len 0 (length lens))

-- whether the history covers a run: all committed runs, and those of the declared attempts
abbrev pub covers_owner : Bool → List Event → Owner → Bool
covers_owner tentative h Committed = true
covers_owner tentative h (Attempt i a) = declares (declared tentative h i) a

abbrev pub covered_runs : Bool → List Event → List Kept → List RunValue
covered_runs tentative h kept = map (λ k. k.run) (filter (λ k. covers_owner tentative h k.owner) kept)

-- all records of a split, by whichever attempt
abbrev pub whole_split : List ℕ → ℕ → Part
whole_split lens i = record { split = i; attempt = 0; from = 0; to = slice_index lens i }

-- all records of the run of the job
abbrev pub whole_parts : List ℕ → List Part
whole_parts lens = flat_map (λ i. whole_split lens i ∷ []) (range_with_len 0 (length lens))
