-- What a coverage covers, and the snapshot of it.
use Rattle.std.specs.Prelude.{◌≡◌, ℕ, Option, None, Some, List, [], ◌∷◌, ◌++◌, length, slice_index_or}
use Rattle.std.specs.Option.{option_map}
use Rattle.std.specs.List.{flat_map, range_with_len}
use Rattle.hop_base.specs.Meaning.{Meaning}
use Rattle.hop_base.specs.declared.value.Val.{Val}
use Rattle.hop_base.specs.declared.value.Pair.{Pair}
use Rattle.hop_base.specs.declared.part.Part.{Part}
use Rattle.hop_laws.specs.Blocking.{blocking, part_records, part_pairs}
use Rattle.hop_laws.specs.Stands.{StandsFor}
use Rattle.hop_run.specs.Runs.{RunValue}
use Rattle.hop_event.specs.declared.declared.Declared.{Declared}
use Rattle.hop_event.specs.Coverage.{progress_of}
use Rattle.hop_cut.specs.declared.head.SplitLine.{SplitLine}
use Rattle.hop_cut.specs.declared.cut.Cut.{Cut}
use Rattle.hop_cut.specs.Snapshot.{Header, header_lines, text_of}

-- the first records of a split, as it declares them
abbrev pub part_declared : ℕ → Option Declared → List Part
part_declared i None = []
part_declared i (Some d) = record { split = i; attempt = d.attempt; from = 0; to = d.records } ∷ []

-- what split i declares
abbrev pub declared_at : List (Option Declared) → ℕ → Option Declared
declared_at coverage i = slice_index_or coverage i None

-- the ranges that a coverage covers, by split
abbrev pub covered_parts : List (Option Declared) → List Part
covered_parts coverage = flat_map (λ i. part_declared i (declared_at coverage i)) (range_with_len 0 (length coverage))

-- the records of these ranges, where a split has n of them
abbrev pub covered_records : List (List ℕ) → ℕ → List (Option Declared) → List (List ℕ)
covered_records records n coverage = flat_map (part_records records n) (covered_parts coverage)

-- the lines of the splits
abbrev pub declared_lines : List (Option Declared) → List ℕ → List (Option SplitLine)
declared_lines [] lens = []
declared_lines (d ∷ coverage) [] = []
declared_lines (d ∷ coverage) (len ∷ lens) = option_map (λ d. record { declared = d; len = len }) d ∷ declared_lines coverage lens

-- the header of a snapshot of partition p of r
abbrev pub header_of : List ℕ → ℕ → ℕ → ℕ → ℕ → List ℕ → List (Option Declared) → Header
header_of name mark p r progress lens coverage = record { name = name; mark = mark; reducer = p; reducers = r; progress = progress; splits = declared_lines coverage lens }

-- a header with its body
abbrev pub text_with : Header → List ℕ → List ℕ
text_with header body = text_of (header_lines header) ++ body

-- the snapshot at a mark of partition p of r, of what the coverage covers: the blocking job's text of just those records
abbrev pub snapshot_text : Meaning → List (List ℕ) → ℕ → ℕ → ℕ → List ℕ → ℕ → List (Option Declared) → List ℕ
snapshot_text meaning records n p r lens mark coverage =
    text_with (header_of meaning.name mark p r (progress_of lens (declared_at coverage)) lens coverage) (blocking meaning (covered_records records n coverage) p r)

-- these runs stand together for the pairs
abbrev pub StandTogether : (List ℕ → List Val → List ℕ) → List RunValue → List Pair → Type 0
StandTogether reduce runs pairs = StandsFor reduce (flat_map (λ r. r.sheet) runs) pairs

-- the cut has the progress of what it declares, and its runs stand together for those ranges
pub record IsOfCoverage (meaning : Meaning) (records : List (List ℕ)) (n p r : ℕ) (lens : List ℕ) (cut : Cut) : Type 0 where
  pub progress_is : cut.progress ≡ progress_of lens (declared_at cut.declared)
  pub stands : StandTogether meaning.reduced cut.runs (flat_map (part_pairs meaning records n p r) (covered_parts cut.declared))
