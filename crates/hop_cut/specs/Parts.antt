-- The two parts of a header, as they are read.
use Rattle.std.specs.Prelude.{◌≡◌, ℕ, ◌+◌, ◌<◌, ◌≤◌, Option, List, [], ◌∷◌, ◌++◌, length, map, All, codes}
use Rattle.hop_laws.specs.Laws.{IsName}
use Rattle.hop_event.specs.declared.declared.Declared.{Declared}
use Rattle.hop_cut.specs.declared.head.SplitLine.{SplitLine}
use Rattle.hop_cut.specs.Snapshot.{IsSplit, declared_part, format_line, job_line, mark_line, reducer_line, progress_line, split_lines, last_line, text_of}
use Rattle.hop_cut.specs.Lines.{IsSplitText}

-- the lines before those of the splits
abbrev pub first_lines : List ℕ → ℕ → ℕ → ℕ → ℕ → List (List ℕ)
first_lines name mark p r n = format_line ∷ job_line name ∷ mark_line mark ∷ reducer_line p r ∷ progress_line n ∷ []

-- the text begins with them, and each number is in its range
pub record IsFirstPart (text : List ℕ) (mark p r n : ℕ) (rest : List ℕ) : Type 0 where
  pub name : List ℕ
  pub named : IsName name
  pub mark_low : 1 ≤ mark
  pub mark_high : mark ≤ 10000
  pub below : p < r
  pub few : r ≤ 8
  pub progress_high : n ≤ 10000
  pub text_is : text ≡ text_of (first_lines name mark p r n) ++ rest

-- the text begins with the lines of splits and the last line
pub record IsSplitsPart (text : List ℕ) (declared : List (Option Declared)) (rest : List ℕ) : Type 0 where
  pub splits : List (Option SplitLine)
  pub each : All IsSplit splits
  pub few : length splits ≤ 1024
  pub declared_are : declared ≡ map declared_part splits
  pub text_is : text ≡ text_of (split_lines 0 splits ++ last_line ∷ []) ++ rest

-- the text begins with lines of splits, and neither one more nor the last line follows
pub record SplitsStop (text : List ℕ) (number : ℕ) : Type 0 where
  pub splits : List (Option SplitLine)
  pub rest : List ℕ
  pub each : All IsSplit splits
  pub few : length splits ≤ 1024
  pub number_is : number ≡ length splits + 6
  pub text_is : text ≡ text_of (split_lines 0 splits) ++ rest
  pub no_end : (after : List ℕ) → rest ≡ codes "--\n" ++ after → ⊥
  pub no_split : length splits < 1024 → (s : Option SplitLine) (after : List ℕ) → IsSplitText (length splits) rest s after → ⊥
