-- The ranges of the lists of numbers.
use Rattle.std.specs.Prelude.{ℕ, ◌<◌, ◌≤◌, List, [], ◌∷◌, length, All}

-- a number of records that a split may have
pub record IsLen (len : ℕ) : Type 0 where
  pub some : 1 ≤ len
  pub few : len ≤ 16777216

-- the record counts of the splits of an input
pub record AreLens (lens : List ℕ) : Type 0 where
  pub few : length lens ≤ 1024
  pub each : All IsLen lens

-- the greatest of ascending marks, 0 where there is none
abbrev pub last_mark : List ℕ → ℕ
last_mark [] = 0
last_mark (m ∷ []) = m
last_mark (m ∷ n ∷ marks) = last_mark (n ∷ marks)

-- each mark is above the one before it, the first above `low`, and none is above 10,000
abbrev pub AscendFrom : ℕ → List ℕ → Type 0
AscendFrom low [] = Unit {0}
AscendFrom low (m ∷ marks) = (low < m) × (m ≤ 10000) × AscendFrom m marks

-- marks of a run
pub record AreMarks (marks : List ℕ) : Type 0 where
  pub few : length marks ≤ 16
  pub ascending : AscendFrom 0 marks
