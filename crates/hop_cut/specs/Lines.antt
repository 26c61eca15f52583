-- The lines of a header at the beginning of a text, each with what follows it.
use Rattle.std.specs.Prelude.{◌≡◌, ℕ, ◌<◌, ◌≤◌, Bool, Option, List, ◌∷◌, ◌++◌, decimal, codes}
use Rattle.hop_laws.specs.Laws.{IsName}
use Rattle.hop_cut.specs.declared.head.SplitLine.{SplitLine}
use Rattle.hop_cut.specs.Snapshot.{IsSplitLine, IsSplit, kind_words, split_words, job_line}

pub record IsJobLine (text name rest : List ℕ) : Type 0 where
  pub named : IsName name
  pub text_is : text ≡ job_line name ++ (10 ∷ rest)

-- a piece and one number in its range
pub record IsNumberLine (piece : List ℕ) (low high : ℕ) (text : List ℕ) (n : ℕ) (rest : List ℕ) : Type 0 where
  pub low_is : low ≤ n
  pub high_is : n ≤ high
  pub text_is : text ≡ piece ++ (decimal n ++ (10 ∷ rest))

pub record IsReducerLine (text : List ℕ) (p r : ℕ) (rest : List ℕ) : Type 0 where
  pub below : p < r
  pub few : r ≤ 8
  pub text_is : text ≡ codes "reducer " ++ (decimal p ++ (codes " of " ++ (decimal r ++ (10 ∷ rest))))

abbrev pub IsKind : List ℕ → Bool → List ℕ → Type 0
IsKind text committed rest = text ≡ kind_words committed ++ (10 ∷ rest)

-- what the words behind a split's number declare
pub record IsWordsOf (text : List ℕ) (s : SplitLine) (rest : List ℕ) : Type 0 where
  pub ranges : IsSplitLine s
  pub text_is : text ≡ codes " attempt " ++ (decimal s.declared.attempt ++ (codes " records " ++ (decimal s.declared.records ++ (codes " of " ++ (decimal s.len ++ (kind_words s.declared.committed ++ (10 ∷ rest)))))))

pub record IsSplitText (i : ℕ) (text : List ℕ) (s : Option SplitLine) (rest : List ℕ) : Type 0 where
  pub ranges : IsSplit s
  pub text_is : text ≡ codes "split " ++ (decimal i ++ (split_words s ++ (10 ∷ rest)))
