-- The job that finds the greatest number of each key.
use Rattle.std.specs.Prelude.{ℕ, List, [], ◌∷◌, max, codes}
use Rattle.hop_base.specs.declared.value.Val.{Val}
use Rattle.hop_base.specs.Meaning.{Meaning}
use Rattle.hop_jobs.specs.Adding.{number, number_line}
use Rattle.hop_jobs.specs.Numbered.{numbered_emits}

-- the greatest of the numbers, and 0 of none
abbrev pub greatest : List Val → ℕ
greatest [] = 0
greatest (v ∷ vs) = max v.n (greatest vs)

-- the greatest number alone
abbrev pub max_combined : List ℕ → List Val → List Val
max_combined k vs = number (greatest vs) ∷ []

-- the key with the greatest number
abbrev pub max_reduced : List ℕ → List Val → List ℕ
max_reduced k vs = number_line k (greatest vs)

-- the greatest number of a key is kept
abbrev pub max_meaning : Meaning
max_meaning = record { name = codes "max"; emits = numbered_emits; combined = max_combined; reduced = max_reduced }
