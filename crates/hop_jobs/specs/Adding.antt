-- Values that are numbers alone, their sum, and the line of a key with a number.
use Rattle.std.specs.Prelude.{ℕ, ◌-◌, ◌^◌, List, [], ◌∷◌, ◌++◌, min, sum_by, decimal}
use Rattle.hop_base.specs.declared.value.Val.{Val}

-- a value of a number alone
abbrev pub number : ℕ → Val
number n = record { n = n; s = [] }

-- the sum of the numbers, which stops at the greatest
abbrev pub saturating_sum : List Val → ℕ
saturating_sum vs = min (sum_by (λ v. v.n) vs) (2 ^ 64 - 1)

-- the sum alone
abbrev pub sum_combined : List ℕ → List Val → List Val
sum_combined k vs = number (saturating_sum vs) ∷ []

-- the key, a tab, the number and a line feed
abbrev pub number_line : List ℕ → ℕ → List ℕ
number_line k n = k ++ 9 ∷ decimal n ++ 10 ∷ []

-- the key with the sum
abbrev pub sum_reduced : List ℕ → List Val → List ℕ
sum_reduced k vs = number_line k (saturating_sum vs)
