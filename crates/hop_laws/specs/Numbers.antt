-- Numbers alone, and pairs by their places.
use Rattle.std.specs.Prelude.{◌≡◌, ℕ, zero, suc, List, [], ◌∷◌, Option, IfSome, All}
use Rattle.hop_base.specs.declared.value.Pair.{Pair}
use Rattle.hop_base.specs.declared.value.Val.{Val}
use Rattle.hop_base.specs.Meaning.{Meaning}
use Rattle.hop_base.specs.Fields.{pair_of}
use Rattle.hop_base.specs.Order.{val_cmp, IsValid}
use Rattle.hop_base.specs.Sorted.{ord}

-- a value that is a number alone
abbrev pub number_val : ℕ → Val
number_val n = record { n = n; s = [] }

-- Whatever the key is, combine gives this number of the two, and gives the same of it as of the two, whatever values are there besides.
pub record IsOneForBoth (combine : List ℕ → List Val → List Val) (a b n : ℕ) : Type 0 where
  pub alone : (key : List ℕ) → combine key (ord val_cmp (number_val a ∷ number_val b ∷ [])) ≡ number_val n ∷ []
  pub among : (key : List ℕ) (ws : List Val) → All IsValid ws → combine key (ord val_cmp (number_val a ∷ number_val b ∷ ws)) ≡ combine key (ord val_cmp (number_val n ∷ ws))

-- what a job tells of these two numbers: where it is a number, that is one for both
abbrev pub JoinsTo : Meaning → ℕ → ℕ → Option ℕ → Type 0
JoinsTo job a b one = IfSome one (IsOneForBoth job.combined a b)

-- pair k is there, and is p
abbrev pub IsAt : List Pair → ℕ → Pair → Type 0
IsAt [] k p = ⊥
IsAt (q ∷ ps) zero p = q ≡ p
IsAt (q ∷ ps) (suc k) p = IsAt ps k p

-- pair k with another number
abbrev pub renumbered : List Pair → ℕ → ℕ → List Pair
renumbered [] k n = []
renumbered (p ∷ ps) zero n = pair_of p.key n p.val.s ∷ ps
renumbered (p ∷ ps) (suc k) n = p ∷ renumbered ps k n
