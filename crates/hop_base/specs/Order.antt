-- The order of keys, values and pairs, and valid values.
use Rattle.std.specs.Prelude.{ℕ, ◌<◌, ◌≤◌, ◌^◌, List, length, All, IsSorted}
use Rattle.std.specs.declared.cmp.Ordering.{Ordering}
use Rattle.std.specs.Ordering.{nat_cmp, ordering_then}
use Rattle.std.specs.Cmp.Lexicographic.{slice_cmp}
use Rattle.hop_base.specs.declared.value.Val.{Val}
use Rattle.hop_base.specs.declared.value.Pair.{Pair}

-- byte order
abbrev pub key_cmp : List ℕ → List ℕ → Ordering
key_cmp = slice_cmp nat_cmp

-- by number, and then by text
abbrev pub val_cmp : Val → Val → Ordering
val_cmp a b = ordering_then (nat_cmp a.n b.n) (key_cmp a.s b.s)

-- by key, and then by value
abbrev pub pair_cmp : Pair → Pair → Ordering
pair_cmp a b = ordering_then (key_cmp a.key b.key) (val_cmp a.val b.val)

-- a key within the limit
abbrev pub IsKey : List ℕ → Type 0
IsKey k = length k ≤ 131071

-- a value within the limits
pub record IsValid (v : Val) : Type 0 where
  pub number : v.n < 2 ^ 64
  pub text : length v.s ≤ 131071

-- a pair within the limits
pub record IsValidPair (p : Pair) : Type 0 where
  pub key : IsKey p.key
  pub value : IsValid p.val

-- pairs in order, each within the limits
pub record IsSheet (ps : List Pair) : Type 0 where
  pub sorted : IsSorted pair_cmp ps
  pub valid : All IsValidPair ps
