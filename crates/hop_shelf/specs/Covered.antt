-- What a history covers, and the runs of it.
use Rattle.std.specs.Prelude.{◌≡◌, ℕ, ◌≤◌, ◌==◌, Bool, true, false, Option, Some, None, List, [], ◌++◌, All, slice_index_or}
use Rattle.hop_base.specs.declared.value.Pair.{Pair}
use Rattle.hop_base.specs.Order.{IsValidPair}
use Rattle.hop_base.specs.declared.part.Part.{Part}
use Rattle.hop_event.specs.declared.declared.Declared.{Declared}
use Rattle.hop_shelf.specs.declared.kept.Owner.{Owner}
use Rattle.hop_shelf.specs.declared.kept.Owner.TheVariants.{Committed, Attempt}

-- whether it is this attempt that is declared
abbrev pub declares : Option Declared → ℕ → Bool
declares None a = false
declares (Some d) a = d.attempt == a

-- what a range emits is what its two pieces emit
pub record IsOfRanges (pairs_of : Part → List Pair) : Type 0 where
  pub nothing : (i a n : ℕ) → pairs_of (record { split = i; attempt = a; from = n; to = n }) ≡ []
  pub pieces : (i a n m t : ℕ) → n ≤ m → m ≤ t → pairs_of (record { split = i; attempt = a; from = n; to = t }) ≡ pairs_of (record { split = i; attempt = a; from = n; to = m }) ++ pairs_of (record { split = i; attempt = a; from = m; to = t })
  pub valid : (q : Part) → All IsValidPair (pairs_of q)

-- whether these declarations cover a run
abbrev pub covers_in : List (Option Declared) → Owner → Bool
covers_in declarations Committed = true
covers_in declarations (Attempt i a) = declares (slice_index_or declarations i None) a

-- what a range emits is the same for every attempt
pub record IsByRecords (pairs_of : Part → List Pair) : Type 0 where
  pub ranges : IsOfRanges pairs_of
  pub alike : (i a b n t : ℕ) → pairs_of (record { split = i; attempt = a; from = n; to = t }) ≡ pairs_of (record { split = i; attempt = b; from = n; to = t })
