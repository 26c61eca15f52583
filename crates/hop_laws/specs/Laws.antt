-- The laws of a job.
use Rattle.std.specs.Prelude.{◌≡◌, ◌≢◌, ℕ, ◌+◌, ◌<◌, ◌≤◌, ◌==◌, List, [], ◌∷◌, ◌++◌, length, All, IsSorted}
use Rattle.std.specs.List.{slice_split}
use Rattle.hop_base.specs.declared.value.Val.{Val}
use Rattle.hop_base.specs.declared.value.Pair.{Pair}
use Rattle.hop_base.specs.Meaning.{Meaning}
use Rattle.hop_base.specs.Order.{val_cmp, IsValid, IsValidPair}
use Rattle.hop_base.specs.Sorted.{ord}

-- a line's pairs are few and within the limits, and no key and no text is longer than the line
pub record EmitsWell (line : List ℕ) (pairs : List Pair) : Type 0 where
  pub few : length pairs ≤ 65536
  pub valid : All IsValidPair pairs
  pub keys : All (λ p. length p.key ≤ length line) pairs
  pub texts : All (λ p. length p.val.s ≤ length line) pairs

-- values that were combined are some, in order, within the limits, no more than before, and their texts are no longer
pub record CombinesWell (vals combined : List Val) : Type 0 where
  pub some : 0 < length combined
  pub sorted : IsSorted val_cmp combined
  pub valid : All IsValid combined
  pub few : length combined ≤ length vals
  pub texts : (n : ℕ) → All (λ v. length v.s ≤ n) vals → All (λ v. length v.s ≤ n) combined

-- Combine always does so, for values in order.
abbrev pub AlwaysCombinesWell : (List ℕ → List Val → List Val) → Type 0
AlwaysCombinesWell combine = (k : List ℕ) (vs : List Val) → 0 < length vs → All IsValid vs → CombinesWell vs (combine k (ord val_cmp vs))

-- Reduce doesn't tell values from what they were combined to, whatever further values join them.
abbrev pub ReducesAlike : (List ℕ → List Val → List Val) → (List ℕ → List Val → List ℕ) → Type 0
ReducesAlike combine reduce = (k : List ℕ) (vs ws : List Val) → 0 < length vs → All IsValid vs → All IsValid ws → reduce k (ord val_cmp (combine k (ord val_cmp vs) ++ ws)) ≡ reduce k (ord val_cmp (vs ++ ws))

-- the last byte is a line feed
abbrev pub EndsLine : List ℕ → Type 0
EndsLine [] = Unit {0}
EndsLine (b ∷ []) = b ≡ 10
EndsLine (b ∷ c ∷ text) = EndsLine (c ∷ text)

-- whole lines, each without its line feed at most n bytes long
pub record IsWholeLines (n : ℕ) (text : List ℕ) : Type 0 where
  pub ended : EndsLine text
  pub short : All (λ line. length line ≤ n) (slice_split (λ b. b == 10) text)

-- Reduce writes whole lines, each at most 21 bytes longer than the longest of the key and the texts.
abbrev pub WritesLines : (List ℕ → List Val → List ℕ) → Type 0
WritesLines reduce = (n : ℕ) (k : List ℕ) (vs : List Val) → length k ≤ n → All (λ v. length v.s ≤ n) vs → All IsValid vs → IsWholeLines (n + 21) (reduce k (ord val_cmp vs))

-- a name of one or more bytes, without line feed and space
pub record IsName (name : List ℕ) : Type 0 where
  pub some : 0 < length name
  pub no_line_feed : All (λ b. b ≢ 10) name
  pub no_space : All (λ b. b ≢ 32) name

-- the laws of a job
pub record IsLawful (meaning : Meaning) : Type 0 where
  pub named : IsName meaning.name
  pub emits_well : (line : List ℕ) → length line ≤ 131050 → EmitsWell line (meaning.emits line)
  pub combines_well : AlwaysCombinesWell meaning.combined
  pub reduces_alike : ReducesAlike meaning.combined meaning.reduced
  pub writes_lines : WritesLines meaning.reduced
