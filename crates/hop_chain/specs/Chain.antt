-- The later jobs of a chain: each is the blocking job over the texts of the job before it.
use Rattle.std.specs.Prelude.{◌≡◌, ℕ, ◌≤◌, ◌-◌, List, [], ◌∷◌, length, All, slice_index_or}
use Rattle.std.specs.List.{concat}
use Rattle.hop_base.specs.Meaning.{Meaning}
use Rattle.hop_fold.specs.Within.{records_within}
use Rattle.hop_laws.specs.Blocking.{blocking, blocking_texts}
use Rattle.hop_laws.specs.Laws.{EndsLine}
use Rattle.hop_records.specs.Records.{IsShort, records_of}

-- a job over the texts of the job before it, joined in the order of the partitions
abbrev pub next_texts : Meaning → List (List ℕ) → ℕ → List (List ℕ)
next_texts meaning texts r = blocking_texts meaning (records_of (concat texts)) r

-- the texts of each later job: the first is over these texts, each other over those of the job before it
abbrev pub later_texts : List Meaning → List (List ℕ) → ℕ → List (List (List ℕ))
later_texts [] texts r = []
later_texts (meaning ∷ meanings) texts r = next_texts meaning texts r ∷ later_texts meanings (next_texts meaning texts r) r

-- the job over those records of the texts that have at most 65,556 bytes; longer ones are left out
abbrev pub chained_first : Meaning → List (List ℕ) → ℕ → List (List ℕ)
chained_first meaning texts r = blocking_texts meaning (records_within 65556 texts) r

-- the same, where the first job leaves out the long records of these texts
abbrev pub chained_texts : List Meaning → List (List ℕ) → ℕ → List (List (List ℕ))
chained_texts [] texts r = []
chained_texts (meaning ∷ meanings) texts r = chained_first meaning texts r ∷ later_texts meanings (chained_first meaning texts r) r

-- the texts of the last job, or these where there is none
abbrev pub last_texts : List (List ℕ) → List (List (List ℕ)) → List (List ℕ)
last_texts texts all = slice_index_or all (length all - 1) texts

-- ---- what a job can read

-- no record of the joined texts has more than n bytes
abbrev pub HasShortRecords : ℕ → List (List ℕ) → Type 0
HasShortRecords n texts = All (λ line. length line ≤ n) (records_of (concat texts))

-- the text ends its last line, and none has more than n bytes
pub record HasShortLines (n : ℕ) (text : List ℕ) : Type 0 where
  pub ended : EndsLine text
  pub short : All (λ line. length line ≤ n) (records_of text)

-- the job's text of some partition, over some records of an input
pub record IsTextOf (meaning : Meaning) (text : List ℕ) : Type 0 where
  pub records : List (List ℕ)
  pub partition : ℕ
  pub partitions : ℕ
  pub short : All IsShort records
  pub is : text ≡ blocking meaning records partition partitions
