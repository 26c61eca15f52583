-- The header of a snapshot, by its lines.
use Rattle.std.specs.Prelude.{◌≡◌, ◌≢◌, ℕ, ◌+◌, ◌<◌, ◌≤◌, Bool, true, false, Option, None, Some, List, [], ◌∷◌, ◌++◌, length, map, All, slice_index_or, decimal, codes}
use Rattle.std.specs.Option.{option_map}
use Rattle.hop_laws.specs.Laws.{IsName}
use Rattle.hop_event.specs.declared.declared.Declared.{Declared}
use Rattle.hop_cut.specs.declared.head.SplitLine.{SplitLine}
use Rattle.hop_cut.specs.declared.head.SnapHead.{SnapHead}

-- what a header says: the job's name, the mark, which reducer of how many, the progress, and of each
-- split, in order, nothing or what it declares with the split's record count
pub record Header : Type 0 where
  pub name : List ℕ
  pub mark : ℕ
  pub reducer : ℕ
  pub reducers : ℕ
  pub progress : ℕ
  pub splits : List (Option SplitLine)

-- what a line may say of a split
pub record IsSplitLine (line : SplitLine) : Type 0 where
  pub attempt : line.declared.attempt ≤ 15
  pub some : 1 ≤ line.declared.records
  pub within : line.declared.records ≤ line.len
  pub len : line.len ≤ 16777216

abbrev pub IsSplit : Option SplitLine → Type 0
IsSplit None = Unit {0}
IsSplit (Some line) = IsSplitLine line

-- each number is in its range, and there are at most 1,024 splits
pub record IsHeader (h : Header) : Type 0 where
  pub named : IsName h.name
  pub mark_low : 1 ≤ h.mark
  pub mark_high : h.mark ≤ 10000
  pub below : h.reducer < h.reducers
  pub few_reducers : h.reducers ≤ 8
  pub progress_high : h.progress ≤ 10000
  pub few : length h.splits ≤ 1024
  pub each : All IsSplit h.splits

abbrev pub format_line : List ℕ
format_line = codes "hop-snapshot 1"

abbrev pub job_line : List ℕ → List ℕ
job_line name = codes "job " ++ name

abbrev pub mark_line : ℕ → List ℕ
mark_line mark = codes "mark " ++ decimal mark

abbrev pub reducer_line : ℕ → ℕ → List ℕ
reducer_line p r = codes "reducer " ++ (decimal p ++ (codes " of " ++ decimal r))

abbrev pub progress_line : ℕ → List ℕ
progress_line n = codes "progress " ++ decimal n

abbrev pub kind_words : Bool → List ℕ
kind_words true = codes " committed"
kind_words false = codes " tentative"

abbrev pub split_words : Option SplitLine → List ℕ
split_words None = codes " none"
split_words (Some s) = codes " attempt " ++ (decimal s.declared.attempt ++ (codes " records " ++ (decimal s.declared.records ++ (codes " of " ++ (decimal s.len ++ kind_words s.declared.committed)))))

abbrev pub split_line : ℕ → Option SplitLine → List ℕ
split_line i s = codes "split " ++ (decimal i ++ split_words s)

-- the lines of the splits, numbered from here
abbrev pub split_lines : ℕ → List (Option SplitLine) → List (List ℕ)
split_lines i [] = []
split_lines i (s ∷ splits) = split_line i s ∷ split_lines (i + 1) splits

abbrev pub last_line : List ℕ
last_line = codes "--"

-- the lines of a header
abbrev pub header_lines : Header → List (List ℕ)
header_lines h = format_line ∷ job_line h.name ∷ mark_line h.mark ∷ reducer_line h.reducer h.reducers ∷ progress_line h.progress ∷ (split_lines 0 h.splits ++ last_line ∷ [])

-- the lines, each with its line feed
abbrev pub text_of : List (List ℕ) → List ℕ
text_of [] = []
text_of (line ∷ lines) = line ++ (10 ∷ text_of lines)

-- some header has this line at this place, counted from 0
pub record IsDue (place : ℕ) (line : List ℕ) : Type 0 where
  pub header : Header
  pub ranges : IsHeader header
  pub within : place < length (header_lines header)
  pub line_is : slice_index_or (header_lines header) place [] ≡ line

-- The text begins with so many lines, less one, that are due at their places and don't end a header, and no
-- line that is due next follows. Lines are counted from 1.
pub record IsFirstNotDue (text : List ℕ) (number : ℕ) : Type 0 where
  pub lines : List (List ℕ)
  pub rest : List ℕ
  pub text_is : text ≡ text_of lines ++ rest
  pub number_is : number ≡ length lines + 1
  pub due : (k : ℕ) → k < length lines → IsDue k (slice_index_or lines k []) × (slice_index_or lines k [] ≢ last_line)
  pub stops : (line after : List ℕ) → rest ≡ line ++ (10 ∷ after) → IsDue (length lines) line → ⊥

-- what the line declares
abbrev pub declared_part : Option SplitLine → Option Declared
declared_part s = option_map (λ (line : SplitLine). line.declared) s

-- the head is that of the header, and the body begins here
pub record IsHeadOf (h : Header) (body : ℕ) (head : SnapHead) : Type 0 where
  pub mark_is : head.mark ≡ h.mark
  pub reducer_is : head.reducer ≡ h.reducer
  pub reducers_are : head.reducers ≡ h.reducers
  pub progress_is : head.progress ≡ h.progress
  pub declared_are : head.declared ≡ map declared_part h.splits
  pub body_is : head.body ≡ body

-- the text begins with a header that this is the head of
pub record IsHead (text : List ℕ) (head : SnapHead) : Type 0 where
  pub header : Header
  pub body : List ℕ
  pub ranges : IsHeader header
  pub text_is : text ≡ text_of (header_lines header) ++ body
  pub says : IsHeadOf header (length (text_of (header_lines header))) head
