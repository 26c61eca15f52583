-- What a history covers of each split, its progress and its cuts. Its last event stands first.
use Rattle.std.specs.Prelude.{◌≡◌, ◌<◌, ◌≤◌, ℕ, zero, suc, ◌*◌, ◌/◌, Bool, true, false, ◌==◌, ◌&&◌, if◌then◌else◌, nat_lt, nat_le, max, Option, Some, None, List, [], ◌∷◌, length, map, sum, slice_index, filter}
use Rattle.std.specs.List.{range_with_len}
use Rattle.hop_event.specs.declared.event.Event.{Event}
use Rattle.hop_event.specs.declared.declared.Declared.{Declared}
use Rattle.hop_event.specs.History.{upto, winner, is_revoked}

-- the records of an attempt that may count as tentative
abbrev pub tentative_records : ℕ → List Event → ℕ → ℕ
tentative_records i h a = if is_revoked i a h then 0 else upto i a h

abbrev pub records_of : Option Declared → ℕ
records_of None = 0
records_of (Some d) = d.records

-- of the attempts below n, the one with the most records, the least at a tie, none without records
unfoldable pub leader : (ℕ → ℕ) → ℕ → Option Declared
leader records zero = None
leader records (suc a) = if nat_lt (records_of (leader records a)) (records a) then Some (record { attempt = a; records = records a; committed = false }) else leader records a

-- it has the most records of the attempts below n, some, and is the least of those that have as many
pub record IsLeader (records : ℕ → ℕ) (n : ℕ) (d : Declared) : Type 0 where
  pub below : d.attempt < n
  pub its_records : d.records ≡ records d.attempt
  pub some : 0 < d.records
  pub most : (b : ℕ) → b < n → records b ≤ d.records
  pub least : (b : ℕ) → b < n → records b ≡ d.records → d.attempt ≤ b
  pub tentative : d.committed ≡ false

-- an attempt leads those below n, or none of them has records
abbrev pub Leads : (ℕ → ℕ) → ℕ → Option Declared → Type 0
Leads records n (Some d) = IsLeader records n d
Leads records n None = (b : ℕ) → b < n → records b ≡ 0

-- what a winner declares
abbrev pub committed_part : ℕ → ℕ → Option Declared
committed_part a n = if n == 0 then None else Some (record { attempt = a; records = n; committed = true })

abbrev pub declared_by : Option ℕ → Bool → (ℕ → ℕ) → (ℕ → ℕ) → Option Declared
declared_by (Some a) tentative records uptos = committed_part a (uptos a)
declared_by None true records uptos = leader records 16
declared_by None false records uptos = None

-- what the history covers of the split
abbrev pub declared : Bool → List Event → ℕ → Option Declared
declared tentative h i = declared_by (winner i h) tentative (tentative_records i h) (λ a. upto i a h)

abbrev pub score : ℕ → ℕ → ℕ
score covered len = 10000 * covered / len

-- the score of a split of which this is declared
abbrev pub score_of : List ℕ → ℕ → Option Declared → ℕ
score_of lens i d = score (records_of d) (slice_index lens i)

abbrev pub progress_of : List ℕ → (ℕ → Option Declared) → ℕ
progress_of lens at = if length lens == 0 then 10000 else sum (map (λ i. score_of lens i (at i)) (range_with_len 0 (length lens))) / length lens

abbrev pub progress : Bool → List ℕ → List Event → ℕ
progress tentative lens h = progress_of lens (declared tentative h)

-- the greatest progress so far
abbrev pub top_progress : Bool → List ℕ → List Event → ℕ
top_progress tentative lens [] = progress tentative lens []
top_progress tentative lens (e ∷ earlier) = max (progress tentative lens (e ∷ earlier)) (top_progress tentative lens earlier)

abbrev pub cut_or : Option (List Event) → Bool → List Event → Option (List Event)
cut_or (Some first) reached h = Some first
cut_or None true h = Some h
cut_or None false h = None

-- the shortest history of this one's beginnings whose progress reaches the mark
abbrev pub cut_at : Bool → List ℕ → ℕ → List Event → Option (List Event)
cut_at tentative lens mark [] = if nat_le mark (progress tentative lens []) then Some [] else None
cut_at tentative lens mark (e ∷ earlier) = cut_or (cut_at tentative lens mark earlier) (nat_le mark (progress tentative lens (e ∷ earlier))) (e ∷ earlier)

-- the greatest progress before the last event
abbrev pub progress_before : Bool → List ℕ → List Event → ℕ
progress_before tentative lens [] = 0
progress_before tentative lens (e ∷ earlier) = top_progress tentative lens earlier

-- the marks that the last event, or the empty history, first reached
abbrev pub first_reached : Bool → List ℕ → List ℕ → List Event → List ℕ
first_reached tentative lens marks h = filter (λ m. nat_lt (progress_before tentative lens h) m && nat_le m (top_progress tentative lens h)) marks
