-- Which event may come after which. The last event stands first.
use Rattle.std.specs.Prelude.{◌≡◌, ℕ, ◌+◌, ◌%◌, ◌<◌, ◌≤◌, ◌⊎◌, Bool, true, false, ◌==◌, Option, Some, None, List, [], ◌∷◌, length, slice_index, All, IfSome}
use Rattle.std.specs.List.{list_any}
use Rattle.hop_base.specs.Run.{ScriptLines, fails_at, restarts_of}
use Rattle.hop_base.specs.declared.part.Part.{Part}
use Rattle.hop_event.specs.declared.event.Via.{Via}
use Rattle.hop_event.specs.declared.event.Via.TheVariants.{Lane, Late, Pull}
use Rattle.hop_event.specs.declared.event.Event.{Event}
use Rattle.hop_event.specs.declared.event.Event.TheVariants.{Arrive, Ignore, Won, Revoked, Restart, Finish}
use Rattle.hop_event.specs.History.{upto, winner, is_revoked, arrivals}

-- what the rules use of a run: the record counts of the splits, the records of a spill, the number
-- of map workers, the attempts of a split that may be begun, and the script
pub record Rules : Type 0 where
  pub lens : List ℕ
  pub spill : ℕ
  pub workers : ℕ
  pub attempts : ℕ
  pub script : ScriptLines

-- whether the next event has to be a restart: the last one is an arrival that the script counts
abbrev pub restart_due : List ℕ → List Event → Bool
restart_due restarts [] = false
restart_due restarts (Arrive part via ∷ earlier) = list_any (λ k. k == arrivals earlier + 1) restarts
restart_due restarts (Ignore part via have ∷ earlier) = false
restart_due restarts (Won j b ∷ earlier) = false
restart_due restarts (Revoked j b ∷ earlier) = false
restart_due restarts (Restart ∷ earlier) = false
restart_due restarts (Finish ∷ earlier) = false

abbrev pub is_restart : Event → Bool
is_restart Restart = true
is_restart (Arrive part via) = false
is_restart (Ignore part via have) = false
is_restart (Won j b) = false
is_restart (Revoked j b) = false
is_restart Finish = false

abbrev pub is_finish : Event → Bool
is_finish Finish = true
is_finish (Arrive part via) = false
is_finish (Ignore part via have) = false
is_finish (Won j b) = false
is_finish (Revoked j b) = false
is_finish Restart = false

-- no event is the finish
abbrev pub NoFinish : List Event → Type 0
NoFinish h = All (λ e. is_finish e ≡ false) h

-- the attempt is one of the split's, of which there are so many
pub record IsAttempt (lens : List ℕ) (begun : ℕ → ℕ) (i a : ℕ) : Type 0 where
  pub split : i < length lens
  pub attempt : a < begun i

-- a row of whole spills of the split, which its attempt comes to make
pub record IsRange (rules : Rules) (begun : ℕ → ℕ) (part : Part) : Type 0 where
  pub attempt : IsAttempt rules.lens begun part.split part.attempt
  pub some : part.from < part.to
  pub within : part.to ≤ slice_index rules.lens part.split
  pub begins : part.from % rules.spill ≡ 0
  pub ends : (part.to % rules.spill ≡ 0) ⊎ (part.to ≡ slice_index rules.lens part.split)
  pub made : IfSome (fails_at rules.script part.split part.attempt) (λ place. part.to ≤ place)

abbrev pub IsWorker : Rules → Via → Type 0
IsWorker rules (Lane w) = w < rules.workers
IsWorker rules (Late w) = w < rules.workers
IsWorker rules Pull = Unit {0}

abbrev pub CameByLane : Via → Type 0
CameByLane (Lane w) = Unit {0}
CameByLane (Late w) = Unit {0}
CameByLane Pull = ⊥

-- whether the split has no winner but this attempt
abbrev pub no_other : Option ℕ → ℕ → Bool
no_other None a = true
no_other (Some b) a = b == a

-- the range goes on where the attempt's records end, and the attempt may still count
pub record GoesOn (h : List Event) (part : Part) : Type 0 where
  pub alive : is_revoked part.split part.attempt h ≡ false
  pub alone : no_other (winner part.split h) part.attempt ≡ true
  pub joined : part.from ≡ upto part.split part.attempt h

-- the attempt may be recorded as the split's winner
pub record MayWin (rules : Rules) (begun : ℕ → ℕ) (h : List Event) (i a : ℕ) : Type 0 where
  pub attempt : IsAttempt rules.lens begun i a
  pub no_winner : winner i h ≡ None
  pub alive : is_revoked i a h ≡ false
  pub succeeds : fails_at rules.script i a ≡ None

-- the attempt may be recorded as revoked
pub record MayBeRevoked (rules : Rules) (begun : ℕ → ℕ) (h : List Event) (i a : ℕ) : Type 0 where
  pub attempt : IsAttempt rules.lens begun i a
  pub loses : winner i h ≡ Some a → ⊥
  pub alive : is_revoked i a h ≡ false

-- the split's winner is there with all its records
abbrev pub IsWon : List ℕ → List Event → ℕ → Type 0
IsWon lens h i = (a : ℕ) × (winner i h ≡ Some a) × (upto i a h ≡ slice_index lens i)

-- so is each split's
abbrev pub AllWon : List ℕ → List Event → Type 0
AllWon lens h = (i : ℕ) → i < length lens → IsWon lens h i

-- each of the first attempts of the split, so many, is the winner or revoked
abbrev pub AllSettled : List Event → ℕ → ℕ → Type 0
AllSettled h i begun = (b : ℕ) → b < begun → (winner i h ≡ Some b) ⊎ (is_revoked i b h ≡ true)

-- all is there, and no attempt that was begun is open
pub record MayFinish (lens : List ℕ) (begun : ℕ → ℕ) (h : List Event) : Type 0 where
  pub won : AllWon lens h
  pub settled : (i : ℕ) → i < length lens → AllSettled h i (begun i)

-- After these events this one may come, but for the places of restarts. What a finish needs belongs
-- to the whole history.
abbrev pub MayCome : Rules → (ℕ → ℕ) → List Event → Event → Type 0
MayCome rules begun h (Arrive part via) = IsRange rules begun part × IsWorker rules via × GoesOn h part
MayCome rules begun h (Ignore part via have) = IsRange rules begun part × IsWorker rules via × CameByLane via × (GoesOn h part → ⊥) × (have ≡ upto part.split part.attempt h)
MayCome rules begun h (Won i a) = MayWin rules begun h i a
MayCome rules begun h (Revoked i a) = MayBeRevoked rules begun h i a
MayCome rules begun h Restart = Unit {0}
MayCome rules begun h Finish = Unit {0}

-- After these events of reducer p this one may come, and a restart comes exactly where one is due.
pub record Follows (rules : Rules) (p : ℕ) (begun : ℕ → ℕ) (h : List Event) (e : Event) : Type 0 where
  pub restarts : is_restart e ≡ restart_due (restarts_of rules.script p) h
  pub rule : MayCome rules begun h e

-- each event of reducer p meets its rule by the events before it, with so many attempts of each split
abbrev pub IsLegal : Rules → ℕ → (ℕ → ℕ) → List Event → Type 0
IsLegal rules p begun [] = Unit {0}
IsLegal rules p begun (e ∷ earlier) = Follows rules p begun earlier e × IsLegal rules p begun earlier

-- A history that grows legally, or has grown so to its end: it is not said which attempts were begun,
-- and the restart that is due after its last event may be missing.
abbrev pub GrowsLegally : Rules → ℕ → List Event → Type 0
GrowsLegally rules p h = IsLegal rules p (λ i. rules.attempts) h

-- one number for each split, of the attempts of it that were begun: at least one, and no more than may be
pub record IsBegun (rules : Rules) (begun : List ℕ) : Type 0 where
  pub each : length begun ≡ length rules.lens
  pub some : All (λ n. 1 ≤ n) begun
  pub few : All (λ n. n ≤ rules.attempts) begun

-- A whole history, where so many attempts of each split were begun: it ends with its one finish, before
-- which all is there and no attempt that was begun is open.
abbrev pub IsFinished : Rules → ℕ → List ℕ → List Event → Type 0
IsFinished rules p begun [] = ⊥
IsFinished rules p begun (e ∷ earlier) = IsLegal rules p (slice_index begun) (e ∷ earlier) × (is_finish e ≡ true) × NoFinish earlier × MayFinish rules.lens (slice_index begun) earlier
