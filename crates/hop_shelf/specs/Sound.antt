-- What is true of every shelf.
use Rattle.std.specs.Prelude.{◌≡◌, ◌≢◌, ℕ, ◌<◌, ◌≤◌, ◌⊎◌, Bool, false, Option, Some, None, List, [], ◌∷◌, length, All, AllPairs, IsTrue, ◌==◌, ◌++◌, if◌then◌else◌}
use Rattle.hop_base.specs.declared.value.Val.{Val}
use Rattle.hop_base.specs.declared.value.Pair.{Pair}
use Rattle.hop_base.specs.declared.part.Part.{Part}
use Rattle.hop_run.specs.Runs.{RunValue}
use Rattle.hop_base.specs.Ranges.{AreLens, AreMarks}
use Rattle.hop_base.specs.Run.{restarts_of}
use Rattle.hop_shelf.specs.Covered.{IsByRecords}
use Rattle.hop_shelf.specs.Holds.{RunHolds}
use Rattle.hop_event.specs.declared.event.Event.{Event}
use Rattle.hop_event.specs.History.{upto, winner, is_revoked}
use Rattle.hop_event.specs.declared.event.Event.TheVariants.{Arrive, Ignore}
use Rattle.hop_event.specs.declared.event.Via.{Via}
use Rattle.hop_event.specs.Coverage.{first_reached}
use Rattle.hop_event.specs.Legal.{Rules, GrowsLegally, GoesOn, restart_due}
use Rattle.hop_shelf.specs.Journal.{JournalValue, AddsEvent}
use Rattle.hop_shelf.specs.declared.shelf.Arrived.{Arrived}
use Rattle.hop_shelf.specs.declared.shelf.Arrived.TheVariants.{Taken, Ignored}
use Rattle.hop_shelf.specs.declared.shelf.Installed as answer
use Rattle.hop_shelf.specs.declared.shelf.Installed.TheVariants.{Installed, Stale}
use Rattle.hop_shelf.specs.declared.kept.Kept.{Kept}
use Rattle.hop_shelf.specs.declared.kept.Owner.{Owner}
use Rattle.hop_shelf.specs.declared.kept.Owner.TheVariants.{Committed, Attempt}
use Rattle.hop_shelf.specs.Kept.{all_parts, kept_at, AreMergeable, joined_at}
use Rattle.hop_shelf.specs.Work.{WorkValue, MergedValue}
use Rattle.hop_shelf.specs.Parts.{parts_of, IsChain}

-- the parts are of winners, or of one attempt, which is neither revoked nor its split's winner
abbrev pub AreOwned : List Event → List Part → Owner → Type 0
AreOwned h parts Committed = All (λ q. winner q.split h ≡ Some q.attempt) parts
AreOwned h parts (Attempt i a) = All (λ q. (q.split ≡ i) × (q.attempt ≡ a)) parts × (is_revoked i a h ≡ false) × (winner i h ≡ Some a → ⊥)

-- a number below this, and parts of one owner
pub record IsKept (h : List Event) (k : Kept) : Type 0 where
  pub number : k.number < length h
  pub owned : AreOwned h k.run.parts k.owner

-- each attempt's parts over all runs follow each other from the first record to its last one
abbrev pub IsConsecutive : List Event → List Kept → Type 0
IsConsecutive h kept = (i a : ℕ) → IsChain 0 (upto i a h) (parts_of i a (all_parts kept))

-- the runs agree with the history
pub record RunsFit (h : List Event) (kept : List Kept) : Type 0 where
  pub each : All (IsKept h) kept
  pub apart : AllPairs (λ k l. k.number ≢ l.number) kept
  pub consecutive : IsConsecutive h kept

-- the whole state agrees with the history
pub record IsSound (rules : Rules) (p : ℕ) (marks : List ℕ) (tentative : Bool) (tells : Bool) (reduce : List ℕ → List Val → List ℕ) (pairs_of : Part → List Pair) (j : JournalValue) (kept : List Kept) : Type 0 where
  pub legal : GrowsLegally rules p j.events
  pub lens : j.lens ≡ rules.lens
  pub ranges : AreLens j.lens
  pub restarts : j.restarts ≡ restarts_of rules.script p
  pub marks_are : j.marks ≡ marks
  pub marked : AreMarks marks
  pub tentative_is : j.tentative ≡ tentative
  pub due : (j.due ≡ []) ⊎ (j.due ≡ first_reached j.tentative j.lens j.marks j.events)
  pub limit : rules.attempts ≤ 16
  pub by_records : IsByRecords pairs_of
  pub stand : IsTrue tells → All (λ k. RunHolds reduce pairs_of k.run) kept
  pub fit : RunsFit j.events kept

-- what contracts see of a shelf
pub record ShelfValue : Type 0 where
  pub p : ℕ
  pub journal : JournalValue
  pub kept : List Kept
  pub room : ℕ

-- there is room for one event, and neither a cut nor a restart is due
pub record MayGrow (s : ShelfValue) : Type 0 where
  pub spare : 1 ≤ s.journal.spare
  pub room : 1 ≤ s.room
  pub no_cut : s.journal.due ≡ []
  pub no_restart : restart_due s.journal.restarts s.journal.events ≡ false

abbrev pub owner_by : Option ℕ → ℕ → ℕ → Owner
owner_by None i a = Attempt i a
owner_by (Some b) i a = if b == a then Committed else Attempt i a

-- whose the attempt's runs are
abbrev pub owner_of : ℕ → ℕ → List Event → Owner
owner_of i a h = owner_by (winner i h) i a

-- the parts are the attempt's, from one record to another
pub record IsParcel (part : Part) (run : RunValue) : Type 0 where
  pub chain : IsChain part.from part.to run.parts
  pub own : All (λ q. (q.split ≡ part.split) × (q.attempt ≡ part.attempt)) run.parts

-- what arriving does, by its answer
abbrev pub Arrives : ShelfValue → Part → Via → RunValue → Arrived → ShelfValue → Type 0
Arrives old part via run Taken new = GoesOn old.journal.events part × AddsEvent old.journal (Arrive part via) new.journal
    × (new.kept ≡ old.kept ++ record { number = length old.journal.events; owner = owner_of part.split part.attempt old.journal.events; run = run } ∷ []) × (new.p ≡ old.p)
Arrives old part via run (Ignored have) new = (GoesOn old.journal.events part → ⊥) × (have ≡ upto part.split part.attempt old.journal.events) × AddsEvent old.journal (Ignore part via have) new.journal
    × (new.kept ≡ old.kept) × (new.p ≡ old.p)

-- the lent runs are two of the shelf's, with their numbers there, and may be merged
abbrev pub Lends : ShelfValue → WorkValue → Type 0
Lends s w = (w.p ≡ s.p) × ((m : ℕ) × ((n : ℕ) × AreMergeable s.kept m n w.a w.first.parts w.b w.second.parts × (w.first ≡ (kept_at s.kept m).run) × (w.second ≡ (kept_at s.kept n).run)))

-- the lent runs stand on the shelf with the parts that they were lent with, and may be merged
abbrev pub Fits : ShelfValue → WorkValue → Type 0
Fits s w = (w.p ≡ s.p) × ((m : ℕ) × ((n : ℕ) × AreMergeable s.kept m n w.a w.first.parts w.b w.second.parts))

-- what installing does, by its answer
abbrev pub Installs : ShelfValue → MergedValue → answer.Installed → ShelfValue → Type 0
Installs old done Installed new = (done.work.p ≡ old.p)
    × ((m : ℕ) × ((n : ℕ) × AreMergeable old.kept m n done.work.a done.work.first.parts done.work.b done.work.second.parts × (new.kept ≡ joined_at old.kept m n done.run)))
    × (new.journal ≡ old.journal) × (new.p ≡ old.p)
Installs old done Stale new = (Fits old done.work → ⊥) × (new ≡ old)
