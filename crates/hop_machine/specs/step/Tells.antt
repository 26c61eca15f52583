-- What a step tells, over any ends.
use Rattle.std.specs.Prelude.{◌≡◌, ◌⊎◌, ℕ, ◌-◌, ◌%◌, ◌/◌, ◌^◌, ◌≤◌, ◌<◌, Bool, true, false, List, [], ◌∷◌, ◌++◌, length, Option, Some, None, ◌==◌}
use Rattle.hop_base.specs.Run.{fails_at}
use Rattle.hop_machine.specs.declared.words.Who.{Who}
use Rattle.hop_machine.specs.declared.words.Who.TheVariants as whose
use Rattle.hop_machine.specs.declared.words.Message.{Message}
use Rattle.hop_machine.specs.declared.words.Verdict.{Verdict}
use Rattle.hop_machine.specs.declared.words.Verdict.TheVariants.{Won, Lost}
use Rattle.hop_machine.specs.step.Pushing.{IsWorkersList}
use Rattle.hop_machine.specs.step.CutLane.{AreCuts}
use Rattle.hop_machine.specs.step.Setup.{splits_of}
use Rattle.hop_machine.specs.step.Setup.{CutSaid, Setup, rules_of}
use Rattle.hop_machine.specs.step.Step.{Value, Step, Found, Send, Take, NextSplit, Draw, Commit, Revoke, AskWinner, AskRevoked, Join, TryHold, Hold, Record, GiveBack, SendCut, TakeCut, Risk}
use Rattle.hop_machine.specs.step.Deeds.{Seat, Kept, Verdicts, Told, Deeds}

-- the second holds where the first does
abbrev pub Implies : Bool → Bool → Type 0
Implies x y = x ≡ true → y ≡ true

-- the second knows all that the first knows
pub record Knows (a b : Verdicts) : Type 0 where
  pub won : (i n : ℕ) → Implies (a.won i n) (b.won i n)
  pub gone : (i n : ℕ) → Implies (a.gone i n) (b.gone i n)

-- the list begins with the other
abbrev pub Begins : {A : Type 0} → List A → List A → Type 0
Begins {A} xs ys = (more : List A) × (ys ≡ xs ++ more)

-- what is told only grows, and in no step need it grow
pub record Grows (a b : Told) : Type 0 where
  pub taken : (w p : ℕ) → Begins (a.taken w p) (b.taken w p)
  pub sent : (w p : ℕ) → Begins (a.sent w p) (b.sent w p)
  pub cut_taken : (p : ℕ) → Begins (a.cut_taken p) (b.cut_taken p)
  pub cut_sent : (p : ℕ) → Begins (a.cut_sent p) (b.cut_sent p)
  pub knows : (who : Who) → Knows (a.knows who) (b.knows who)

-- whether the mask has the bit of the attempt
abbrev pub has_bit : ℕ → ℕ → Bool
has_bit mask a = (mask / 2 ^ a) % 2 == 1

-- full: as far as the sender was told, nothing is left of the lane's room
abbrev pub TellsFull : {A : Type 0} → ℕ → Bool → List A → List A → Type 0
TellsFull capacity true sent taken = Unit {0}
TellsFull capacity false sent taken = capacity ≤ length sent - length taken

-- empty: all that the receiver was told is sent was taken
abbrev pub TellsEmpty : {A : Type 0} → Option A → List A → List A → Type 0
TellsEmpty None taken sent = taken ≡ sent
TellsEmpty (Some m) taken sent = Begins (taken ++ m ∷ []) sent

-- it is one of the list
abbrev pub Among : {A : Type 0} → A → List A → Type 0
Among x [] = ⊥
Among x (y ∷ ys) = (x ≡ y) ⊎ Among x ys

-- this end drew the number
abbrev pub Drew : Seat → ℕ → ℕ → Type 0
Drew x i n = Among (record { split = i; number = n }) x.drew

-- a split that this end was not given before
abbrev pub TellsSplit : ℕ → List ℕ → Option ℕ → Type 0
TellsSplit splits given None = Unit {0}
TellsSplit splits given (Some i) = (i < splits) × (Among i given → ⊥)

-- a commit tells who won: the attempt, or another one below the limit
abbrev pub TellsVerdict : ℕ → ℕ → ℕ → Verdict → Verdicts → Type 0
TellsVerdict attempts i a Won k = k.won i a ≡ true
TellsVerdict attempts i a (Lost b) k = (k.won i b ≡ true) × (b < attempts) × (b ≡ a → ⊥)

-- no winner was known, or there is this one and no other was known
abbrev pub TellsWinner : ℕ → Option ℕ → Verdicts → Verdicts → Type 0
TellsWinner i None old new = (a : ℕ) → old.won i a ≡ true → ⊥
TellsWinner i (Some b) old new = (new.won i b ≡ true) × ((a : ℕ) → old.won i a ≡ true → a ≡ b)

-- What an end of a board of the run knows: a winner is an attempt without a fail line, the only one of its
-- split, and is not revoked.
pub record IsKnown (s : Setup) (k : Verdicts) : Type 0 where
  pub won : (i a : ℕ) → k.won i a ≡ true → (i < splits_of s) × (a < s.attempts) × (fails_at s.script i a ≡ None)
  pub one : (i a b : ℕ) → k.won i a ≡ true → k.won i b ≡ true → a ≡ b
  pub gone : (i a : ℕ) → k.gone i a ≡ true → (i < splits_of s) × (a < s.attempts)
  pub alive : (i a : ℕ) → k.won i a ≡ true → k.gone i a ≡ true → ⊥

-- where a split has no winner, each of its attempts that is known to be revoked has a line
abbrev pub TellsFailed : Setup → ℕ → Option ℕ → Verdicts → Type 0
TellsFailed s i None k = (a : ℕ) → k.gone i a ≡ true → fails_at s.script i a ≡ None → ⊥
TellsFailed s i (Some b) k = Unit {0}

-- what is taken is a worker's list
abbrev pub TellsTaken : Setup → Option Message → List Message → Type 0
TellsTaken s None taken = Unit {0}
TellsTaken s (Some m) taken = IsWorkersList (rules_of s) (taken ++ m ∷ [])

-- what the writer takes is what a cut lane allows
abbrev pub TellsCuts : Setup → Option CutSaid → List CutSaid → Type 0
TellsCuts s None taken = Unit {0}
TellsCuts s (Some c) taken = AreCuts s (taken ++ c ∷ [])

-- what is found under a lock is what its recorder left
pub record TellsValue (v : Value) (x : Kept) : Type 0 where
  pub events : v.events ≡ x.events
  pub due : v.due ≡ x.due

-- what the answer of a step tells
abbrev pub Tells : (s : Step) → Found s → Deeds → Deeds → Type 0
Tells (Send w p m) o a b = TellsFull a.setup.capacity o (a.did.outs w p).sent (a.told.taken w p)
Tells (Take w p) o a b = TellsEmpty o (a.did.ins w p).taken (b.told.sent w p) × TellsTaken a.setup o (a.did.ins w p).taken
Tells (NextSplit w) o a b = TellsSplit (splits_of a.setup) (a.did.seats (whose.Mapper w)).given o
Tells (Draw w i) o a b = (n : ℕ) → Drew (a.did.seats (whose.Mapper w)) i n → n < o
Tells (Commit w i n) o a b = TellsVerdict a.setup.attempts i n o (b.told.knows (whose.Mapper w))
Tells (Revoke w i n) o a b =
    (has_bit o n ≡ true) × ((n : ℕ) → has_bit o n ≡ true → (b.told.knows (whose.Mapper w)).gone i n ≡ true)
Tells (AskWinner who i) o a b = TellsWinner i o (a.told.knows who) (b.told.knows who) × IsKnown a.setup (b.told.knows who) × TellsFailed a.setup i o (a.told.knows who)
Tells (AskRevoked who i n) o a b = ((a.told.knows who).gone i n ≡ true → o ≡ true) × (o ≡ true → (b.told.knows who).gone i n ≡ true) × IsKnown a.setup (b.told.knows who)
Tells (Join p i n) o a b = let k = b.told.knows (whose.Reducer p) in (k.won i n ≡ true) ⊎ (k.gone i n ≡ true)
Tells (TryHold p) None a b = Unit {0}
Tells (TryHold p) (Some v) a b = TellsValue v (a.did.keeps p)
Tells (Hold p) v a b = TellsValue v (a.did.keeps p)
Tells (Record p e) o a b = Unit {0}
Tells (GiveBack p due) o a b = Unit {0}
Tells (SendCut p c) o a b = TellsFull 16 o (a.did.cut_outs p).sent (a.told.cut_taken p)
Tells (TakeCut p) o a b = TellsEmpty o (a.did.cut_ins p).taken (b.told.cut_sent p) × TellsCuts a.setup o (a.did.cut_ins p).taken
Tells Risk o a b = Unit {0}
