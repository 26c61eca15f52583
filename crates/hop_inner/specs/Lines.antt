-- What the ends of a lane show, and what a call of one of them changes.
use Rattle.std.specs.Prelude.{◌≡◌, ℕ, ◌-◌, Bool, true, List, [], ◌∷◌, ◌++◌, length, nat_lt, Option, Some, None}
use Rattle.atomic_table.specs.Seated.{TableId}
use Rattle.hop_machine.specs.step.Steps.{Sent, Taken, sending, taking, Begins, TellsFull, TellsEmpty}

-- which lane it is: the two actors, and the name of the board whose seats its notices bring
pub record Key : Type 0 where
  pub mapper : ℕ
  pub reducer : ℕ
  pub board : List ℕ

-- the key of a lane that has none yet
abbrev pub no_key : Key
no_key = record { mapper = 0; reducer = 0; board = [] }

-- a table's name as numbers
abbrev pub name_of : TableId → List ℕ
name_of z = z.words ∷ z.slots ∷ z.views_name ∷ z.atom ∷ z.block ∷ z.offset ∷ z.slot_names

-- What an end shows of both sides of its lane. An end that has one side alone shows nothing of the other.
pub record Line (A : Type 0) : Type 0 where
  pub name : List ℕ
  pub key : Key
  pub out : Sent A
  pub into : Taken A
  pub told_taken : List A  -- what the sender was told is taken
  pub told_sent : List A  -- what the receiver was told is sent

-- a message is sent, or the lane is full
pub record Sends {A : Type 0} (exact : Bool) (capacity : ℕ) (m : A) (ok : Bool) (a b : Line A) : Type 0 where
  pub name : b.name ≡ a.name
  pub key : b.key ≡ a.key
  pub out : b.out ≡ sending m ok a.out
  pub into : b.into ≡ a.into
  pub told_taken : Begins a.told_taken b.told_taken
  pub told_sent : Begins a.told_sent b.told_sent
  pub tells : TellsFull capacity ok a.out.sent a.told_taken
  pub finds : exact ≡ true → ok ≡ nat_lt (length a.out.sent - length a.told_taken) capacity

-- the first message is taken, or the lane is empty
pub record Takes {A : Type 0} (exact : Bool) (o : Option A) (a b : Line A) : Type 0 where
  pub name : b.name ≡ a.name
  pub key : b.key ≡ a.key
  pub out : b.out ≡ a.out
  pub into : b.into ≡ taking o a.into
  pub told_taken : Begins a.told_taken b.told_taken
  pub told_sent : Begins a.told_sent b.told_sent
  pub tells : TellsEmpty o a.into.taken b.told_sent

-- each message of a list may come after those before it
abbrev pub EachAllowed : {T : Type 0} → (List T → T → Type 0) → List T → Type 0
EachAllowed {T} allows sent = (xs : List T) (x : T) (ys : List T) → sent ≡ (xs ++ x ∷ []) ++ ys → allows xs x

-- what an answer says for the machine
abbrev pub option_said : {A B : Type 0} → (A → B) → Option A → Option B
option_said f None = None
option_said f (Some x) = Some (f x)
