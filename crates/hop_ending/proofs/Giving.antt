-- Reducers and the writer never answer that a split is spent.
use Rattle.std.proofs.Common.{◌≡◌, ℕ, zero, suc, ◌&&◌, Bool, true, false, not, List, ◌∷◌, cond, is_none, Option, Some, None}
use Rattle.hop_event.specs.declared.event.Event.{Event}
use Rattle.hop_event.specs.declared.event.Event.TheVariants as events
use Rattle.hop_event.specs.History.{winner, is_revoked}
use Rattle.hop_machine.specs.declared.words.Who.TheVariants as whose
use Rattle.hop_machine.specs.declared.words.Message.{Message}
use Rattle.hop_machine.specs.declared.words.Message.TheVariants.{Range, Notice}
use Rattle.hop_machine.specs.declared.words.Turn.{Turn}
use Rattle.hop_machine.specs.declared.words.Turn.TheVariants.{Worked, Idle, Spent, Stopped}
use Rattle.hop_machine.specs.step.Steps.{AskRevoked, TryHold, Hold, Value, Prog, Done, Then}
use Rattle.hop_machine.specs.step.Programs.{Gives}
use Rattle.hop_machine.specs.actors.ReducerTurns.{Reducer, Writer, lane_after, lane_via, marks_due, must_restart, range_event, works, send_cuts, still_due, records, notes, is_attempt, passes, notes_new, asked, reads, looks, restarts, lags, holds, tries, reducer_turn, writes, writer_turn}
use Rattle.hop_machine.proofs.step.Programs.{Gives-and_then}

-- the answer isn't that a split is spent
abbrev pub NotSpent : Turn → Type 0
NotSpent t = (i : ℕ) → t ≡ Spent i → ⊥

-- nor is that of any way through the program
abbrev pub NeverSpends : {A : Type 0} → Prog (A × Turn) → Type 0
NeverSpends {A} k = Gives (λ (y : A × Turn). NotSpent y.1) k

worked : NotSpent Worked
worked i e = cc

pub idle : NotSpent Idle
idle i e = cc

stopped : NotSpent Stopped
stopped i e = cc

works_so : (ok : Bool) → NotSpent (works ok)
works_so true = worked
works_so false = stopped

-- whatever it gives
pub any : {A : Type 0} (k : Prog A) → Gives (λ x. Unit {0}) k
any (Done x) = tt
any (Then s k) = λ o. any (k o)

if_never : {A : Type 0} (t : Bool) (x y : Prog (A × Turn)) → NeverSpends x → NeverSpends y → NeverSpends (cond t x y)
if_never true x y g h = g
if_never false x y g h = h

-- # A reducer

notes_never : (r : Reducer) (h : List Event) (e : Event) → NeverSpends (notes r h e)
notes_never r h e =
    let due = marks_due r.setup (e ∷ h) in
    Gives-and_then (λ x. Unit {0}) (λ (y : Reducer × Turn). NotSpent y.1) (send_cuts r (e ∷ h) due) (λ ok. records r e (still_due ok due) (r, works ok)) (any (send_cuts r (e ∷ h) due)) (λ ok u. λ o q. works_so ok)

new_never : (r : Reducer) (h : List Event) (new : Bool) (e : Event) → NeverSpends (notes_new r h new e)
new_never r h new e = if_never new (notes r h e) (passes r) (notes_never r h e) (λ o. worked)

asked_never : (r : Reducer) (h : List Event) (i a : ℕ) (o : Option ℕ) → NeverSpends (asked r h i a o)
asked_never r h i a o = of (is_attempt o a)
  where
    of : (t : Bool) → NeverSpends (cond t (notes_new r h (is_none (winner i h)) (events.Won i a)) (Then (AskRevoked (whose.Reducer r.number) i a) (λ gone. notes_new r h (gone && not (is_revoked i a h)) (events.Revoked i a))))
    of true = new_never r h (is_none (winner i h)) (events.Won i a)
    of false = λ gone. new_never r h (gone && not (is_revoked i a h)) (events.Revoked i a)

reads_never : (r : Reducer) (w : ℕ) (h : List Event) (m : Message) → NeverSpends (reads r w h m)
reads_never r w h (Range part) = notes_never r h (range_event h (lane_via r.late w) part)
reads_never r w h (Notice i a) = λ u o. asked_never r h i a o

looks_never : (r : Reducer) (h : List Event) (count w : ℕ) → NeverSpends (looks r h count w)
looks_never r h zero w = λ u. idle
looks_never r h (suc count) w = by_message (looks_never r h count (lane_after r.setup.workers w))
  where
    by_message : NeverSpends (looks r h count (lane_after r.setup.workers w)) → NeverSpends (looks r h (suc count) w)
    by_message none None = none
    by_message none (Some m) = reads_never (record r { next = lane_after r.setup.workers w }) w h m

holds_never : (r : Reducer) (v : Value) → NeverSpends (holds r v)
holds_never r v = by_room
  where
    by_room : NeverSpends (holds r v)
    by_room true = if_never (must_restart r.setup r.number v.events) (restarts r v.events (lags r, Worked)) (looks r v.events r.setup.workers r.next) (λ o q. worked) (looks_never r v.events r.setup.workers r.next)
    by_room false = λ o. stopped

tries_never : (r : Reducer) (o : Option Value) → NeverSpends (tries r o)
tries_never r None = idle
tries_never r (Some v) = holds_never r v

pub reducer_never : (r : Reducer) → NeverSpends (reducer_turn r)
reducer_never r = if_never r.late (Then (Hold r.number) (λ v. holds r v)) (Then (TryHold r.number) (λ o. tries r o)) (λ v. holds_never r v) (λ o. tries_never r o)

-- # The writer

writes_never : (x : Writer) (count p : ℕ) → NeverSpends (writes x count p)
writes_never x zero p = idle
writes_never x (suc count) p = by_cut (writes_never x count (lane_after x.setup.reducers p))
  where
    by_cut : NeverSpends (writes x count (lane_after x.setup.reducers p)) → NeverSpends (writes x (suc count) p)
    by_cut none None = none
    by_cut none (Some c) = λ ok. works_so ok

pub writer_never : (x : Writer) → NeverSpends (writer_turn x)
writer_never x = writes_never x x.setup.reducers x.next
