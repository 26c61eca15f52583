-- A turn of a reducer, of a mapper or of the writer fits: it records and sends only what is of the splits.
use Rattle.std.proofs.Common.{◌≡◌, ℕ, zero, suc, ◌<◌, ◌&&◌, not, is_none, Bool, true, false, cond, List, [], ◌∷◌, sym, subst, Option, Some, None}
use Rattle.std.proofs.lemmas.Bool.{eqb-true}
use Rattle.std.proofs.lemmas.List.Elements.{All-push}
use Rattle.hop_base.specs.declared.part.Part.{Part}
use Rattle.hop_event.specs.declared.event.Event.{Event}
use Rattle.hop_event.specs.declared.event.Event.TheVariants as events
use Rattle.hop_event.specs.declared.event.Via.{Via}
use Rattle.hop_event.specs.History.{winner, is_revoked, upto}
use Rattle.hop_machine.specs.declared.words.Who.TheVariants as whose
use Rattle.hop_machine.specs.declared.words.Message.{Message}
use Rattle.hop_machine.specs.declared.words.Message.TheVariants.{Range, Notice}
use Rattle.hop_machine.specs.declared.words.Turn.{Turn}
use Rattle.hop_machine.specs.declared.words.Turn.TheVariants.{Worked, Idle, Stopped}
use Rattle.hop_machine.specs.step.Steps.{Step, Send, Take, NextSplit, Draw, Commit, Revoke, AskWinner, AskRevoked, Join, TryHold, Hold, Record, GiveBack, SendCut, TakeCut, Risk, Value, Setup, CutSaid, Prog, Done, Then, and_then}
use Rattle.hop_machine.specs.step.Programs.{Only}
use Rattle.hop_machine.specs.step.Owners.{IsAt}
use Rattle.hop_machine.specs.actors.MapperTurns.{Mapper, mapper_turn}
use Rattle.hop_machine.specs.actors.ReducerTurns.{Reducer, Writer, Writing, marks_due, must_restart, gives_back, records, each_cut, send_cuts, still_due, works, notes, goes_on, lane_via, range_event, is_attempt, passes, notes_new, asked, reads, looks, lane_after, restarts, lags, with_room, holds, tries, reducer_turn, wrote, writes, writer_turn}
use Rattle.hop_machine.proofs.actors.OwnTurns.{own_mapper}
use Rattle.hop_machine.proofs.settling.ReducerFalls.{below}
use Rattle.hop_ending.specs.Reached.{IsReached, WroteReached}
use Rattle.hop_ending.proofs.FineHistories.{IsFine, AllFine}
use Rattle.hop_ending.proofs.Reaching.{cut_fine}
use Rattle.hop_ending.proofs.Fitting.{FineStep, FineFound, FineMessage, Fits, fits_then, fits_if}

module _ (s : Setup) where
  -- a reducer of the run
  abbrev pub OfRun : Reducer → Type 0
  OfRun r = (r.setup ≡ s) × (r.number < s.reducers)

  -- and beside what it answers
  abbrev pub StaysOf : {B : Type 0} → Reducer × B → Type 0
  StaysOf {B} y = OfRun y.0

  -- # What is done under the lock

  pub gives_fits : {A : Type 0} (P : A → Type 0) (r : Reducer) (due : List ℕ) (x : A) → P x → Fits s P (gives_back r due x)
  gives_fits P r due x h = (tt, λ o f. h)

  pub records_fit : {A : Type 0} (P : A → Type 0) (r : Reducer) (e : Event) (due : List ℕ) (x : A) → IsFine s e → P x → Fits s P (records r e due x)
  records_fit P r e due x f h = (f, λ o g. gives_fits P r due x h)

  pub room_fits : {A : Type 0} (P : A → Type 0) (r : Reducer) (due : List ℕ) (stopped : A) (k : Prog A) → P stopped → Fits s P k → Fits s P (with_room r due stopped k)
  room_fits P r due stopped k h f = (tt, λ ok g. fits_if s P ok k (gives_back r due stopped) (λ t. f) (λ t. gives_fits P r due stopped h))

  each_fits : (r : Reducer) → OfRun r → (h : List Event) → AllFine s h → (marks : List ℕ) → Fits s (λ u. Unit {0}) (each_cut r h marks)
  each_fits r is h f [] = tt
  each_fits r is h f (m ∷ marks) = (cut_fine s r.setup h m is.0 f, λ o g. each_fits r is h f marks)

  pub cuts_fit : (r : Reducer) → OfRun r → (h : List Event) → AllFine s h → (marks : List ℕ) → Fits s (λ u. Unit {0}) (send_cuts r h marks)
  cuts_fit r is h f marks = (
    tt,
    λ ok g. fits_if s (λ u. Unit {0}) ok (and_then (each_cut r h marks) (λ u. Done true)) (Done false)
        (λ t. fits_then s (λ u. Unit {0}) (λ u. Unit {0}) (each_cut r h marks) (λ u. Done true) (each_fits r is h f marks) (λ x u. tt)) (λ t. tt),
  )

  notes_fit : (r : Reducer) → OfRun r → (h : List Event) → AllFine s h → (e : Event) → IsFine s e → Fits s StaysOf (notes r h e)
  notes_fit r is h f e g =
      fits_then s (λ u. Unit {0}) StaysOf (send_cuts r (e ∷ h) (marks_due r.setup (e ∷ h))) (λ ok. records r e (still_due ok (marks_due r.setup (e ∷ h))) (r, works ok)) (cuts_fit r is (e ∷ h) (g, f) (marks_due r.setup (e ∷ h)))
      (λ ok u. records_fit StaysOf r e (still_due ok (marks_due r.setup (e ∷ h))) (r, works ok) g is)

  new_fits : (r : Reducer) → OfRun r → (h : List Event) → AllFine s h → (new : Bool) (e : Event) → IsFine s e → Fits s StaysOf (notes_new r h new e)
  new_fits r is h f new e g = fits_if s StaysOf new (notes r h e) (passes r) (λ t. notes_fit r is h f e g) (λ t. gives_fits StaysOf r [] (r, Worked) is)

  -- # A message

  range_fine : (h : List Event) (via : Via) (part : Part) → FineMessage s (Range part) → IsFine s (range_event h via part)
  range_fine h via part f = one (goes_on h part)
    where
      one : (t : Bool) → IsFine s (cond t (events.Arrive part via) (events.Ignore part via (upto part.split part.attempt h)))
      one true = f
      one false = tt

  won_fine : (o : Option ℕ) (who : Rattle.hop_machine.specs.declared.words.Who.Who) (i a : ℕ) → FineFound s (AskWinner who i) o → is_attempt o a ≡ true → a < s.attempts
  won_fine None who i a f t = cc
  won_fine (Some b) who i a f t = subst (λ n. n < s.attempts) (eqb-true b a t) f

  asked_fits : (r : Reducer) → OfRun r → (h : List Event) → AllFine s h → (i a : ℕ) (o : Option ℕ) → FineFound s (AskWinner (whose.Reducer r.number) i) o → Fits s StaysOf (asked r h i a o)
  asked_fits r is h f i a o g = fits_if s StaysOf (is_attempt o a) (notes_new r h (is_none (winner i h)) (events.Won i a))
      (Then (AskRevoked (whose.Reducer r.number) i a) (λ gone. notes_new r h (gone && not (is_revoked i a h)) (events.Revoked i a)))
      (λ t. new_fits r is h f (is_none (winner i h)) (events.Won i a) (won_fine o (whose.Reducer r.number) i a g t))
      (λ t. (tt, λ gone u. new_fits r is h f (gone && not (is_revoked i a h)) (events.Revoked i a) tt))

  reads_fit : (r : Reducer) → OfRun r → (w : ℕ) (h : List Event) → AllFine s h → (m : Message) → FineMessage s m → Fits s StaysOf (reads r w h m)
  reads_fit r is w h f (Range part) g = notes_fit r is h f (range_event h (lane_via r.late w) part) (range_fine h (lane_via r.late w) part g)
  reads_fit r is w h f (Notice i a) g = (tt, λ j u. (tt, λ o v. asked_fits r is h f i a o v))

  looks_fit : (r : Reducer) → OfRun r → (h : List Event) → AllFine s h → (count w : ℕ) → Fits s StaysOf (looks r h count w)
  looks_fit r is h f zero w = gives_fits StaysOf r [] (r, Idle) is
  looks_fit r is h f (suc count) w = (tt, λ o g. by_message o g (looks_fit r is h f count (lane_after r.setup.workers w)))
    where
      by_message : (o : Option Message) → FineFound s (Take w r.number) o → Fits s StaysOf (looks r h count (lane_after r.setup.workers w))
          → Fits s StaysOf (elim o as (λ _. Prog (Reducer × Turn)) [ None ↦ looks r h count (lane_after r.setup.workers w) | Some m ↦ reads (record r { next = lane_after r.setup.workers w }) w h m ])
      by_message None g later = later
      by_message (Some m) g later = reads_fit (record r { next = lane_after r.setup.workers w }) is w h f m g

  -- # A turn of a reducer

  holds_fit : (r : Reducer) → OfRun r → (v : Value) → AllFine s v.events → Fits s StaysOf (holds r v)
  holds_fit r is v f = room_fits StaysOf r v.due (r, Stopped) (cond (must_restart r.setup r.number v.events) (restarts r v.events (lags r, Worked)) (looks r v.events r.setup.workers r.next)) is
      (fits_if s StaysOf (must_restart r.setup r.number v.events) (restarts r v.events (lags r, Worked)) (looks r v.events r.setup.workers r.next)
      (λ t. records_fit StaysOf r events.Restart (marks_due r.setup (events.Restart ∷ v.events)) (lags r, Worked) tt is)
      (λ t. looks_fit r is v.events f r.setup.workers r.next))

  tries_fit : (r : Reducer) → OfRun r → (o : Option Value) → FineFound s (TryHold r.number) o → Fits s StaysOf (tries r o)
  tries_fit r is None f = is
  tries_fit r is (Some v) f = holds_fit r is v (f is.1)

  pub reducer_fits : (r : Reducer) → OfRun r → Fits s StaysOf (reducer_turn r)
  reducer_fits r is = fits_if s StaysOf r.late (Then (Hold r.number) (λ v. holds r v)) (Then (TryHold r.number) (λ o. tries r o))
      (λ t. (tt, λ v f. holds_fit r is v (f is.1))) (λ t. (tt, λ o f. tries_fit r is o f))

  -- # A turn of a mapper

  mapper_step : (w : ℕ) (step : Step) → IsAt (whose.Mapper w) step → FineStep s step
  mapper_step w (Record p e) h = cc
  mapper_step w (SendCut p c) h = cc
  mapper_step w (Send v p m) h = tt
  mapper_step w (Take v p) h = tt
  mapper_step w (NextSplit v) h = tt
  mapper_step w (Draw v i) h = tt
  mapper_step w (Commit v i a) h = tt
  mapper_step w (Revoke v i a) h = tt
  mapper_step w (AskWinner who i) h = tt
  mapper_step w (AskRevoked who i a) h = tt
  mapper_step w (Join p i a) h = tt
  mapper_step w (TryHold p) h = tt
  mapper_step w (Hold p) h = tt
  mapper_step w (GiveBack p due) h = tt
  mapper_step w (TakeCut p) h = tt
  mapper_step w Risk h = tt

  only_fits : {A : Type 0} (w : ℕ) (k : Prog A) → Only (IsAt (whose.Mapper w)) k → Fits s (λ x. Unit {0}) k
  only_fits w (Done x) h = tt
  only_fits w (Then step k) h = (mapper_step w step h.0, λ o f. only_fits w (k o) (h.1 o))

  pub mapper_fits : (m : Mapper) → Fits s (λ x. Unit {0}) (mapper_turn m)
  mapper_fits m = only_fits m.number (mapper_turn m) (own_mapper m)

  -- # A turn of the writer

  -- the writer of the run, and what it wrote
  pub record HasReached (x : Writer) : Type 0 where
    pub setup : x.setup ≡ s
    pub next : x.next < s.reducers
    pub wrote : WroteReached s x.writings

  module _ (x : Writer) (h : HasReached x) where
    wrote_reached : (p : ℕ) (c : CutSaid) (ok : Bool) → p < s.reducers → IsReached s c → HasReached (wrote x p c ok)
    wrote_reached p c ok l r = record {
      setup = h.setup;
      next = subst (λ (k : Setup). lane_after k.reducers p < s.reducers) (sym h.setup) (below s.reducers p l);
      wrote = All-push (λ (w : Writing). (w.reducer < s.reducers) × IsReached s w.cut) x.writings (record { reducer = p; cut = c; put = ok }) h.wrote (l, r);
    }

    writes_fit : (count p : ℕ) → p < s.reducers → Fits s (λ (y : Writer × Turn). HasReached y.0) (writes x count p)
    writes_fit zero p l = h
    writes_fit (suc count) p l = (tt, λ o f. by_cut o f (writes_fit count (lane_after x.setup.reducers p) (subst (λ (k : Setup). lane_after k.reducers p < s.reducers) (sym h.setup) (below s.reducers p l))))
      where
        by_cut : (o : Option CutSaid) → FineFound s (TakeCut p) o → Fits s (λ (y : Writer × Turn). HasReached y.0) (writes x count (lane_after x.setup.reducers p))
            → Fits s (λ (y : Writer × Turn). HasReached y.0) (elim o as (λ _. Prog (Writer × Turn)) [ None ↦ writes x count (lane_after x.setup.reducers p) | Some c ↦ Then Risk (λ ok. Done (wrote x p c ok, works ok)) ])
        by_cut None f later = later
        by_cut (Some c) f later = (tt, λ ok g. wrote_reached p c ok l (f l))

  pub writer_fits : (x : Writer) → HasReached x → Fits s (λ (y : Writer × Turn). HasReached y.0) (writer_turn x)
  writer_fits x h = writes_fit x h x.setup.reducers x.next h.next
