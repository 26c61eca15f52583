-- Which events may come, and what the shelf asks of them.
use Rattle.std.proofs.Common.{◌≡◌, ℕ, Bool, true, false, List, ◌∷◌, refl, sym, ap, ◌∙◌, subst, ◌&&◌, not, ◌==◌, if◌then◌else◌}
use Rattle.std.proofs.lemmas.Bool.{eq-eqb, eqb-true, false≢true}
use Rattle.hop_base.specs.Run.{ScriptLines, RunSettings, restarts_of}
use Rattle.hop_base.specs.declared.value.Val.{Val}
use Rattle.hop_base.specs.declared.value.Pair.{Pair}
use Rattle.hop_base.specs.declared.part.Part.{Part}
use Rattle.hop_run.specs.Runs.{RunValue}
use Rattle.hop_event.specs.declared.event.Event.{Event}
use Rattle.hop_event.specs.declared.event.Event.TheVariants.{Arrive, Ignore, Restart}
use Rattle.hop_event.specs.declared.event.Via.{Via}
use Rattle.hop_event.specs.History.{upto, winner, is_revoked}
use Rattle.hop_event.specs.Legal.{Rules, Follows, MayCome, IsRange, IsWorker, GoesOn, no_other, is_restart, restart_due}
use Rattle.hop_event.specs.Coverage.{first_reached}
use Rattle.hop_shelf.specs.Names.{rules_of}
use Rattle.hop_shelf.specs.Cuts.{AreDue}
use Rattle.hop_shelf.specs.Journal.{JournalValue, AddsEvent}
use Rattle.hop_shelf.specs.declared.shelf.Arrived.{Arrived}
use Rattle.hop_shelf.specs.declared.shelf.Arrived.TheVariants.{Taken, Ignored}
use Rattle.hop_shelf.specs.Sound.{ShelfValue, IsSound, MayGrow, Arrives}
use Rattle.hop_machine.specs.declared.words.Turn.{Turn}
use Rattle.hop_machine.specs.step.Steps.{Setup, Deeds, Record}
use Rattle.hop_machine.specs.step.Steps as machine
use Rattle.hop_machine.specs.actors.ReducerTurns.{Reducer, notes, marks_due, goes_on, range_event, lags, restarts}
use Rattle.hop_inner.specs.Locks.{RecordsOne}
use Rattle.hop_machine.specs.home.Conditions.{Safe, May}
use Rattle.hop_machine.specs.home.Said.{history_of}
use Rattle.hop_machine.specs.home.ReducerHome.{MayPull}
use Rattle.hop_machine.proofs.step.Programs.{risk_steps}
use Rattle.hop_inner.specs.Setups.{parts, setup_of}
use Rattle.hop_drain.specs.Drains.{notes_last}
use Rattle.hop_drain.proofs.Cutting.{records_ran}
use Rattle.hop_drain.specs.Held.{IsHeld, IsAdded, IsReady}

-- # What a shelf of the run says

-- the shelf is of this run
pub record IsOfSetup (st : Setup) (s : ShelfValue) : Type 0 where
  pub lens : s.journal.lens ≡ st.lens
  pub tentative : s.journal.tentative ≡ st.tentative
  pub marks : s.journal.marks ≡ st.marks
  pub restarts : s.journal.restarts ≡ restarts_of st.script s.p

pub of_sound : (records : List (List ℕ)) (script : ScriptLines) (settings : RunSettings) (tells : Bool) (reduce : List ℕ → List Val → List ℕ) (pairs : Part → List Pair) (s : ShelfValue)
    → IsSound (rules_of records script settings) s.p settings.marks settings.tentative tells reduce pairs s.journal s.kept → IsOfSetup (setup_of records script settings) s
of_sound records script settings tells reduce pairs s sound = record { lens = sound.lens; tentative = sound.tentative_is; marks = sound.marks_are; restarts = sound.restarts }

-- # What may come

-- what may be recorded may come: the program shows it where memory for cuts is wanting
pub notes_may : (e : Bool) (r : Reducer) (h : List Event) (ev : Event) (a : Deeds) → Safe parts e (notes r h ev) a → May parts (Record r.number ev) a
notes_may e r h ev a safe = (safe.1 false a (risk_steps e false a)).0

abbrev pub FollowsAt : Setup → ℕ → List Event → Event → Type 0
FollowsAt st p h ev = Follows (machine.rules_of st) p (λ i. st.attempts) h ev

pub notes_follow : (e : Bool) (st : Setup) (r : Reducer) (s : ShelfValue) (ev : Event) (a : Deeds) → a.setup ≡ st → IsHeld r.number s a → Safe parts e (notes r s.journal.events ev) a → FollowsAt st s.p s.journal.events ev
notes_follow e st r s ev a setup held safe =
    let P : Setup × (ℕ × (List Event)) → Type 0 = λ z. FollowsAt z.0 z.1.0 z.1.1 ev in
    subst P (λ i. (setup i, (sym held.number i, sym held.events i))) (notes_may e r s.journal.events ev a safe).asks

-- where an event that is no restart may come, the shelf may grow
pub may_grow : (st : Setup) (s : ShelfValue) (ev : Event) → IsOfSetup st s → IsReady s → is_restart ev ≡ false → FollowsAt st s.p s.journal.events ev → MayGrow s
may_grow st s ev of ready plain follows = record {
  spare = ready.spare;
  room = ready.room;
  no_cut = ready.no_cut;
  no_restart = ap (λ x. restart_due x s.journal.events) of.restarts ∙ sym follows.restarts ∙ plain;
}

-- the shelf with one event more
pub adds_added : (p : ℕ) (s new : ShelfValue) (ev : Event) (a : Deeds) → IsHeld p s a → AddsEvent s.journal ev new.journal → new.p ≡ s.p → IsAdded p new a
adds_added p s new ev a held adds number = record {
  number = number ∙ held.number;
  held = held.held;
  event = ev;
  events = adds.events ∙ (λ i. ev ∷ held.events i);
  due = adds.due;
}

pub added_safe : (e : Bool) (r : Reducer) (s : ShelfValue) (j : JournalValue) (ev : Event) (a : Deeds) → AddsEvent s.journal ev j → Safe parts e (notes r s.journal.events ev) a → Safe parts e (notes_last r j.events) a
added_safe e r s j ev a adds safe = subst (λ z. Safe parts e (notes_last r z) a) (sym adds.events) safe

pub added_ran : (e : Bool) (r : Reducer) (s : ShelfValue) (j : JournalValue) (ev : Event) (t : Turn) (a b : Deeds) → AddsEvent s.journal ev j
    → (let x : Reducer × Turn = (r, t) in machine.Runs e (notes_last r j.events) a x b) → (let x : Reducer × Turn = (r, t) in machine.Runs e (notes r s.journal.events ev) a x b)
added_ran e r s j ev t a b adds ran = let x : Reducer × Turn = (r, t) in subst (λ z. machine.Runs e (notes_last r z) a x b) adds.events ran

pub due_now : (st : Setup) (j : JournalValue) → j.lens ≡ st.lens → j.tentative ≡ st.tentative → j.marks ≡ st.marks → j.due ≡ first_reached j.tentative j.lens j.marks j.events → j.due ≡ marks_due st j.events
due_now st j lens tent marks due = due ∙ (λ i. first_reached (tent i) (lens i) (marks i) j.events)

-- # Ranges

plain_either : (b : Bool) (part : Part) (via : Via) (have : ℕ) → is_restart (if b then Arrive part via else Ignore part via have) ≡ false
plain_either true part via have = refl
plain_either false part via have = refl

pub range_plain : (h : List Event) (via : Via) (part : Part) → is_restart (range_event h via part) ≡ false
range_plain h via part = plain_either (goes_on h part) part via (upto part.split part.attempt h)

range_either : (rules : Rules) (begun : ℕ → ℕ) (h : List Event) (b : Bool) (part : Part) (via : Via) (have : ℕ) → MayCome rules begun h (if b then Arrive part via else Ignore part via have) → IsRange rules begun part × IsWorker rules via
range_either rules begun h true part via have may = (may.0, may.1)
range_either rules begun h false part via have may = (may.0, may.1)

pub range_rules : (rules : Rules) (begun : ℕ → ℕ) (h : List Event) (via : Via) (part : Part) → MayCome rules begun h (range_event h via part) → IsRange rules begun part × IsWorker rules via
range_rules rules begun h via part may = range_either rules begun h (goes_on h part) part via (upto part.split part.attempt h) may

pub goes_yes : (h : List Event) (part : Part) → GoesOn h part → goes_on h part ≡ true
goes_yes h part g = λ i. not (g.alive i) && g.alone i && eq-eqb part.from (upto part.split part.attempt h) g.joined i

all_three : (x y z : Bool) → (not x && y && z) ≡ true → (x ≡ false) × (y ≡ true) × (z ≡ true)
all_three false true true h = (refl, refl, refl)
all_three false true false h = absurd (false≢true h)
all_three false false z h = absurd (false≢true h)
all_three true y z h = absurd (false≢true h)

goes_means : (h : List Event) (part : Part) → goes_on h part ≡ true → GoesOn h part
goes_means h part yes_it =
    let all = all_three (is_revoked part.split part.attempt h) (no_other (winner part.split h) part.attempt) (part.from == upto part.split part.attempt h) yes_it in
    record { alive = all.0; alone = all.1; joined = eqb-true part.from (upto part.split part.attempt h) all.2 }

no_of : (b : Bool) → (b ≡ true → ⊥) → b ≡ false
no_of true not_it = absurd (not_it refl)
no_of false not_it = refl

pub goes_no : (h : List Event) (part : Part) → (GoesOn h part → ⊥) → goes_on h part ≡ false
goes_no h part not_it = no_of (goes_on h part) (λ y. not_it (goes_means h part y))

-- what arrives is recorded by the machine's rule
pub arrived_adds : (old : ShelfValue) (part : Part) (via : Via) (run : RunValue) (x : Arrived) (new : ShelfValue) → Arrives old part via run x new → AddsEvent old.journal (range_event old.journal.events via part) new.journal × (new.p ≡ old.p)
arrived_adds old part via run Taken new got =
    (subst (λ b. AddsEvent old.journal (if b then Arrive part via else Ignore part via (upto part.split part.attempt old.journal.events)) new.journal) (sym (goes_yes old.journal.events part got.0)) got.1, got.3)
arrived_adds old part via run (Ignored have) new got =
    let ev : AddsEvent old.journal (Ignore part via (upto part.split part.attempt old.journal.events)) new.journal = subst (λ n. AddsEvent old.journal (Ignore part via n) new.journal) got.1 got.2 in
    (subst (λ b. AddsEvent old.journal (if b then Arrive part via else Ignore part via (upto part.split part.attempt old.journal.events)) new.journal) (sym (goes_no old.journal.events part got.0)) ev, got.4)

-- # Restarts

pub restart_one : (e : Bool) (r : Reducer) (s now : ShelfValue) (q : ℕ) (a b : Deeds) → q ≡ r.number → IsHeld r.number s a → AddsEvent s.journal Restart now.journal
    → now.journal.due ≡ marks_due r.setup now.journal.events → ((ev : Event) → now.journal.events ≡ ev ∷ (a.did.keeps q).events → RecordsOne e q ev now.journal.due a b)
    → RecordsOne e r.number Restart (marks_due r.setup (Restart ∷ s.journal.events)) a b
restart_one e r s now q a b here held adds due one =
    let at_r = subst (λ k. (ev : Event) → now.journal.events ≡ ev ∷ (a.did.keeps k).events → RecordsOne e k ev now.journal.due a b) here one in
    subst (λ d. RecordsOne e r.number Restart d a b) (due ∙ ap (marks_due r.setup) adds.events) (at_r Restart (adds.events ∙ (λ i. Restart ∷ held.events i)))

pub restart_ran : {A : Type 0} (e : Bool) (r y : Reducer) (h : List Event) (a b : Deeds) (t : A) → y ≡ lags r → RecordsOne e r.number Restart (marks_due r.setup (Restart ∷ h)) a b
    → let x : Reducer × A = (y, t) in let z : Reducer × A = (lags r, t) in machine.Runs e (restarts r h z) a x b
restart_ran {A} e r y h a b t is one =
    let z : Reducer × A = (lags r, t) in
    subst (λ k. let x : Reducer × A = (k, t) in machine.Runs e (restarts r h z) a x b) (sym is) (records_ran e r Restart (marks_due r.setup (Restart ∷ h)) z a b one)

-- # Pulls

both_true : (x y : Bool) → (not x && y) ≡ true → (x ≡ false) × (y ≡ true)
both_true false true h = (refl, refl)
both_true false false h = absurd (false≢true h)
both_true true y h = absurd (false≢true h)

-- a range that may be pulled goes on
pub pull_goes : (r : Reducer) (part : Part) (a : Deeds) (h : List Event) → history_of a r.number ≡ h → MayPull r part a → GoesOn h part
pull_goes r part a h is may =
    let old = history_of a r.number in
    let both = both_true (is_revoked part.split part.attempt old) (no_other (winner part.split old) part.attempt) may.wants in
    let there : GoesOn old part = record { alive = both.0; alone = both.1; joined = may.joined } in
    subst (λ z. GoesOn z part) is there

-- and is taken
pub arrived_taken : (old : ShelfValue) (part : Part) (via : Via) (run : RunValue) (x : Arrived) (new : ShelfValue) → GoesOn old.journal.events part → Arrives old part via run x new → AddsEvent old.journal (Arrive part via) new.journal × (new.p ≡ old.p)
arrived_taken old part via run Taken new goes got = (got.1, got.3)
arrived_taken old part via run (Ignored have) new goes got = absurd (got.0 goes)

-- room for one event more changes nothing that the lock shows
pub roomy_held : (p spare : ℕ) (s now : ShelfValue) (a : Deeds) → now.p ≡ s.p → now.journal ≡ record s.journal { spare = spare } → IsHeld p s a → IsHeld p now a
roomy_held p spare s now a number journal held = record { number = number ∙ held.number; held = held.held; events = (λ i. (journal i).events) ∙ held.events }

-- the shelf with one event more, whatever its runs have become
pub added_still : (p : ℕ) (s now : ShelfValue) (a : Deeds) → now.journal ≡ s.journal → now.p ≡ s.p → IsAdded p s a → IsAdded p now a
added_still p s now a journal number added = record {
  number = number ∙ added.number;
  held = added.held;
  event = added.event;
  events = (λ i. (journal i).events) ∙ added.events;
  due = subst AreDue (sym journal) added.due;
}
