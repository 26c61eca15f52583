-- Sending cuts, and recording an event.
use Rattle.std.proofs.Common.{◌≡◌, ℕ, Bool, true, false, List, [], ◌∷◌, refl, sym, ap, ◌∙◌, subst, if◌then◌else◌}
use Rattle.std.specs.Prelude.{map, All}
use Rattle.std.proofs.lemmas.List.Elements.{All-head, All-tail}
use Rattle.hop_base.specs.declared.value.Val.{Val}
use Rattle.hop_base.specs.declared.value.Pair.{Pair}
use Rattle.hop_base.specs.declared.part.Part.{Part}
use Rattle.hop_event.specs.declared.event.Event.{Event}
use Rattle.hop_cut.specs.declared.cut.Cut.{Cut}
use Rattle.hop_shelf.specs.Cuts.{IsCut}
use Rattle.hop_shelf.specs.Journal.{JournalValue}
use Rattle.hop_shelf.specs.Sound.{ShelfValue}
use Rattle.hop_machine.specs.declared.words.Turn.{Turn}
use Rattle.hop_machine.specs.step.Steps.{Setup, Value, CutSaid, Deeds, Prog, Steps, Runs, Done, Then, and_then, SendCut}
use Rattle.hop_machine.specs.actors.ReducerTurns.{Reducer, cut_after, each_cut, send_cuts, still_due, marks_due, notes, records, works}
use Rattle.hop_machine.specs.home.Conditions.{Safe}
use Rattle.hop_machine.proofs.step.Programs.{Runs-and_then, risk_steps}
use Rattle.hop_inner.specs.Messages.{said_cut}
use Rattle.hop_inner.specs.Locks.{RecordsOne, AddsOne}
use Rattle.hop_inner.specs.Setups.{parts}
use Rattle.hop_inner.specs.Shelved.{value_of}
use Rattle.hop_drain.specs.Drains.{each_said, notes_last}
use Rattle.hop_drain.specs.Held.{IsAdded, with_due}
use Rattle.hop_drain.proofs.Safety.{safe_first, safe_after}

-- # One cut after another

-- the cuts of these marks, one after another
each_is : (r : Reducer) (h : List Event) (ms : List ℕ) → each_said r.number (map (cut_after r.setup h) ms) ≡ each_cut r h ms
each_is r h [] = refl
each_is r h (m ∷ ms) = ap (λ (k : Prog (Unit {0})). Then (SendCut r.number (cut_after r.setup h m)) (λ _. k)) (each_is r h ms)

cuts_are : (r : Reducer) (h : List Event) (ms : List ℕ) (cs : List CutSaid) → cs ≡ map (cut_after r.setup h) ms → each_said r.number cs ≡ each_cut r h ms
cuts_are r h ms cs is = ap (each_said r.number) is ∙ each_is r h ms

-- cuts of a history say what the machine says of their marks
pub cuts_said : (s : Setup) (j : JournalValue) (tells : Bool) (reduce : List ℕ → List Val → List ℕ) (pairs : Part → List Pair) (cuts : List Cut)
    → j.lens ≡ s.lens → j.tentative ≡ s.tentative → All (IsCut tells reduce pairs j) cuts → map said_cut cuts ≡ map (cut_after s j.events) (map (λ (c : Cut). c.mark) cuts)
cuts_said s j tells reduce pairs [] lens tent all = refl
cuts_said s j tells reduce pairs (c ∷ cuts) lens tent all =
    let here = All-head (IsCut tells reduce pairs j) c cuts all in
    let one : said_cut c ≡ cut_after s j.events c.mark = λ i. record {
      mark = c.mark;
      progress = (here.progress_is ∙ (λ k. Rattle.hop_event.specs.Coverage.progress (tent k) (lens k) j.events)) i;
      declared = (here.declared_is ∙ (λ k. map (Rattle.hop_event.specs.Coverage.declared (tent k) j.events) (Rattle.std.specs.List.range_with_len 0 (Rattle.std.specs.Prelude.length (lens k))))) i;
    } in
    λ i. one i ∷ cuts_said s j tells reduce pairs cuts lens tent (All-tail (IsCut tells reduce pairs j) c cuts all) i

-- # The cuts that are due

module _ (e : Bool) (r : Reducer) (h : List Event) (ms : List ℕ) (cs : List CutSaid) (is : cs ≡ map (cut_after r.setup h) ms) where
  pub sends_safe : (a : Deeds) → Safe parts e (send_cuts r h ms) a → Safe parts e (each_said r.number cs) a
  sends_safe a safe =
      let both : Safe parts e (and_then (each_cut r h ms) (λ _. Done true)) a = safe.1 true a (risk_steps e true a) in
      subst (λ (k : Prog (Unit {0})). Safe parts e k a) (sym (cuts_are r h ms cs is)) (safe_first parts e (each_cut r h ms) (λ _. Done true) a both)

  pub sends_ran : (a b : Deeds) → Runs e (each_said r.number cs) a tt b → Runs e (send_cuts r h ms) a true b
  sends_ran a b ran = (
    true,
    a,
    risk_steps e true a,
    Runs-and_then e (each_cut r h ms) (λ _. Done true) a b b tt true (subst (λ (k : Prog (Unit {0})). Runs e k a tt b) (cuts_are r h ms cs is) ran) (refl, refl),
  )

pub sends_not : (e : Bool) (r : Reducer) (h : List Event) (ms : List ℕ) (a : Deeds) → Runs e (send_cuts r h ms) a false a
sends_not e r h ms a = (false, a, risk_steps e false a, (refl, refl))

-- cuts move no lock
each_keep : (e : Bool) (r : Reducer) (h : List Event) (ms : List ℕ) (ok : Bool) (a b : Deeds) → Runs e (and_then (each_cut r h ms) (λ _. Done true)) a ok b → b.did.keeps ≡ a.did.keeps
each_keep e r h [] ok a b ran = ap (λ (d : Deeds). d.did.keeps) ran.1
each_keep e r h (m ∷ ms) ok a b ran = each_keep e r h ms ok ran.1 b ran.3 ∙ (λ i. (ran.2.did i).keeps)

either_keep : (e : Bool) (r : Reducer) (h : List Event) (ms : List ℕ) (ok there : Bool) (a b : Deeds) → Runs e (if there then and_then (each_cut r h ms) (λ _. Done true) else Done false) a ok b → b.did.keeps ≡ a.did.keeps
either_keep e r h ms ok true a b ran = each_keep e r h ms ok a b ran
either_keep e r h ms ok false a b ran = ap (λ (d : Deeds). d.did.keeps) ran.1

pub sends_keep : (e : Bool) (r : Reducer) (h : List Event) (ms : List ℕ) (ok : Bool) (a b : Deeds) → Runs e (send_cuts r h ms) a ok b → b.did.keeps ≡ a.did.keeps
sends_keep e r h ms ok a b ran = either_keep e r h ms ok ran.0 ran.1 b ran.3 ∙ (λ i. (ran.2.did i).keeps)

-- # An event

pub records_ran : {A : Type 0} (e : Bool) (r : Reducer) (ev : Event) (due : List ℕ) (x : A) (a b : Deeds) → RecordsOne e r.number ev due a b → Runs e (records r ev due x) a x b
records_ran e r ev due x a b one = (tt, one.between, one.records, (tt, b, one.gives, (refl, refl)))

module _ (e : Bool) (r : Reducer) (s : ShelfValue) (a : Deeds) (added : IsAdded r.number s a) (due : s.journal.due ≡ marks_due r.setup s.journal.events) where
  abbrev before : List Event
  before = (a.did.keeps r.number).events

  abbrev now_due : List ℕ
  now_due = marks_due r.setup (added.event ∷ before)

  due_is : s.journal.due ≡ now_due
  due_is = due ∙ ap (marks_due r.setup) added.events

  module _ (safe : Safe parts e (notes_last r s.journal.events) a) where
    notes_safe : Safe parts e (notes r before added.event) a
    notes_safe = subst (λ z. Safe parts e (notes_last r z) a) added.events safe

    pub closes_safe : Safe parts e (send_cuts r s.journal.events s.journal.due) a
    closes_safe =
        let first = safe_first parts e (send_cuts r (added.event ∷ before) now_due) (λ ok. records {A = Reducer × Turn} r added.event (still_due ok now_due) (r, works ok)) a notes_safe in
        let P : (List Event) × (List ℕ) → Type 0 = λ z. Safe parts e (send_cuts r z.0 z.1) a in
        subst P (λ i. (sym added.events i, sym due_is i)) first

    module _ (sent : Bool) (n : Deeds) (ran : Runs e (send_cuts r s.journal.events s.journal.due) a sent n) where
      ran_now : Runs e (send_cuts r (added.event ∷ before) now_due) a sent n
      ran_now = let P : (List Event) × (List ℕ) → Type 0 = λ z. Runs e (send_cuts r z.0 z.1) a sent n in subst P (λ i. (added.events i, due_is i)) ran

      same_keeps : n.did.keeps ≡ a.did.keeps
      same_keeps = sends_keep e r s.journal.events s.journal.due sent a n ran

      events_now : s.journal.events ≡ added.event ∷ (n.did.keeps r.number).events
      events_now = added.events ∙ sym (λ i. added.event ∷ (same_keeps i r.number).events)

      record_safe : Safe parts e (records {A = Reducer × Turn} r added.event (still_due sent now_due) (r, works sent)) n
      record_safe = safe_after parts e (send_cuts r (added.event ∷ before) now_due) (λ ok. records {A = Reducer × Turn} r added.event (still_due ok now_due) (r, works ok)) a n sent notes_safe ran_now

      module _ (now : ShelfValue) (is : now ≡ with_due (still_due sent s.journal.due) s) (v : Value) (value : v ≡ value_of now) (q : ℕ) (here : q ≡ r.number) where
        v_events : v.events ≡ added.event ∷ (n.did.keeps r.number).events
        v_events = (λ i. (value i).events) ∙ (λ i. (is i).journal.events) ∙ events_now

        v_due : v.due ≡ still_due sent now_due
        v_due = (λ i. (value i).due) ∙ (λ i. (is i).journal.due) ∙ ap (still_due sent) due_is

        pub closes_adds : AddsOne q v n
        closes_adds = let at_r : AddsOne r.number v n = record { event = added.event; events = v_events; may = record_safe.0 } in subst (λ k. AddsOne k v n) (sym here) at_r

        pub closes_held : (n.did.keeps q).held ≡ true
        closes_held = (λ i. (n.did.keeps (here i)).held) ∙ (λ i. (same_keeps i r.number).held) ∙ added.held

        pub closes_number : (m : ℕ) → m ≡ now.p → m ≡ q
        closes_number m e = e ∙ (λ i. (is i).p) ∙ added.number ∙ sym here

        pub closes_ran : (b : Deeds) → ((ev : Event) → v.events ≡ ev ∷ (n.did.keeps q).events → RecordsOne e q ev v.due n b) → let x : Reducer × Turn = (r, works sent) in Runs e (notes_last r s.journal.events) a x b
        closes_ran b one =
            let x : Reducer × Turn = (r, works sent) in
            let at_r = subst (λ k. (ev : Event) → v.events ≡ ev ∷ (n.did.keeps k).events → RecordsOne e k ev v.due n b) here one in
            let ran_on : Runs e (notes r before added.event) a x b =
            Runs-and_then e (send_cuts r (added.event ∷ before) now_due) (λ ok. records {A = Reducer × Turn} r added.event (still_due ok now_due) (r, works ok)) a n b sent x ran_now
            (records_ran e r added.event (still_due sent now_due) x n b (subst (λ d. RecordsOne e r.number added.event d n b) v_due (at_r added.event v_events))) in
            subst (λ z. Runs e (notes_last r z) a x b) (sym added.events) ran_on

-- # Of a list of cuts

module _ (e ok : Bool) (p : ℕ) (c : Cut) (left cuts : List Cut) (is : left ≡ c ∷ cuts) (a b : Deeds) (st : Steps e (SendCut p (said_cut c)) ok a b) where
  pub left_fit : (P : Cut → Type 0) → All P left → All P cuts
  left_fit P all = All-tail P c cuts (subst (λ xs. All P xs) is all)

  pub left_safe : Safe parts e (each_said p (map said_cut left)) a → Safe parts e (each_said p (map said_cut cuts)) b
  left_safe safe = let at_once : Safe parts e (each_said p (map said_cut (c ∷ cuts))) a = subst (λ xs. Safe parts e (each_said p (map said_cut xs)) a) is safe in at_once.1 ok b st

  pub left_ran : (d : Deeds) → Runs e (each_said p (map said_cut cuts)) b tt d → Runs e (each_said p (map said_cut left)) a tt d
  left_ran d ran = let first : Runs e (each_said p (map said_cut (c ∷ cuts))) a tt d = (ok, b, st, ran) in subst (λ xs. Runs e (each_said p (map said_cut xs)) a tt d) (sym is) first
