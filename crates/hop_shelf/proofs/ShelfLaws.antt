-- What each call leaves of a sound shelf.
use Rattle.std.proofs.Common.{◌≡◌, ◌≢◌, ℕ, ◌<◌, ◌≤◌, inr, Bool, true, false, cond, if◌then◌else◌, Option, Some, None, List, [], ◌∷◌, ◌++◌, length, map, filter, set, get_or, slice_index, refl, sym, ap, ◌∙◌, subst, arith, eqb, ◌==◌}
use Rattle.std.specs.Prelude.{All, IsTrue}
use Rattle.std.proofs.lemmas.Bool.Decides.{nat_tests}
use Rattle.std.proofs.lemmas.List.{get_or_read}
use Rattle.std.proofs.lemmas.List.Elements.{All-set, All-push, All-weaker, All-map, All-filter, recursion_from_All}
use Rattle.hop_base.specs.declared.value.Val.{Val}
use Rattle.hop_base.specs.declared.value.Pair.{Pair}
use Rattle.hop_base.specs.declared.part.Part.{Part}
use Rattle.hop_run.specs.Runs.{RunValue}
use Rattle.hop_shelf.specs.Holds.{RunHolds}
use Rattle.hop_event.specs.declared.event.Event.{Event}
use Rattle.hop_event.specs.declared.event.Event.TheVariants.{Arrive, Ignore, Won, Revoked, Restart, Finish}
use Rattle.hop_event.specs.declared.event.Via.{Via}
use Rattle.hop_event.specs.declared.event.Via.TheVariants.{Lane, Late, Pull}
use Rattle.hop_event.specs.History.{upto, winner, is_revoked}
use Rattle.hop_base.specs.Ranges.{AreLens, AreMarks}
use Rattle.hop_base.specs.Run.{restarts_of}
use Rattle.hop_event.specs.Legal.{Follows, NoFinish, IsLegal, IsFinished, IsAttempt, MayCome, Rules, GrowsLegally, IsRange, IsWorker, CameByLane, GoesOn, MayWin, MayBeRevoked, no_other, restart_due, IsWon, AllSettled, AllWon}
use Rattle.hop_shelf.specs.Finish.{AllDone, IsBelow, NamesBelow}
use Rattle.hop_shelf.specs.declared.kept.Kept.{Kept}
use Rattle.hop_shelf.specs.declared.kept.Owner.{Owner}
use Rattle.hop_shelf.specs.declared.kept.Owner.TheVariants.{Committed, Attempt}
use Rattle.hop_shelf.specs.Kept.{is_other, committed_by, owned_by, AreMergeable, joined_at, kept_at, no_kept, all_parts}
use Rattle.hop_shelf.specs.Work.{WorkValue, IsMergeOf}
use Rattle.hop_shelf.specs.Journal.{JournalValue, AddsEvent, IsBeginning}
use Rattle.hop_event.specs.Coverage.{first_reached}
use Rattle.hop_shelf.specs.Covered.{IsByRecords}
use Rattle.hop_shelf.specs.Parts.{parts_of, IsChain}
use Rattle.hop_shelf.specs.Sound.{IsSound, RunsFit, IsKept, AreOwned, IsParcel, owner_by, owner_of}
use Rattle.hop_shelf.proofs.SoundLaws.{arrived_fit, ignored_fit, won_fit, revoked_fit, merged_fit, all_remove}

same_some : (a b : ℕ) → (b == a) ≡ true → b ≡ a
same_some a b h = grind (arith, nat_tests)

-- the run of a range that goes on has the owner of its attempt
owned_by_winner : (h : List Event) (i a : ℕ) (parts : List Part) (w : Option ℕ) → winner i h ≡ w → no_other w a ≡ true → is_revoked i a h ≡ false → All (λ q. (q.split ≡ i) × (q.attempt ≡ a)) parts → AreOwned h parts (owner_by w i a)
owned_by_winner h i a parts None e n r own = (own, r, λ f. absurd (let g : None ≡ Some a = sym e ∙ f in cc))
owned_by_winner h i a parts (Some b) e n r own =
    subst (λ (t : Bool). AreOwned h parts (cond t Committed (Attempt i a))) (sym n)
    (All-weaker (λ q. (q.split ≡ i) × (q.attempt ≡ a)) (λ q. winner q.split h ≡ Some q.attempt) (λ q p. subst (λ j. winner j h ≡ Some q.attempt) (sym p.0) (e ∙ ap (λ c. Some c) (same_some a b n ∙ sym p.1))) parts own)

by_lane : (h : List Event) (part : Part) (via : Via) → (via ≡ Pull → GoesOn h part) → (GoesOn h part → ⊥) → CameByLane via
by_lane h part (Lane w) pulled no_goes = tt
by_lane h part (Late w) pulled no_goes = tt
by_lane h part Pull pulled no_goes = no_goes (pulled refl)

stands_committed : (reduce : List ℕ → List Val → List ℕ) (pairs_of : Part → List Pair) (k : Kept) (b : Bool) → RunHolds reduce pairs_of k.run → RunHolds reduce pairs_of (if b then record k { owner = Committed } else k).run
stands_committed reduce pairs_of k true w = w
stands_committed reduce pairs_of k false w = w

module _ (rules : Rules) (p : ℕ) (marks : List ℕ) (tentative : Bool) (tells : Bool) (reduce : List ℕ → List Val → List ℕ) (pairs_of : Part → List Pair) (j : JournalValue) (kept : List Kept) (s : IsSound rules p marks tentative tells reduce pairs_of j kept) (no_restart : restart_due j.restarts j.events ≡ false) where
  none_due : false ≡ restart_due (restarts_of rules.script p) j.events
  none_due = sym no_restart ∙ ap (λ r. restart_due r j.events) s.restarts

  -- one event more, which may come, over runs that stand for their parts and fit it
  after_sound : (e : Event) (new : JournalValue) (more : List Kept) → AddsEvent j e new → Follows rules p (λ i. rules.attempts) j.events e → (IsTrue tells → All (λ (k : Kept). RunHolds reduce pairs_of k.run) more) → RunsFit (e ∷ j.events) more → IsSound rules p marks tentative tells reduce pairs_of new more
  after_sound e new more a follows stand fit = record {
    legal = subst (GrowsLegally rules p) (sym a.events) (follows, s.legal);
    lens = a.lens ∙ s.lens;
    ranges = subst AreLens (sym a.lens) s.ranges;
    marks_are = a.marks ∙ s.marks_are;
    marked = s.marked;
    tentative_is = a.tentative ∙ s.tentative_is;
    due = inr a.due;
    by_records = s.by_records;
    restarts = a.restarts ∙ s.restarts;
    limit = s.limit;
    stand = stand;
    fit = subst (λ h. RunsFit h more) (sym a.events) fit;
  }

  pub arrived_sound : (part : Part) (via : Via) (new : JournalValue) (run : RunValue) (number : ℕ) (owner : Owner) (after : List Kept) → AddsEvent j (Arrive part via) new → IsRange rules (λ i. rules.attempts) part → IsWorker rules via → GoesOn j.events part → IsParcel part run → (IsTrue tells → RunHolds reduce pairs_of run) → number ≡ length j.events → owner ≡ owner_of part.split part.attempt j.events → after ≡ kept ++ record { number = number; owner = owner; run = run } ∷ [] → IsSound rules p marks tentative tells reduce pairs_of new after
  arrived_sound part via new run number owner after a range worker goes parcel stands n o e =
      let k : Kept = record { number = number; owner = owner; run = run } in
      let owned = owned_by_winner j.events part.split part.attempt run.parts (winner part.split j.events) refl goes.alone goes.alive parcel.own in
      subst (IsSound rules p marks tentative tells reduce pairs_of new) (sym e) (after_sound (Arrive part via) new (kept ++ k ∷ []) a (record { restarts = none_due; rule = (range, worker, goes) })
      (λ t. All-push (λ (k : Kept). RunHolds reduce pairs_of k.run) kept k (s.stand t) (stands t))
      (arrived_fit j.events kept part via k s.fit goes.joined parcel.chain (recursion_from_All (λ q. (q.split ≡ part.split) × (q.attempt ≡ part.attempt)) run.parts parcel.own) n (subst (AreOwned j.events run.parts) (sym o) owned)))

  pub ignored_sound : (part : Part) (via : Via) (have : ℕ) (new : JournalValue) → AddsEvent j (Ignore part via have) new → IsRange rules (λ i. rules.attempts) part → IsWorker rules via → (GoesOn j.events part → ⊥) → (via ≡ Pull → GoesOn j.events part) → have ≡ upto part.split part.attempt j.events → IsSound rules p marks tentative tells reduce pairs_of new kept
  ignored_sound part via have new a range worker stays pulled h =
      after_sound (Ignore part via have) new kept a (record { restarts = none_due; rule = (range, worker, by_lane j.events part via pulled stays, stays, h) })
      (s.stand)
      (ignored_fit j.events kept part via have s.fit)

  pub won_sound : (i a : ℕ) (new : JournalValue) → AddsEvent j (Won i a) new → MayWin rules (λ i. rules.attempts) j.events i a → IsSound rules p marks tentative tells reduce pairs_of new (map (committed_by i a) kept)
  won_sound i a new e may =
      after_sound (Won i a) new (map (committed_by i a) kept) e (record { restarts = none_due; rule = may })
      (λ t. All-map (λ (k : Kept). RunHolds reduce pairs_of k.run) (committed_by i a) kept (All-weaker (λ (k : Kept). RunHolds reduce pairs_of k.run) (λ (k : Kept). RunHolds reduce pairs_of (committed_by i a k).run) (λ k w. stands_committed reduce pairs_of k (owned_by i a k.owner) w) kept (s.stand t)))
      (won_fit j.events kept i a may.no_winner s.fit)

  pub revoked_sound : (i a : ℕ) (new : JournalValue) → AddsEvent j (Revoked i a) new → MayBeRevoked rules (λ i. rules.attempts) j.events i a → IsSound rules p marks tentative tells reduce pairs_of new (filter (is_other i a) kept)
  revoked_sound i a new e may =
      after_sound (Revoked i a) new (filter (is_other i a) kept) e (record { restarts = none_due; rule = may })
      (λ t. All-filter (is_other i a) (λ (k : Kept). RunHolds reduce pairs_of k.run) kept (s.stand t))
      (revoked_fit j.events kept i a may.loses s.fit)

module _ (rules : Rules) (p : ℕ) (marks : List ℕ) (tentative : Bool) (tells : Bool) (reduce : List ℕ → List Val → List ℕ) (pairs_of : Part → List Pair) (j : JournalValue) (kept : List Kept) (s : IsSound rules p marks tentative tells reduce pairs_of j kept) where
  pub joined_sound : (m n : ℕ) (work : WorkValue) (run : RunValue) → AreMergeable kept m n work.a work.first.parts work.b work.second.parts → IsMergeOf tells reduce pairs_of work run → IsSound rules p marks tentative tells reduce pairs_of j (joined_at kept m n run)
  joined_sound m n work run at merge =
      let differ : n ≢ m = λ e. merge.apart (sym at.first.number_is ∙ ap (λ i. (kept_at kept i).number) (sym e) ∙ at.second.number_is) in
      let joined : run.parts ≡ (kept_at kept m).run.parts ++ (kept_at kept n).run.parts = merge.parts ∙ ap (λ ps. ps ++ work.second.parts) (sym at.first.parts_are) ∙ ap (λ ps. (kept_at kept m).run.parts ++ ps) (sym at.second.parts_are) in
      record {
        legal = s.legal;
        lens = s.lens;
        ranges = s.ranges;
        marks_are = s.marks_are;
        marked = s.marked;
        tentative_is = s.tentative_is;
        due = s.due;
        by_records = s.by_records;
        restarts = s.restarts;
        limit = s.limit;
        stand = λ t. all_remove (λ (k : Kept). RunHolds reduce pairs_of k.run) (set kept m (record (kept_at kept m) { run = run })) n (All-set (λ (k : Kept). RunHolds reduce pairs_of k.run) kept m (record (kept_at kept m) { run = run }) (merge.stands t) (s.stand t));
        fit = merged_fit j.events kept s.fit m n run at.first.within at.second.within differ at.owner joined;
      }

-- two runs that were read off the shelf
pub mergeable_read : (kept : List Kept) (m n : ℕ) (x w y z : Kept) (first second : RunValue) → (m < n) × (n < length kept) × ((kept_at kept m).owner ≡ (kept_at kept n).owner) → x ≡ get_or kept m x → w ≡ get_or kept m w → y ≡ get_or kept n y → z ≡ get_or kept n z → first ≡ x.run → second ≡ y.run → AreMergeable kept m n w.number first.parts z.number second.parts
mergeable_read kept m n x w y z first second found xe we ye ze fe se =
    let m_in : m < length kept = omega (arith, found.0, found.1) in
    record {
      first = record { within = m_in; number_is = ap (λ (k : Kept). k.number) (sym (get_or_read kept m w m_in we no_kept)); parts_are = ap (λ (k : Kept). k.run.parts) (sym (get_or_read kept m x m_in xe no_kept)) ∙ ap (λ (r : RunValue). r.parts) (sym fe) };
      second = record { within = found.1; number_is = ap (λ (k : Kept). k.number) (sym (get_or_read kept n z found.1 ze no_kept)); parts_are = ap (λ (k : Kept). k.run.parts) (sym (get_or_read kept n y found.1 ye no_kept)) ∙ ap (λ (r : RunValue). r.parts) (sym se) };
      owner = found.2;
    }

-- a run that was copied off the shelf
pub run_read : (kept : List Kept) (m : ℕ) (x : Kept) (run : RunValue) → m < length kept → x ≡ get_or kept m x → run ≡ x.run → run ≡ (kept_at kept m).run
run_read kept m x run l xe e = e ∙ ap (λ (k : Kept). k.run) (get_or_read kept m x l xe no_kept)

-- ---- the end

winner_step : (n i j b a : ℕ) (w : Option ℕ) (t : Bool) → b < n → (w ≡ Some a → a < n) → (if t then Some b else w) ≡ Some a → a < n
winner_step n i j b a w true l ih e = let same : b ≡ a = cc in subst (λ c. c < n) same l
winner_step n i j b a w false l ih e = ih e

-- a winner is below the limit
pub winner_small : (rules : Rules) (p : ℕ) (h : List Event) (i a : ℕ) → GrowsLegally rules p h → winner i h ≡ Some a → a < rules.attempts
winner_small rules p [] i a legal e = absurd (let g : None ≡ Some a = e in cc)
winner_small rules p (Arrive part via ∷ h) i a legal e = winner_small rules p h i a legal.1 e
winner_small rules p (Ignore part via have ∷ h) i a legal e = winner_small rules p h i a legal.1 e
winner_small rules p (Won j b ∷ h) i a legal e = winner_step rules.attempts i j b a (winner i h) (eqb j i) legal.0.rule.attempt.attempt (winner_small rules p h i a legal.1) e
winner_small rules p (Revoked j b ∷ h) i a legal e = winner_small rules p h i a legal.1 e
winner_small rules p (Restart ∷ h) i a legal e = winner_small rules p h i a legal.1 e
winner_small rules p (Finish ∷ h) i a legal e = winner_small rules p h i a legal.1 e

owned_finished : (h : List Event) (parts : List Part) (o : Owner) → AreOwned h parts o → AreOwned (Finish ∷ h) parts o
owned_finished h parts Committed w = w
owned_finished h parts (Attempt i a) w = w

finished_fit : (h : List Event) (kept : List Kept) → RunsFit h kept → RunsFit (Finish ∷ h) kept
finished_fit h kept r = record {
  each = All-weaker (IsKept h) (IsKept (Finish ∷ h)) (λ k w. record { number = omega (arith, w.number); owned = owned_finished h k.run.parts k.owner w.owned }) kept r.each;
  apart = r.apart;
  consecutive = r.consecutive;
}

pub finished_sound : (rules : Rules) (p : ℕ) (marks : List ℕ) (tentative : Bool) (tells : Bool) (reduce : List ℕ → List Val → List ℕ) (pairs_of : Part → List Pair) (j : JournalValue) (kept : List Kept) → IsSound rules p marks tentative tells reduce pairs_of j kept → restart_due j.restarts j.events ≡ false → (new : JournalValue) → AddsEvent j Finish new → IsSound rules p marks tentative tells reduce pairs_of new kept
finished_sound rules p marks tentative tells reduce pairs_of j kept s no_restart new e = record {
  legal = subst (GrowsLegally rules p) (sym e.events) (record { restarts = sym no_restart ∙ ap (λ r. restart_due r j.events) s.restarts; rule = tt }, s.legal);
  lens = e.lens ∙ s.lens;
  ranges = subst AreLens (sym e.lens) s.ranges;
  restarts = e.restarts ∙ s.restarts;
  marks_are = e.marks ∙ s.marks_are;
  marked = s.marked;
  tentative_is = e.tentative ∙ s.tentative_is;
  due = inr e.due;
  limit = s.limit;
  by_records = s.by_records;
  stand = s.stand;
  fit = subst (λ h. RunsFit h kept) (sym e.events) (finished_fit j.events kept s.fit);
}

-- the shelf of the empty history
pub empty_sound : (rules : Rules) (p : ℕ) (marks : List ℕ) (tentative : Bool) (tells : Bool) (reduce : List ℕ → List Val → List ℕ) (pairs_of : Part → List Pair) (lens restarts : List ℕ) (j : JournalValue) (kept : List Kept) → IsBeginning lens tentative restarts marks j → AreMarks marks → lens ≡ rules.lens → AreLens lens → restarts ≡ restarts_of rules.script p → rules.attempts ≤ 16 → IsByRecords pairs_of → kept ≡ [] → IsSound rules p marks tentative tells reduce pairs_of j kept
empty_sound rules p marks tentative tells reduce pairs_of lens restarts j kept b marked l ranges r limit by none = record {
  legal = subst (GrowsLegally rules p) (sym b.events) tt;
  lens = b.lens_are ∙ l;
  ranges = subst AreLens (sym b.lens_are) ranges;
  restarts = b.restarts_are ∙ r;
  marks_are = b.marks_are;
  marked = marked;
  tentative_is = b.tentative_is;
  due = inr (b.due ∙ ap (λ (x : JournalValue). first_reached x.tentative x.lens x.marks x.events) (begun j b));
  limit = limit;
  by_records = by;
  stand = λ t. subst (All (λ (k : Kept). RunHolds reduce pairs_of k.run)) (sym none) (λ k d l. absurd (omega (arith, l)));
  fit = subst (RunsFit j.events) (sym none) (record { each = λ k d l. absurd (omega (arith, l)); apart = λ i k d l m. absurd (omega (arith, m)); consecutive = λ i a. subst (λ h. IsChain 0 (upto i a h) (parts_of i a (all_parts []))) (sym b.events) refl });
}
  where
    begun : (j : JournalValue) → IsBeginning lens tentative restarts marks j → record { events = []; spare = j.spare; lens = lens; tentative = tentative; restarts = restarts; marks = marks; due = j.due } ≡ j
    begun j b =
        ap (λ (h : List Event). record { events = h; spare = j.spare; lens = lens; tentative = tentative; restarts = restarts; marks = marks; due = j.due }) (sym b.events)
        ∙ ap (λ (ls : List ℕ). record j { lens = ls; tentative = tentative; restarts = restarts; marks = marks }) (sym b.lens_are)
        ∙ ap (λ (t : Bool). record j { tentative = t; restarts = restarts; marks = marks }) (sym b.tentative_is)
        ∙ ap (λ (r : List ℕ). record j { restarts = r; marks = marks }) (sym b.restarts_are)
        ∙ ap (λ (m : List ℕ). record j { marks = m }) (sym b.marks_are)

below_attempt : (lens : List ℕ) (limit begun : ℕ → ℕ) (i a : ℕ) → IsAttempt lens limit i a → a < begun i → IsAttempt lens begun i a
below_attempt lens limit begun i a h b = record { split = h.split; attempt = b }

below_range : (rules : Rules) (limit begun : ℕ → ℕ) (part : Part) → IsRange rules limit part → part.attempt < begun part.split → IsRange rules begun part
below_range rules limit begun part h b = record { attempt = below_attempt rules.lens limit begun part.split part.attempt h.attempt b; some = h.some; within = h.within; begins = h.begins; ends = h.ends; made = h.made }

below_come : (rules : Rules) (limit begun : ℕ → ℕ) (h : List Event) (e : Event) → MayCome rules limit h e → IsBelow begun e → MayCome rules begun h e
below_come rules limit begun h (Arrive part via) m b = (below_range rules limit begun part m.0 b, m.1, m.2)
below_come rules limit begun h (Ignore part via have) m b = (below_range rules limit begun part m.0 b, m.1, m.2, m.3, m.4)
below_come rules limit begun h (Won i a) m b = record { attempt = below_attempt rules.lens limit begun i a m.attempt b; no_winner = m.no_winner; alive = m.alive; succeeds = m.succeeds }
below_come rules limit begun h (Revoked i a) m b = record { attempt = below_attempt rules.lens limit begun i a m.attempt b; loses = m.loses; alive = m.alive }
below_come rules limit begun h Restart m b = tt
below_come rules limit begun h Finish m b = tt

-- a legal history that names only begun attempts is legal with these numbers
pub below_legal : (rules : Rules) (p : ℕ) (limit begun : ℕ → ℕ) (h : List Event) → IsLegal rules p limit h → NamesBelow begun h → IsLegal rules p begun h
below_legal rules p limit begun [] l n = tt
below_legal rules p limit begun (e ∷ h) l n = (record { restarts = l.0.restarts; rule = below_come rules limit begun h e l.0.rule n.0 }, below_legal rules p limit begun h l.1 n.1)

-- a finish changes nothing of what is done
pub done_finished : (j new : JournalValue) (begun : List ℕ) → AddsEvent j Finish new → AllDone j begun → AllDone new begun
done_finished j new begun e done i l =
    let d = done i (omega (arith, l, ap length e.lens)) in
    record {
      won = subst (λ ls. IsWon ls new.events i) (sym e.lens) (subst (λ h. IsWon j.lens h i) (sym e.events) d.won);
      settled = subst (λ h. AllSettled h i (slice_index begun i)) (sym e.events) d.settled;
    }

-- the history of a sound shelf, with the finish, where none stood before
pub finished_whole : (rules : Rules) (p : ℕ) (marks : List ℕ) (tentative : Bool) (tells : Bool) (reduce : List ℕ → List Val → List ℕ) (pairs_of : Part → List Pair) (j : JournalValue) (kept : List Kept) → IsSound rules p marks tentative tells reduce pairs_of j kept → restart_due j.restarts j.events ≡ false → (new : JournalValue) (begun : List ℕ) → AddsEvent j Finish new → AllDone j begun → NamesBelow (slice_index begun) j.events → NoFinish j.events → IsFinished rules p begun new.events
finished_whole rules p marks tentative tells reduce pairs_of j kept s no_restart new begun e done named first =
    let won : AllWon rules.lens j.events = subst (λ l. AllWon l j.events) s.lens (λ i l. (done i l).won) in
    subst (IsFinished rules p begun) (sym e.events) (
      (record { restarts = sym no_restart ∙ ap (λ r. restart_due r j.events) s.restarts; rule = tt }, below_legal rules p (λ i. rules.attempts) (slice_index begun) j.events s.legal named),
      refl,
      first,
      record { won = won; settled = λ i l. (done i (rw s.lens l)).settled },
    )
