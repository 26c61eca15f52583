-- The cuts that are due on the empty histories are sent: a machine as it is made comes to the first state of its play.
use Rattle.std.proofs.Common.{◌≡◌, ◌⊎◌, ℕ, zero, suc, ◌+◌, ◌<◌, ◌≤◌, ◌==◌, Bool, true, false, List, [], ◌∷◌, ◌++◌, Some, None, refl, sym, ap, ◌∙◌, subst, inl, inr, map, length, nat_lt, slice_set, if◌then◌else◌, append_assoc, append-nil, length-append, arith}
use Rattle.std.specs.List.{slice_get, range_with_len}
use Rattle.std.proofs.lemmas.Bool.{eqb-true, eqb-false, lt-ltb, cases_lt}
use Rattle.std.proofs.lemmas.List.{length-map}
use Rattle.std.proofs.lemmas.List.FromFn.{length-map-range_with_len}
use Rattle.hop_event.specs.declared.event.Event.{Event}
use Rattle.hop_machine.specs.step.Steps.{Setup, CutSaid, Shared, Value, Prog, Done, Then, and_then, SendCut, does, becomes, shown, at1}
use Rattle.hop_machine.specs.actors.ReducerTurns.{Reducer, cut_after, marks_due, each_cut, send_cuts, gives_back, still_due, send_due}
use Rattle.hop_machine.specs.home.Starts.{new_reducer}
use Rattle.hop_machine.specs.home.ReducerHome.{IsSetup}
use Rattle.hop_machine.specs.board.Board.{no_words}
use Rattle.hop_machine.specs.play.Play.{Order, Place, Opening, Listed, Actors, Machine, World, machine, at_place, by_reducer, at_reducer, same_reducer, unless_halted, when, after_step, next, Follows, Reaches, Went}
use Rattle.hop_machine.specs.play.FirstState.{new_actors, first_cuts, for_reducers, nothing_under_lock, new_shared, first_shared, first_state, Plays, IsNew}
use Rattle.hop_machine.proofs.step.Told.{at1-here}
use Rattle.hop_machine.proofs.reducer.CutLaws.{cuts_few, cuts-first}
use Rattle.hop_machine.proofs.play.Exact.{is_halted, went-reaches, shown_at}
use Rattle.hop_machine.proofs.play.Plays.{follows_rest, reaches_self, reaches_one, reaches_both}

-- # One program after another, on one thread

does-and_then : {A B : Type 0} (k : Prog A) (f : A → Prog B) (x : Shared) → does (and_then k f) x ≡ does (f (does k x).0) (does k x).1
does-and_then (Done y) f x = refl
does-and_then (Then q k) f x = does-and_then (k (Rattle.hop_machine.specs.step.Steps.finds q x)) f (becomes q x)

does-then : {A B : Type 0} (k : Prog A) (f : A → Prog B) (x y : Shared) (v : A) → does k x ≡ (v, y) → does (and_then k f) x ≡ does (f v) y
does-then k f x y v e = does-and_then k f x ∙ ap (λ z. does (f z.0) z.1) e

-- # A place that is written twice, or with what is there

module _ {A : Type 0} (f : ℕ → A) (p : ℕ) where
  at1_same : (x : A) → x ≡ f p → at1 f p x ≡ f
  at1_same x e = λ i q. of q (q == p) refl i
    where
      of : (q : ℕ) (t : Bool) → (q == p) ≡ t → (if t then x else f q) ≡ f q
      of q true h = e ∙ ap f (sym (eqb-true q p h))
      of q false h = refl

  at1_twice : (x y : A) → at1 (at1 f p x) p y ≡ at1 f p y
  at1_twice x y = λ i q. of (q == p) (at1 f p x q) (f q) (λ t. ap (λ u. if u then x else f q) t) i
    where
      of : (t : Bool) (z w : A) → (t ≡ false → z ≡ w) → (if t then y else z) ≡ (if t then y else w)
      of true z w h = refl
      of false z w h = h refl

-- # The cuts of one reducer

abbrev with_cuts : ℕ → List CutSaid → Shared → Shared
with_cuts p xs x = record x { cuts = at1 x.cuts p xs }

module _ (r : Reducer) (h : List Event) where
  abbrev cut : ℕ → CutSaid
  cut = cut_after r.setup h

  does_cuts : (marks : List ℕ) (x : Shared) → length (x.cuts r.number) + length marks ≤ 16 → does (each_cut r h marks) x ≡ (tt, with_cuts r.number (x.cuts r.number ++ map cut marks) x)
  does_cuts [] x few = λ i. (tt, record x { cuts = sym (at1_same x.cuts r.number (x.cuts r.number ++ []) (append-nil (x.cuts r.number))) i })
  does_cuts (m ∷ marks) x few =
      let y = with_cuts r.number (x.cuts r.number ++ cut m ∷ []) x in
      let room : nat_lt (length (x.cuts r.number)) 16 ≡ true = lt-ltb (length (x.cuts r.number)) 16 (omega (arith, few)) in
      let sent : becomes (SendCut r.number (cut m)) x ≡ y = ap (λ t. if t then y else x) room in
      let here : y.cuts r.number ≡ x.cuts r.number ++ cut m ∷ [] = at1-here x.cuts r.number (x.cuts r.number ++ cut m ∷ []) in
      let n = ap (λ (xs : List CutSaid). length xs) here ∙ length-append (x.cuts r.number) (cut m ∷ []) in
      ap (does (each_cut r h marks)) sent
      ∙ does_cuts marks y (omega (arith, few, n))
      ∙ (λ i. (tt, with_cuts r.number (here i ++ map cut marks) y))
      ∙ (λ i. (tt, record x { cuts = at1_twice x.cuts r.number (x.cuts r.number ++ cut m ∷ []) (append_assoc (x.cuts r.number) (cut m ∷ []) (map cut marks) i) i }))

-- the cuts that are due on this history are sent, and none is due then
abbrev opened_at : Reducer → Shared → Shared
opened_at r x = record x {
  cuts = at1 x.cuts r.number (x.cuts r.number ++ map (cut_after r.setup (x.histories r.number).events) (x.histories r.number).due);
  histories = at1 x.histories r.number (record (x.histories r.number) { due = [] });
}

does_due : (r : Reducer) (x : Shared) → length (x.cuts r.number) + length (x.histories r.number).due ≤ 16 → does (send_due r) x ≡ (true, opened_at r x)
does_due r x few =
    let v = x.histories r.number in
    let y = with_cuts r.number (x.cuts r.number ++ map (cut_after r.setup v.events) v.due) x in
    does-then (send_cuts r v.events v.due) (λ ok. gives_back r (still_due ok v.due) ok) x y true (does-then (each_cut r v.events v.due) (λ _. Done true) x y tt (does_cuts r v.events v.due x few))

-- # One step

slice_set_same : {A : Type 0} (xs : List A) (p : ℕ) (x : A) → slice_get xs p ≡ Some x → slice_set xs p x ≡ xs
slice_set_same [] p x h = refl
slice_set_same (y ∷ xs) zero x h = ap (λ z. z ∷ xs) (sym (some_is y x h))
  where
    some_is : {A : Type 0} (y x : A) → Some y ≡ Some x → y ≡ x
    some_is y x h = cc
slice_set_same (y ∷ xs) (suc p) x h = ap (λ zs. y ∷ zs) (slice_set_same xs p x h)

does_at : (p : ℕ) (r : Reducer) (x : Actors) (place : Bool → Place) (y z : Shared) → slice_get x.reducers p ≡ Some r → does (send_due r) y ≡ (true, z)
    → does (at_reducer p (same_reducer send_due) true place x) y ≡ ((place true, x), z)
does_at p r x place y z g e =
    let f = same_reducer send_due in
    let first : does (f r) y ≡ ((r, true), z) = does-then (send_due r) (λ ok. Done (r, ok)) y z true e in
    let second : does (at_place (slice_get x.reducers p) x.reducers p f true) y ≡ ((x.reducers, true), z)
    = (λ i. does (at_place (g i) x.reducers p f true) y) ∙ does-then (f r) (λ k. Done (slice_set x.reducers p k.0, k.1)) y z (r, true) first ∙ (λ i. ((slice_set_same x.reducers p r g i, true), z)) in
    let third : does (by_reducer p f true x) y ≡ ((x, true), z) = does-then (at_place (slice_get x.reducers p) x.reducers p f true) (λ k. Done (record x { reducers = k.0 }, k.1)) y z (x.reducers, true) second in
    does-then (by_reducer p f true x) (λ k. Done (place k.1, k.0)) y z (x, true) third

-- # All of them

module _ (s : Setup) (backup : Bool) (list : List Order) (set : IsSetup s) where
  abbrev x : Actors
  x = new_actors s backup

  -- the first p reducers have sent theirs
  abbrev cuts_at : ℕ → ℕ → List CutSaid
  cuts_at p q = if nat_lt q p then first_cuts s else []

  abbrev histories_at : ℕ → ℕ → Value
  histories_at p q = if nat_lt q p then nothing_under_lock else for_reducers s (record { events = []; due = marks_due s [] }) nothing_under_lock q

  abbrev opening : ℕ → Shared
  opening p = record { setup = s; lanes = λ w q. []; cuts = cuts_at p; words = no_words; histories = histories_at p }

  lt_true : (q p : ℕ) → q < p → nat_lt q p ≡ true
  lt_true q p l = lt-ltb q p l

  lt_false : (q p : ℕ) → p ≤ q → nat_lt q p ≡ false
  lt_false q p l = of (nat_lt q p) refl
    where
      of : (t : Bool) → nat_lt q p ≡ t → t ≡ false
      of true h = let k = Rattle.std.proofs.lemmas.Bool.ltb-true q p h in absurd (omega (arith, k, l))
      of false h = refl

  -- q is below p + 1 where it is p or below p
  one_more : (q p : ℕ) → (q == p) ≡ false → nat_lt q (p + 1) ≡ nat_lt q p
  one_more q p n = of (cases_lt q p)
    where
      of : (q < p) ⊎ (p ≤ q) → nat_lt q (p + 1) ≡ nat_lt q p
      of (inl l) = lt_true q (p + 1) (omega arith) ∙ sym (lt_true q p l)
      of (inr l) = let f = eqb-false q p n in lt_false q (p + 1) (omega (arith, l, f)) ∙ sym (lt_false q p l)

  written : {A : Type 0} (f g : ℕ → A) (p : ℕ) (y : A) → y ≡ g p → ((q : ℕ) → (q == p) ≡ false → f q ≡ g q) → at1 f p y ≡ g
  written f g p y e h = λ i q. of q (q == p) refl i
    where
      of : (q : ℕ) (t : Bool) → (q == p) ≡ t → (if t then y else f q) ≡ g q
      of q true k = e ∙ ap g (sym (eqb-true q p k))
      of q false k = h q k

  there : (p : ℕ) → p < s.reducers → slice_get x.reducers p ≡ Some (new_reducer p s)
  there p l = get_range 0 s.reducers p l ∙ ap (λ q. Some (new_reducer q s)) (from_zero p)
    where
      from_zero : (p : ℕ) → 0 + p ≡ p
      from_zero p = omega arith

      get_range : (at n p : ℕ) → p < n → slice_get (map (λ q. new_reducer q s) (range_with_len at n)) p ≡ Some (new_reducer (at + p) s)
      get_range at zero p l = absurd (omega (arith, l))
      get_range at (suc n) zero l = ap (λ q. Some (new_reducer q s)) (none at)
        where
          none : (at : ℕ) → at ≡ at + 0
          none at = omega arith
      get_range at (suc n) (suc p) l = get_range (at + 1) n p (omega (arith, l)) ∙ ap (λ q. Some (new_reducer q s)) (more at p)
        where
          more : (at p : ℕ) → (at + 1) + p ≡ at + suc p
          more at p = omega arith

  many : length x.reducers ≡ s.reducers
  many = length-map-range_with_len (λ p. new_reducer p s) 0 s.reducers

  opens_one : (p : ℕ) → p < s.reducers → opened_at (new_reducer p s) (opening p) ≡ opening (p + 1)
  opens_one p l =
      let now : histories_at p p ≡ record { events = []; due = marks_due s [] } = (λ i. if lt_false p p (omega arith) i then nothing_under_lock else for_reducers s (record { events = []; due = marks_due s [] }) nothing_under_lock p) ∙ ap (λ t. if t then record { events = []; due = marks_due s [] } else nothing_under_lock) (lt_true p s.reducers l) in
      let was : cuts_at p p ≡ [] = ap (λ t. if t then first_cuts s else []) (lt_false p p (omega arith)) in
      let below : nat_lt p (p + 1) ≡ true = lt_true p (p + 1) (omega arith) in
      let cuts : at1 (cuts_at p) p (cuts_at p p ++ map (cut_after s (histories_at p p).events) (histories_at p p).due) ≡ cuts_at (p + 1)
      = written (cuts_at p) (cuts_at (p + 1)) p (cuts_at p p ++ map (cut_after s (histories_at p p).events) (histories_at p p).due)
      ((λ i. was i ++ map (cut_after s (now i).events) (now i).due) ∙ ap (λ t. if t then first_cuts s else []) (sym below))
      (λ q n. ap (λ t. if t then first_cuts s else []) (sym (one_more q p n))) in
      let histories : at1 (histories_at p) p (record (histories_at p p) { due = [] }) ≡ histories_at (p + 1)
      = written (histories_at p) (histories_at (p + 1)) p (record (histories_at p p) { due = [] })
      ((λ i. record (now i) { due = [] }) ∙ ap (λ t. if t then nothing_under_lock else for_reducers s (record { events = []; due = marks_due s [] }) nothing_under_lock p) (sym below))
      (λ q n. ap (λ t. if t then nothing_under_lock else for_reducers s (record { events = []; due = marks_due s [] }) nothing_under_lock q) (sym (one_more q p n))) in
      λ i. record { setup = s; lanes = λ w q. []; cuts = cuts i; words = no_words; histories = histories i }

  few : (p : ℕ) → p < s.reducers → length (cuts_at p p) + length (histories_at p p).due ≤ 16
  few p l =
      let now : length (histories_at p p).due ≡ length (marks_due s []) = (λ i. length (if lt_false p p (omega arith) i then nothing_under_lock else for_reducers s (record { events = []; due = marks_due s [] }) nothing_under_lock p).due) ∙ ap (λ t. length (if t then record { events = []; due = marks_due s [] } else nothing_under_lock).due) (lt_true p s.reducers l) in
      let was : length (cuts_at p p) ≡ 0 = ap (λ t. length (if t then first_cuts s else [])) (lt_false p p (omega arith)) in
      omega (arith, now, was, due_few)
    where
      due_few : length (marks_due s []) ≤ 16
      due_few = let f = cuts_few s [] set.marks.few in let l = ap length (cuts-first s set.marks.ascending) in let m = length-map (marks_due s []) (cut_after s []) in omega (arith, f, l, m)

  one_opened : (p : ℕ) → p < s.reducers → next (Opening p list) (record { actors = x; shared = opening p }) ≡ Some (Opening (p + 1) list, record { actors = x; shared = opening (p + 1) })
  one_opened p l =
      let k = at_reducer p (same_reducer send_due) true (unless_halted (Opening (p + 1) list)) x in
      let inside : nat_lt p (length x.reducers) ≡ true = lt_true p (length x.reducers) (let n = many in omega (arith, l, n)) in
      let run : does k (opening p) ≡ ((Opening (p + 1) list, x), opening (p + 1))
      = does_at p (new_reducer p s) x (unless_halted (Opening (p + 1) list)) (opening p) (opening (p + 1)) (there p l) (does_due (new_reducer p s) (opening p) (few p l) ∙ (λ i. (true, opens_one p l i))) in
      (λ i. Some (after_step (does (when (inside i) k (Done (Listed list, x))) (opening p)))) ∙ (λ i. Some (after_step (run i)))

  all_opened : (left p : ℕ) → p + left ≡ s.reducers → Reaches (Opening p list, record { actors = x; shared = opening p }) (Opening s.reducers list, record { actors = x; shared = opening s.reducers })
  all_opened zero p e =
      let same : p ≡ s.reducers = omega (arith, e) in
      subst (λ q. Reaches (Opening p list, record { actors = x; shared = opening p }) (Opening q list, record { actors = x; shared = opening q })) same (reaches_self (Opening p list, record { actors = x; shared = opening p }))
  all_opened (suc left) p e = reaches_both (Opening p list, record { actors = x; shared = opening p }) (Opening (p + 1) list, record { actors = x; shared = opening (p + 1) }) (Opening s.reducers list, record { actors = x; shared = opening s.reducers })
      (reaches_one (Opening p list, record { actors = x; shared = opening p }) (Opening (p + 1) list, record { actors = x; shared = opening (p + 1) }) (one_opened p (omega (arith, e)))) (all_opened left (p + 1) (omega (arith, e)))

  first_is : opening 0 ≡ new_shared s
  first_is = λ i. record {
    setup = s;
    lanes = λ w q. [];
    cuts = λ q. ap (λ t. if t then first_cuts s else []) (lt_false q 0 (omega arith)) i;
    words = no_words;
    histories = λ q. ap (λ t. if t then nothing_under_lock else for_reducers s (record { events = []; due = marks_due s [] }) nothing_under_lock q) (lt_false q 0 (omega arith)) i;
  }

  last_is : opening s.reducers ≡ first_shared s
  last_is = λ i. record { setup = s; lanes = λ w q. []; cuts = cuts_at s.reducers; words = no_words; histories = λ q. of (nat_lt q s.reducers) i }
    where
      of : (t : Bool) → (if t then nothing_under_lock else (if t then record { events = []; due = marks_due s [] } else nothing_under_lock)) ≡ nothing_under_lock
      of true = refl
      of false = refl

  past : next (Opening s.reducers list) (record { actors = x; shared = opening s.reducers }) ≡ Some (Listed list, record { actors = x; shared = opening s.reducers })
  past =
      let over : nat_lt s.reducers (length x.reducers) ≡ false = lt_false s.reducers (length x.reducers) (let n = many in omega (arith, n)) in
      λ i. Some (after_step (does (when (over i) (at_reducer s.reducers (same_reducer send_due) true (unless_halted (Opening (s.reducers + 1) list)) x) (Done (Listed list, x))) (opening s.reducers)))

  -- a machine as it is made comes to the first state of its play
  pub comes_first : Reaches (Opening 0 list, record { actors = x; shared = new_shared s }) (Listed list, first_state s backup)
  comes_first =
      let P : Shared × Shared → Type 0 = λ k. Reaches (Opening 0 list, record { actors = x; shared = k.0 }) (Listed list, record { actors = x; shared = k.1 }) in
      subst P (λ i. (first_is i, last_is i))
      (reaches_both (Opening 0 list, record { actors = x; shared = opening 0 }) (Opening s.reducers list, record { actors = x; shared = opening s.reducers }) (Listed list, record { actors = x; shared = opening s.reducers }) (all_opened s.reducers 0 (omega arith))
      (reaches_one (Opening s.reducers list, record { actors = x; shared = opening s.reducers }) (Listed list, record { actors = x; shared = opening s.reducers }) past))

-- a whole run over exact ends is the play of its turn list
pub went-plays : (backup : Bool) (list : List Order) (a : World) (b : Place × World) → IsSetup a.deeds.setup → IsNew backup a → Went true (Opening 0 list, a) b → is_halted b.0 ≡ false → next b.0 (machine b.1) ≡ None → Plays a.deeds.setup backup list (b.0, machine b.1)
went-plays backup list a b set new w on over =
    let r = went-reaches (Opening 0 list, a) b w on in
    let s = a.deeds.setup in
    let c = comes_first s backup list set in
    let P : Machine → Type 0 = λ m. Follows (Opening 0 list, m) r.states (shown_at b) in
    let g = follows_rest (Opening 0 list, record { actors = new_actors s backup; shared = new_shared s }) (Listed list, first_state s backup) (shown_at b) c.states r.states c.follow
    (subst P (λ i. record { actors = new.actors i; shared = new.shows i }) r.follow) over in
    record { states = g.0; follow = g.1; over = over }
