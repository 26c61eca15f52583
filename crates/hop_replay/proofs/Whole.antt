-- What is read off a run that came to its end.
use Rattle.std.proofs.Common.{◌≡◌, ◌⊎◌, inl, inr, ℕ, zero, suc, ◌≤◌, ◌<◌, ◌==◌, ◌&&◌, Bool, true, false, List, [], ◌∷◌, length, map, get_or, Some, slice_index, nat_lt, if◌then◌else◌, sym, ap, ◌∙◌, subst, arith}
use Rattle.std.specs.List.{slice_get, range_with_len}
use Rattle.std.proofs.Math.ListN.{get_or-eq_default}
use Rattle.std.proofs.lemmas.Bool.Decides.{nat_tests}
use Rattle.std.proofs.lemmas.Option.{slice_get-get_or, same_Some}
use Rattle.std.proofs.lemmas.List.FromFn.{get_or-map-range_with_len, length-map-range_with_len}
use Rattle.hop_event.specs.declared.event.Event.{Event}
use Rattle.hop_event.specs.Legal.{AllWon}
use Rattle.hop_event.specs.Agreement.{history_at}
use Rattle.hop_machine.specs.step.Steps.{Deeds, rules_of}
use Rattle.hop_machine.specs.step.Pushing.{kept_end}
use Rattle.hop_machine.specs.actors.MapperTurns.{Mapper}
use Rattle.hop_machine.specs.home.Said.{history_of}
use Rattle.hop_machine.specs.home.Conditions.{HasReducer}
use Rattle.hop_machine.specs.play.Play.{Place, World}
use Rattle.hop_machine.specs.ending.Finishing.{AreBegun, AreHistories, HasPulled}
use Rattle.hop_machine.specs.run.AllHome.{RanToItsEnd, mapper_of}
use Rattle.hop_machine.proofs.ending.Winners.{less_or_not}
use Rattle.hop_machine.proofs.ending.Finished.{may-finish}
use Rattle.hop_machine.proofs.ending.Settled.{is-begun, begun_by_all}
use Rattle.hop_machine.proofs.run.Pulling.{have_ended, is_at_end}
use Rattle.hop_machine.proofs.run.WholeRun.{ends_settled}
use Rattle.hop_ending.specs.Workers.{HasOneWorker}
use Rattle.hop_ending.proofs.Workers.{run_came, run_others}
use Rattle.hop_finish.specs.Left.{IsFree}
use Rattle.hop_replay.specs.Driven.{kept_of}

-- the histories of all reducers, by number
pub are-histories : (d : Deeds) (n : ℕ) (hs : List (List Event)) → n ≡ d.setup.reducers → hs ≡ map (history_of d) (range_with_len 0 n) → AreHistories d hs
are-histories d n hs all e = record {
  count = ap (λ (l : List (List Event)). length l) e ∙ length-map-range_with_len (history_of d) 0 n ∙ all;
  each = λ p l. ap (λ (l : List (List Event)). history_at l p) e ∙ get_or-map-range_with_len (history_of d) 0 n p p _ (omega (arith, l, all)) (omega arith);
}

same_if : (v w b n : ℕ) (k : ℕ) → n < b → (if v == w then k else 0) ≡ (if nat_lt n b && (w == v) then k else 0)
same_if v w b n k l =
    let t : nat_lt n b ≡ true = grind (arith, nat_tests) in
    let e : (v == w) ≡ (w == v) = grind (arith, nat_tests) in
    λ i. if (sym t i && e i) then k else 0

none_if : (b n : ℕ) (c : Bool) (k : ℕ) → b ≤ n → 0 ≡ (if nat_lt n b && c then k else 0)
none_if b n c k l =
    let t : nat_lt n b ≡ false = grind (arith, nat_tests) in
    λ i. if (sym t i && c) then k else 0

module _ (from : Place) (a d : World) (ran : RanToItsEnd true from a d) where
  -- each lock is free
  pub free-then : (p : ℕ) → p < d.deeds.setup.reducers → HasReducer p d.deeds → IsFree d.deeds p
  free-then p l here =
      let z = (ends_settled true from a d ran).ends.home in
      let r = get_or d.actors.reducers p (Rattle.hop_machine.specs.home.Starts.new_reducer 0 d.deeds.setup) in
      let k = z.reducer p r (slice_get-get_or d.actors.reducers p (Rattle.hop_machine.specs.home.Starts.new_reducer 0 d.deeds.setup) (let n = z.reducers in omega (arith, l, n))) in
      record { end = here.keep; free = subst (λ (q : ℕ). (d.deeds.did.keeps q).held ≡ false) k.number k.home.free }

  -- each split's winner is there whole
  pub all-won : (p : ℕ) → p < d.deeds.setup.reducers → AllWon d.deeds.setup.lens (history_of d.deeds p)
  all-won p l =
      let st = ends_settled true from a d ran in
      let rules = rules_of d.deeds.setup in
      let ms = mapper_of d.actors d.deeds.setup in
      let ended = have_ended d.actors d.deeds st.ends in
      let k = st.closed p l in
      let pulled : HasPulled rules (history_of d.deeds p) = subst (λ (h : List Event). HasPulled rules h) (sym k.ends) k.pulled in
      (may-finish rules d.deeds (is_at_end d.actors d.deeds st.ends) (begun_by_all rules d.deeds ms ended) (is-begun rules d.deeds ms ended) p l pulled).won

  module _ (begun : List ℕ) (are : AreBegun (rules_of d.deeds.setup) (mapper_of d.actors d.deeds.setup) begun) (hs : List (List Event)) (them : AreHistories d.deeds hs) where
    one : (i n : ℕ) → i < length d.deeds.setup.lens → n < slice_index begun i → (w : ℕ) × HasOneWorker d hs w i n
    one i n l k = run_came true from a d ran begun are hs them i n l k

    pick : (i n : ℕ) → (i < length d.deeds.setup.lens) ⊎ (length d.deeds.setup.lens ≤ i) → (n < slice_index begun i) ⊎ (slice_index begun i ≤ n) → ℕ
    pick i n (inl l) (inl k) = (one i n l k).0
    pick i n (inl l) (inr k) = 0
    pick i n (inr l) y = 0

    -- the worker of each attempt that was begun
    pub worker-of : ℕ → ℕ → ℕ
    worker-of i n = pick i n (less_or_not i (length d.deeds.setup.lens)) (less_or_not n (slice_index begun i))

    picked : (i n : ℕ) → i < length d.deeds.setup.lens → n < slice_index begun i → (x : (i < length d.deeds.setup.lens) ⊎ (length d.deeds.setup.lens ≤ i)) (y : (n < slice_index begun i) ⊎ (slice_index begun i ≤ n)) → HasOneWorker d hs (pick i n x y) i n
    unfolding pick
    picked i n l k (inl u) (inl v) = (one i n u v).1
    picked i n l k (inl u) (inr v) = absurd (omega (arith, k, v))
    picked i n l k (inr u) y = absurd (omega (arith, l, u))

    pub is-of : (i n : ℕ) → i < length d.deeds.setup.lens → n < slice_index begun i → HasOneWorker d hs (worker-of i n) i n
    unfolding worker-of
    is-of i n l k = picked i n l k (less_or_not i (length d.deeds.setup.lens)) (less_or_not n (slice_index begun i))

    inside : (i n : ℕ) → n < slice_index begun i → (i < length d.deeds.setup.lens) ⊎ (length d.deeds.setup.lens ≤ i) → i < length d.deeds.setup.lens
    inside i n k (inl l) = l
    inside i n k (inr l) = let c = are.count in let e : slice_index begun i ≡ 0 = get_or-eq_default begun 0 (omega (arith, c, l)) in absurd (omega (arith, k, e))

    kept-by : (w : ℕ) (m : Mapper) → slice_get d.actors.mappers w ≡ Some m → (i n : ℕ) → (n < slice_index begun i) ⊎ (slice_index begun i ≤ n) → m.kept i n ≡ kept_of (rules_of d.deeds.setup) begun worker-of w i n
    kept-by w m g i n (inl k) =
        let l = inside i n k (less_or_not i (length d.deeds.setup.lens)) in
        (is-of i n l k).kept w m g ∙ same_if w (worker-of i n) (slice_index begun i) n (kept_end (rules_of d.deeds.setup) i n) k
    kept-by w m g i n (inr k) =
        run_others true from a d ran begun are i n (λ l h. omega (arith, h, k)) w m g ∙ none_if (slice_index begun i) n (worker-of i n == w) (kept_end (rules_of d.deeds.setup) i n) k

    -- what each vault kept
    pub kept-so : (w : ℕ) (m : Mapper) → slice_get d.actors.mappers w ≡ Some m → (i n : ℕ) → m.kept i n ≡ kept_of (rules_of d.deeds.setup) begun worker-of w i n
    kept-so w m g i n = kept-by w m g i n (less_or_not n (slice_index begun i))

-- where no mapper makes backups, none of a list does
pub all-alone : {M : Type 0} (k : M → Mapper) (ms : List M) → ((m : M) → (k m).backup ≡ false) → (w : ℕ) (m : Mapper) → slice_get (map k ms) w ≡ Some m → m.backup ≡ false
all-alone k [] h w m e = cc
all-alone k (x ∷ xs) h zero m e = sym (ap (λ (m : Mapper). m.backup) (same_Some (k x) m e)) ∙ h x
all-alone k (x ∷ xs) h (suc w) m e = all-alone k xs h w m e
