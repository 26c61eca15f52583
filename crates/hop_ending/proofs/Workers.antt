-- Each attempt of a run that came to its end is of one worker.
use Rattle.std.proofs.Common.{◌≡◌, ◌⊎◌, ℕ, ◌≤◌, ◌<◌, Bool, true, false, ◌==◌, cond, List, [], length, refl, sym, ap, ◌∙◌, subst, inl, inr, Some, slice_index, arith}
use Rattle.std.specs.List.{slice_get}
use Rattle.std.proofs.lemmas.Bool.{eqb-true, eq-eqb}
use Rattle.std.proofs.Math.ListN.{get_or-eq_default}
use Rattle.hop_event.specs.declared.event.Event.{Event}
use Rattle.hop_event.specs.Legal.{Rules}
use Rattle.hop_event.specs.Agreement.{history_at}
use Rattle.hop_machine.specs.step.Steps.{rules_of}
use Rattle.hop_machine.specs.step.Pushing.{kept_end, AllOfWorker}
use Rattle.hop_machine.specs.actors.MapperTurns.{Mapper, Work}
use Rattle.hop_machine.specs.home.Said.{BeganBy, SomeBegan}
use Rattle.hop_machine.specs.home.MapperHome.{records_done}
use Rattle.hop_machine.specs.play.Play.{Place, World}
use Rattle.hop_machine.specs.ending.Finishing.{AreBegun, AreHistories, IsLastBegun}
use Rattle.hop_machine.specs.run.AllHome.{WorkIsDone, RanToItsEnd, mapper_of}
use Rattle.hop_machine.proofs.ending.Winners.{less_or_not}
use Rattle.hop_machine.proofs.ending.Finished.{was-begun}
use Rattle.hop_machine.proofs.ending.Deliveries.{one-worker}
use Rattle.hop_machine.proofs.ending.Settled.{list-begun}
use Rattle.hop_machine.proofs.settling.Passes.{there}
use Rattle.hop_machine.proofs.run.Pulling.{have_ended, is_at_end}
use Rattle.hop_machine.proofs.run.WholeRun.{ends_settled}
use Rattle.hop_ending.specs.Workers.{KeptByOne, HasOneWorker}

module _ (x : World) (z : WorkIsDone x.actors x.deeds) (begun : List ℕ) (are : AreBegun (rules_of x.deeds.setup) (mapper_of x.actors x.deeds.setup) begun) where
  abbrev rules : Rules
  rules = rules_of x.deeds.setup

  last_begun : IsLastBegun rules x.deeds (slice_index begun)
  last_begun = list-begun rules x.deeds (mapper_of x.actors x.deeds.setup) (have_ended x.actors x.deeds z) begun are

  its_worker : (i n : ℕ) → n < slice_index begun i → SomeBegan rules x.deeds i n
  its_worker i n l = was-begun rules x.deeds (is_at_end x.actors x.deeds z) (slice_index begun) last_begun i n l

  -- what a mapper began, by the run's rules and by its place, and by its own
  module _ (v : ℕ) (m : Mapper) (g : slice_get x.actors.mappers v ≡ Some m) (i n : ℕ) where
    worker : v < rules.workers
    worker = let l = there x.actors.mappers v m g in let k = z.home.workers in omega (arith, l, k)

    to_own : BeganBy rules x.deeds v i n → BeganBy m.rules x.deeds m.number i n
    to_own b = let h = z.home.mapper v m g in subst (λ (k : Rules × ℕ). BeganBy k.0 x.deeds k.1 i n) (λ t. (sym h.home.fits.rules t, sym h.number t)) b

    from_own : BeganBy m.rules x.deeds m.number i n → BeganBy rules x.deeds v i n
    from_own b = let h = z.home.mapper v m g in subst (λ (k : Rules × ℕ). BeganBy k.0 x.deeds k.1 i n) (λ t. (h.home.fits.rules t, h.number t)) b

    kept_whole : BeganBy rules x.deeds v i n → m.kept i n ≡ kept_end rules i n
    kept_whole b =
        let h = (z.home.mapper v m g).home in
        h.home.keeps.each i n (to_own b) ∙ ap (λ (k : Work). records_done m.rules k i n) (z.ended v m g).work ∙ ap (λ (k : Rules). kept_end k i n) h.fits.rules

    kept_nothing : (BeganBy rules x.deeds v i n → ⊥) → m.kept i n ≡ 0
    kept_nothing not_begun = (z.home.mapper v m g).home.home.keeps.others i n (λ b. not_begun (from_own b))

    -- no two mappers began the attempt
    kept_as : (w : ℕ) → w < rules.workers → BeganBy rules x.deeds w i n → (t : Bool) → (v == w) ≡ t → m.kept i n ≡ cond t (kept_end rules i n) 0
    kept_as w l b true e = kept_whole (subst (λ k. BeganBy rules x.deeds k i n) (sym (eqb-true v w e)) b)
    kept_as w l b false e = kept_nothing (λ c. let q : true ≡ false = sym (eq-eqb v w (z.gathered.rule.numbers.drawer i n v w worker l c.drawn b.drawn)) ∙ e in cc)

  by_one : (i n w : ℕ) → w < rules.workers → BeganBy rules x.deeds w i n → KeptByOne x w i n
  by_one i n w l b v m g = kept_as v m g i n w l b (v == w) refl

  others_nothing : (i n : ℕ) → (i < length rules.lens → n < slice_index begun i → ⊥) → (v : ℕ) (m : Mapper) → slice_get x.actors.mappers v ≡ Some m → m.kept i n ≡ 0
  others_nothing i n not_begun v m g = kept_nothing v m g i n (λ b. not_begun (z.gathered.rule.numbers.drew v i n (worker v m g i n) b.drawn).0 (last_begun.above i n (v, worker v m g i n, b)))

  module _ (histories : List (List Event)) (them : AreHistories x.deeds histories) where
    nothing : (p : ℕ) → x.deeds.setup.reducers ≤ p → history_at histories p ≡ []
    nothing p h = get_or-eq_default histories [] (let c = them.count in omega (arith, h, c))

    came_at : (i n w : ℕ) → w < rules.workers → BeganBy rules x.deeds w i n → (p : ℕ) → (p < x.deeds.setup.reducers) ⊎ (x.deeds.setup.reducers ≤ p) → AllOfWorker w i n (history_at histories p)
    came_at i n w l b p (inl r) = subst (λ h. AllOfWorker w i n h) (sym (them.each p r)) (one-worker rules x.deeds (is_at_end x.actors x.deeds z) i n w l b p r)
    came_at i n w l b p (inr r) = subst (λ h. AllOfWorker w i n h) (sym (nothing p r)) tt

    one_worker : (i n : ℕ) → n < slice_index begun i → (w : ℕ) × HasOneWorker x histories w i n
    one_worker i n l =
        let t = its_worker i n l in
        (t.0, record { worker = t.1; kept = by_one i n t.0 t.1 t.2; came = λ p. came_at i n t.0 t.1 t.2 p (less_or_not p x.deeds.setup.reducers) })

  kept_by_one : (i n : ℕ) → n < slice_index begun i → (w : ℕ) × (w < rules.workers) × KeptByOne x w i n
  kept_by_one i n l = let t = its_worker i n l in (t.0, t.1, by_one i n t.0 t.1 t.2)

-- # Of a whole run

module _ (e : Bool) (from : Place) (a d : World) (z : RanToItsEnd e from a d) (begun : List ℕ) (are : AreBegun (rules_of d.deeds.setup) (mapper_of d.actors d.deeds.setup) begun) where
  pub run_kept : (i n : ℕ) → i < length d.deeds.setup.lens → n < slice_index begun i → (w : ℕ) × (w < d.deeds.setup.workers) × KeptByOne d w i n
  run_kept i n s l = kept_by_one d (ends_settled e from a d z).ends begun are i n l

  pub run_came : (histories : List (List Event)) → AreHistories d.deeds histories → (i n : ℕ) → i < length d.deeds.setup.lens → n < slice_index begun i → (w : ℕ) × HasOneWorker d histories w i n
  run_came histories them i n s l = one_worker d (ends_settled e from a d z).ends begun are histories them i n l

  pub run_others : (i n : ℕ) → (i < length d.deeds.setup.lens → n < slice_index begun i → ⊥) → (v : ℕ) (m : Mapper) → slice_get d.actors.mappers v ≡ Some m → m.kept i n ≡ 0
  run_others i n not_begun v m g = others_nothing d (ends_settled e from a d z).ends begun are i n not_begun v m g
