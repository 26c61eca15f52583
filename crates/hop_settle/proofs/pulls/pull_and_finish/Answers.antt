use Rattle.std.proofs.Common.{rules, ◌≡◌, ℕ, ◌+◌, ◌<◌, ◌∙◌, List, [], map, length, arith, refl, sym, ap, subst, Err}
use Rattle.std.proofs.lemmas.List.{length-map}
use Rattle.hop_machine.specs.step.Steps.{Setup, Ends}
use Rattle.hop_machine.specs.step.Setup.{splits_of}
use Rattle.hop_machine.specs.actors.MapperTurns.{Mapper}
use Rattle.hop_machine.specs.play.Play.{World, Place, Pulling, Writing, Went}
use Rattle.hop_machine.proofs.play.Plays.{went_self, went_both, went_same}
use Rattle.hop_machine.proofs.play.Going.{pulls-over}
use Rattle.hop_machine.proofs.run.Ending.{went_pulling}
use Rattle.hop_machine.proofs.home.Here.{reducer_kept}
use Rattle.hop_actors.specs.declared.fault.Fault.{Fault}
use Rattle.hop_machine.specs.run.AllHome.{Pulls}
use Rattle.hop_settle.specs.Crews.{actors_of, world_of, AreWell}
use Rattle.hop_settle.specs.Lacking.{AreBegunBy}
use Rattle.hop_settle.specs.Stops.{place_after}
use Rattle.hop_settle.proofs.DrainLaws.{not_below, fault_place}
use Rattle.hop_settle.proofs.pulls.pull_and_finish.Goals as goal

pub overflow_cast-splits : goal.overflow_cast-splits
overflow_cast-splits g c =
    let b = (c.requires.begun [] c.requires.home.0).count in let z = c.requires.sized.splits in omega (arith, b, z)

pub loop-p-init : goal.loop-p-init
loop-p-init g c = let E = g.E.Reach in record {
  count = refl;
  ends = refl;
  same = refl;
  well = c.requires.well;
  counts = refl;
  went = λ x. went_self E.exact (Pulling 0 0, world_of (map g.M.Store.mapper c.args.mappers.now.items) (map g.D.Taker.reducer c.args.reducers.now.items) x (E.deeds c.args.reach.now));
}

pub pull_all-requires-clause-splits : goal.pull_all-requires-clause-splits
pull_all-requires-clause-splits g c =
    let E = g.E.Reach in let e = E.exact in let k = g.M.Store.mapper in let f = g.D.Taker.reducer in let l = c.loop-p in let x = c.requires.home.0 in
    let same = went_same e (Pulling 0 0, world_of (map k c.args.mappers.now.items) (map f c.args.reducers.now.items) x (E.deeds c.args.reach.now)) (Pulling l.p 0, world_of (map k l.mappers.items) (map f l.reducers.items) x (E.deeds l.reach)) (l.invariant.went x) in
    (c.requires.begun [] x).count ∙ ap (λ (s : Setup). length s.lens) (sym same)

pub pull_all-requires-clause-home : goal.pull_all-requires-clause-home
pull_all-requires-clause-home g c =
    let E = g.E.Reach in let e = E.exact in let k = g.M.Store.mapper in let f = g.D.Taker.reducer in let l = c.loop-p in let x = c.requires.home.0 in
    (x, went_pulling e (Pulling 0 0, world_of (map k c.args.mappers.now.items) (map f c.args.reducers.now.items) x (E.deeds c.args.reach.now)) (Pulling l.p 0, world_of (map k l.mappers.items) (map f l.reducers.items) x (E.deeds l.reach)) (l.invariant.went x) c.requires.home.1)

pub pull_all-requires-clause-ends : goal.pull_all-requires-clause-ends
pull_all-requires-clause-ends g c = λ q inside.
    let E = g.E.Reach in let e = E.exact in let k = g.M.Store.mapper in let f = g.D.Taker.reducer in let l = c.loop-p in let x = c.requires.home.0 in
    let same = went_same e (Pulling 0 0, world_of (map k c.args.mappers.now.items) (map f c.args.reducers.now.items) x (E.deeds c.args.reach.now)) (Pulling l.p 0, world_of (map k l.mappers.items) (map f l.reducers.items) x (E.deeds l.reach)) (l.invariant.went x) in
    reducer_kept q (E.deeds c.args.reach.now) (E.deeds l.reach) same l.invariant.ends (c.requires.ends q (subst (λ (s : Setup). q < s.reducers) same inside))

pub returns-in_err-pull_all-clause-went : goal.returns-in_err-pull_all-clause-went
returns-in_err-pull_all-clause-went g c = λ x.
    let E = g.E.Reach in let e = E.exact in let k = g.M.Store.mapper in let f = g.D.Taker.reducer in let l = c.loop-p in let n = c.pull_all in
    let A : World = world_of (map k c.args.mappers.now.items) (map f c.args.reducers.now.items) x (E.deeds c.args.reach.now) in let B : World = world_of (map k l.mappers.items) (map f l.reducers.items) x (E.deeds l.reach) in
    let D : World = world_of (map k n.new.mappers.items) (map f n.new.reducers.items) x (E.deeds n.new.reach) in
    let fault : Fault = c.in_err-pull_all.field-0.0 in
    let go : Place = Writing in
    let place : place_after {A = Unit {0}} (Err fault) go ≡ place_after c.from_residual.result go = search rules in
    went_both e (Pulling 0 0, A) (Pulling l.p 0, B) (place_after c.from_residual.result go, D) (l.invariant.went x)
    (subst (λ (q : Place). Went e (Pulling l.p 0, B) (q, D)) (ap (λ r. place_after r (Pulling l.p (length c.args.begun.now))) c.in_err-pull_all.was ∙ fault_place fault (Pulling l.p (length c.args.begun.now)) go ∙ place) (n.ensures.went x))

pub finish_one-requires-clause-home : goal.finish_one-requires-clause-home
finish_one-requires-clause-home g c =
    let E = g.E.Reach in let e = E.exact in let k = g.M.Store.mapper in let f = g.D.Taker.reducer in let l = c.loop-p in let n = c.pull_all in let x = c.requires.home.0 in
    let a = E.deeds c.args.reach.now in let d = E.deeds n.new.reach in
    let A : World = world_of (map k c.args.mappers.now.items) (map f c.args.reducers.now.items) x a in let B : World = world_of (map k l.mappers.items) (map f l.reducers.items) x (E.deeds l.reach) in
    let us = map f n.new.reducers.items in
    let D : World = world_of (map k n.new.mappers.items) us x d in
    let w = went_both e (Pulling 0 0, A) (Pulling l.p 0, B) (Pulling l.p (length c.args.begun.now), D) (l.invariant.went x) (c.in_ok-pull_all.ensures.went x) in
    let same = went_same e (Pulling 0 0, A) (Pulling l.p (length c.args.begun.now), D) w in
    let many : length c.args.begun.now ≡ splits_of d.setup = (c.requires.begun us x).count ∙ ap (λ (s : Setup). length s.lens) (sym same) in (
      map k n.new.mappers.items,
      x,
      record {
        pulled = subst (λ (i : ℕ). Pulls l.p i D.actors d) many (went_pulling e (Pulling 0 0, A) (Pulling l.p (length c.args.begun.now), D) w c.requires.home.1);
        numbers = subst (λ (u : List Mapper × Setup). AreBegunBy (actors_of u.0 us x) u.1 c.args.begun.now) (λ t. (sym (n.ensures.same ∙ l.invariant.same) t, sym same t)) (c.requires.begun us x);
      },
    )

pub finish_one-requires-clause-ends : goal.finish_one-requires-clause-ends
finish_one-requires-clause-ends g c = λ q inside.
    let E = g.E.Reach in let e = E.exact in let k = g.M.Store.mapper in let f = g.D.Taker.reducer in let l = c.loop-p in let n = c.pull_all in let x = c.requires.home.0 in
    let a = E.deeds c.args.reach.now in let d = E.deeds n.new.reach in
    let A : World = world_of (map k c.args.mappers.now.items) (map f c.args.reducers.now.items) x a in let B : World = world_of (map k l.mappers.items) (map f l.reducers.items) x (E.deeds l.reach) in
    let D : World = world_of (map k n.new.mappers.items) (map f n.new.reducers.items) x d in
    let same = went_same e (Pulling 0 0, A) (Pulling l.p (length c.args.begun.now), D) (went_both e (Pulling 0 0, A) (Pulling l.p 0, B) (Pulling l.p (length c.args.begun.now), D) (l.invariant.went x) (c.in_ok-pull_all.ensures.went x)) in
    reducer_kept q a d same (n.ensures.ends ∙ l.invariant.ends) (c.requires.ends q (subst (λ (s : Setup). q < s.reducers) same inside))

pub returns-in_err-finish_one-clause-went : goal.returns-in_err-finish_one-clause-went
returns-in_err-finish_one-clause-went g c = λ x.
    let E = g.E.Reach in let e = E.exact in let k = g.M.Store.mapper in let f = g.D.Taker.reducer in let l = c.loop-p in let n = c.pull_all in let m = c.finish_one in
    let a = E.deeds c.args.reach.now in let d = E.deeds n.new.reach in
    let A : World = world_of (map k c.args.mappers.now.items) (map f c.args.reducers.now.items) x a in let B : World = world_of (map k l.mappers.items) (map f l.reducers.items) x (E.deeds l.reach) in
    let D : World = world_of (map k n.new.mappers.items) (map f n.new.reducers.items) x d in let F : World = world_of (map k n.new.mappers.items) (map f m.new.reducers.items) x (E.deeds m.new.reach) in
    let w = went_both e (Pulling 0 0, A) (Pulling l.p 0, B) (Pulling l.p (length c.args.begun.now), D) (l.invariant.went x) (c.in_ok-pull_all.ensures.went x) in
    let same = went_same e (Pulling 0 0, A) (Pulling l.p (length c.args.begun.now), D) w in
    let many : length c.args.begun.now ≡ splits_of d.setup = (c.requires.begun [] x).count ∙ ap (λ (s : Setup). length s.lens) (sym same) in
    let fault : Fault = c.in_err-finish_one.field-0.0 in
    let go : Place = Writing in
    let place : place_after {A = Unit {0}} (Err fault) go ≡ place_after c.from_residual-in_err-finish_one.result go = search rules in
    went_both e (Pulling 0 0, A) (Pulling l.p (splits_of d.setup), D) (place_after c.from_residual-in_err-finish_one.result go, F)
    (subst (λ (i : ℕ). Went e (Pulling 0 0, A) (Pulling l.p i, D)) many w)
    (subst (λ (q : Place). Went e (Pulling l.p (splits_of d.setup), D) (q, F)) (ap (λ r. place_after r (Pulling (l.p + 1) 0)) c.in_err-finish_one.was ∙ fault_place fault (Pulling (l.p + 1) 0) go ∙ place) (m.ensures.went (map k n.new.mappers.items) x))

pub returns-in_err-finish_one-clause-well : goal.returns-in_err-finish_one-clause-well
returns-in_err-finish_one-clause-well g c = let M = g.M.Actor in subst (λ (o : Ends). AreWell M.failed M.fits o.board c.pull_all.new.mappers.items) (sym c.finish_one.ensures.ends) c.pull_all.ensures.well

pub loop-p-preserved : goal.loop-p-preserved
loop-p-preserved g c =
    let E = g.E.Reach in let e = E.exact in let k = g.M.Store.mapper in let f = g.D.Taker.reducer in let l = c.loop-p in let n = c.pull_all in let m = c.finish_one in let i = l.invariant in let M = g.M.Actor in
    let a = E.deeds c.args.reach.now in let d = E.deeds n.new.reach in
    record {
      count = m.ensures.count ∙ n.ensures.count ∙ i.count;
      ends = m.ensures.ends ∙ n.ensures.ends ∙ i.ends;
      same = n.ensures.same ∙ i.same;
      well = subst (λ (o : Ends). AreWell M.failed M.fits o.board n.new.mappers.items) (sym m.ensures.ends) n.ensures.well;
      counts = c.in_ok-pull_all.ensures.counts ∙ i.counts;
      went = λ x.
          let A : World = world_of (map k c.args.mappers.now.items) (map f c.args.reducers.now.items) x a in let B : World = world_of (map k l.mappers.items) (map f l.reducers.items) x (E.deeds l.reach) in
          let D : World = world_of (map k n.new.mappers.items) (map f n.new.reducers.items) x d in let F : World = world_of (map k n.new.mappers.items) (map f m.new.reducers.items) x (E.deeds m.new.reach) in
          let w = went_both e (Pulling 0 0, A) (Pulling l.p 0, B) (Pulling l.p (length c.args.begun.now), D) (i.went x) (c.in_ok-pull_all.ensures.went x) in
          let same = went_same e (Pulling 0 0, A) (Pulling l.p (length c.args.begun.now), D) w in
          let many : length c.args.begun.now ≡ splits_of d.setup = (c.requires.begun [] x).count ∙ ap (λ (s : Setup). length s.lens) (sym same) in
          went_both e (Pulling 0 0, A) (Pulling l.p (splits_of d.setup), D) (Pulling (l.p + 1) 0, F) (subst (λ (i : ℕ). Went e (Pulling 0 0, A) (Pulling l.p i, D)) many w) (c.in_ok-finish_one.ensures.went (map k n.new.mappers.items) x);
    }

pub returns-clause-went : goal.returns-clause-went
returns-clause-went g c = λ x.
    let E = g.E.Reach in let e = E.exact in let k = g.M.Store.mapper in let f = g.D.Taker.reducer in let l = c.loop-p in
    let A : World = world_of (map k c.args.mappers.now.items) (map f c.args.reducers.now.items) x (E.deeds c.args.reach.now) in let B : World = world_of (map k l.mappers.items) (map f l.reducers.items) x (E.deeds l.reach) in
    let past = let t = c.loop-p-test.false in let n = l.invariant.count in let b = l.auto.p-end in not_below l.p (length (map f l.reducers.items)) (omega (arith, length-map l.reducers.items f, n, t, b)) in
    went_both e (Pulling 0 0, A) (Pulling l.p 0, B) (Writing, B) (l.invariant.went x) (pulls-over e l.p 0 B past)
