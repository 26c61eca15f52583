use Rattle.std.proofs.Common.{rules, ◌≡◌, ℕ, ◌<◌, ◌∙◌, map, length, arith, refl, sym, ap, subst, Err}
use Rattle.hop_machine.specs.step.Steps.{Setup}
use Rattle.hop_machine.specs.play.Play.{World, Place, Pulling, Went, after_pull}
use Rattle.hop_machine.specs.settling.Settling.{split_after}
use Rattle.hop_machine.proofs.play.Plays.{went_self, went_both, went_same}
use Rattle.hop_machine.proofs.run.Ending.{went_pulling}
use Rattle.hop_machine.proofs.home.Here.{reducer_kept}
use Rattle.hop_actors.specs.declared.fault.Fault.{Fault}
use Rattle.hop_actors.specs.Calls.{found}
use Rattle.hop_settle.specs.Crews.{world_of}
use Rattle.hop_settle.specs.Stops.{place_after}
use Rattle.hop_settle.proofs.SplitLaws.{after_is, stopped_place, within_after}
use Rattle.hop_settle.proofs.pulls.pull_all.Goals as goal

pub loop-split-init : goal.loop-split-init
loop-split-init g c = let E = g.E.Reach in record {
  within = omega arith;
  count = refl;
  ends = refl;
  same = refl;
  well = c.requires.well;
  counts = refl;
  went = λ x. went_self E.exact (Pulling c.args.p 0, world_of (map g.M.Store.mapper c.args.mappers.now.items) (map g.D.Taker.reducer c.args.reducers.now.items) x (E.deeds c.args.reach.now));
}

pub next_split-split-requires : goal.next_split-split-requires
next_split-split-requires g c = let t = c.loop-split-test.true in let r = c.ranges.splits.fits in omega arith

pub pull_one-requires-clause-split : goal.pull_one-requires-clause-split
pull_one-requires-clause-split g c =
    let E = g.E.Reach in let e = E.exact in let k = g.M.Store.mapper in let f = g.D.Taker.reducer in let l = c.loop-split in let x = c.requires.home.0 in
    let same = went_same e (Pulling c.args.p 0, world_of (map k c.args.mappers.now.items) (map f c.args.reducers.now.items) x (E.deeds c.args.reach.now)) (Pulling c.args.p l.split, world_of (map k l.mappers.items) (map f l.reducers.items) x (E.deeds l.reach)) (l.invariant.went x) in
    let t = c.loop-split-test.true in let n = c.requires.splits in let s = ap (λ (s : Setup). length s.lens) same in omega (arith, t, n, s)

pub pull_one-requires-clause-home : goal.pull_one-requires-clause-home
pull_one-requires-clause-home g c =
    let E = g.E.Reach in let e = E.exact in let k = g.M.Store.mapper in let f = g.D.Taker.reducer in let l = c.loop-split in let x = c.requires.home.0 in
    (x, went_pulling e (Pulling c.args.p 0, world_of (map k c.args.mappers.now.items) (map f c.args.reducers.now.items) x (E.deeds c.args.reach.now)) (Pulling c.args.p l.split, world_of (map k l.mappers.items) (map f l.reducers.items) x (E.deeds l.reach)) (l.invariant.went x) c.requires.home.1)

pub pull_one-requires-clause-ends : goal.pull_one-requires-clause-ends
pull_one-requires-clause-ends g c = λ q inside.
    let E = g.E.Reach in let e = E.exact in let k = g.M.Store.mapper in let f = g.D.Taker.reducer in let l = c.loop-split in let x = c.requires.home.0 in
    let same = went_same e (Pulling c.args.p 0, world_of (map k c.args.mappers.now.items) (map f c.args.reducers.now.items) x (E.deeds c.args.reach.now)) (Pulling c.args.p l.split, world_of (map k l.mappers.items) (map f l.reducers.items) x (E.deeds l.reach)) (l.invariant.went x) in
    reducer_kept q (E.deeds c.args.reach.now) (E.deeds l.reach) same l.invariant.ends (c.requires.ends q (subst (λ (s : Setup). q < s.reducers) same inside))

pub returns-in_err-pull_one-clause-went : goal.returns-in_err-pull_one-clause-went
returns-in_err-pull_one-clause-went g c = λ x.
    let E = g.E.Reach in let e = E.exact in let k = g.M.Store.mapper in let f = g.D.Taker.reducer in let l = c.loop-split in let n = c.pull_one in let p = c.args.p in
    let A : World = world_of (map k c.args.mappers.now.items) (map f c.args.reducers.now.items) x (E.deeds c.args.reach.now) in let B : World = world_of (map k l.mappers.items) (map f l.reducers.items) x (E.deeds l.reach) in
    let D : World = world_of (map k n.new.mappers.items) (map f n.new.reducers.items) x (E.deeds n.new.reach) in
    let fault : Fault = c.in_err-pull_one.field-0.0 in
    let go : Place = Pulling p c.args.splits in
    let place : place_after {A = Unit {0}} (Err fault) go ≡ place_after c.from_residual.result go = search rules in
    went_both e (Pulling p 0, A) (Pulling p l.split, B) (place_after c.from_residual.result go, D) (l.invariant.went x)
    (subst (λ (q : Place). Went e (Pulling p l.split, B) (q, D)) (ap (λ r. after_pull p l.split (found r)) c.in_err-pull_one.was ∙ sym (stopped_place fault go c.in_err-pull_one.ensures.stops) ∙ place) (n.ensures.went x))

pub loop-split-preserved : goal.loop-split-preserved
loop-split-preserved g c =
    let E = g.E.Reach in let e = E.exact in let k = g.M.Store.mapper in let f = g.D.Taker.reducer in let l = c.loop-split in let n = c.pull_one in let p = c.args.p in let t = c.in_ok-pull_one.field-0 in let i = l.invariant in
    let is : c.next_split-split.result ≡ split_after l.split t = c.next_split-split.ensures in
    record {
      within = let w = within_after l.split c.args.splits t c.loop-split-test.true in omega (arith, w, is);
      count = n.ensures.count ∙ i.count;
      ends = n.ensures.ends ∙ i.ends;
      same = n.ensures.same ∙ i.same;
      well = n.ensures.well;
      counts = c.in_ok-pull_one.ensures.counts ∙ i.counts;
      went = λ x.
          let A : World = world_of (map k c.args.mappers.now.items) (map f c.args.reducers.now.items) x (E.deeds c.args.reach.now) in let B : World = world_of (map k l.mappers.items) (map f l.reducers.items) x (E.deeds l.reach) in
          let D : World = world_of (map k n.new.mappers.items) (map f n.new.reducers.items) x (E.deeds n.new.reach) in
          went_both e (Pulling p 0, A) (Pulling p l.split, B) (Pulling p c.next_split-split.result, D) (i.went x)
          (subst (λ (q : Place). Went e (Pulling p l.split, B) (q, D)) (ap (λ r. after_pull p l.split (found r)) c.in_ok-pull_one.was ∙ after_is p l.split t ∙ ap (Pulling p) (sym is)) (n.ensures.went x));
    }

pub returns-clause-went : goal.returns-clause-went
returns-clause-went g c = λ x.
    let E = g.E.Reach in let k = g.M.Store.mapper in let f = g.D.Taker.reducer in let l = c.loop-split in
    let last : l.split ≡ c.args.splits = let t = c.loop-split-test.false in let w = l.invariant.within in omega (arith, t, w) in
    subst (λ (n : ℕ). Went E.exact (Pulling c.args.p 0, world_of (map k c.args.mappers.now.items) (map f c.args.reducers.now.items) x (E.deeds c.args.reach.now)) (Pulling c.args.p n, world_of (map k l.mappers.items) (map f l.reducers.items) x (E.deeds l.reach)))
    last (l.invariant.went x)
