use Rattle.std.proofs.Common.{◌≡◌, ◌+◌, ◌<◌, true, false, [], length, map, slice_set, refl, sym, ap, ◌∙◌, subst, arith, rules}
use Rattle.std.specs.Prelude.{IfErr}
use Rattle.std.proofs.lemmas.Bool.{le-ltb}
use Rattle.std.proofs.lemmas.List.{length-set, length-map}
use Rattle.hop_machine.specs.declared.words.Turn.TheVariants as said
use Rattle.hop_machine.specs.step.Setup.{Setup, splits_of}
use Rattle.hop_machine.specs.home.Conditions.{HasAll}
use Rattle.hop_machine.specs.play.Play.{World, Place, Went, CatchingUp, Listed, Halted, kept_rows, catch_up}
use Rattle.hop_machine.specs.run.AllHome.{Ready}
use Rattle.hop_machine.proofs.step.Owners.{Runs-ends}
use Rattle.hop_machine.proofs.home.Here.{all_kept}
use Rattle.hop_machine.proofs.play.Plays.{went_self, went_both, went_same}
use Rattle.hop_machine.proofs.play.Going.{caught-up}
use Rattle.hop_machine.proofs.run.Places.{went_at_home}
use Rattle.hop_actors.specs.Acting.{said_fault}
use Rattle.hop_settle.specs.Crews.{world_of}
use Rattle.hop_settle.proofs.Placing.{at-mapped, at-place, mapped-set}
use Rattle.hop_settle.proofs.CatchLaws.{may-catch, halts-at, caught-one}
use Rattle.hop_settle.proofs.catching.catch_up.Goals as goal

pub loop-p-init : goal.loop-p-init
loop-p-init g c = let E = g.E.Reach in record {
  count = refl;
  ends = refl;
  same = refl;
  well = c.requires.well;
  counts = refl;
  went = λ list x. went_self E.exact (CatchingUp 0 list, world_of (map g.M.Store.mapper c.args.mappers.now.items) (map g.D.Taker.reducer c.args.reducers.now.items) x (E.deeds c.args.reach.now));
}

pub catch_one-requires-clause-partition : goal.catch_one-requires-clause-partition
catch_one-requires-clause-partition g c =
    let many = c.requires.home.1.home.reducers in
    let set = ap (λ (s : Setup). s.reducers) (g.met.E.Reach.of_run c.args.reach.now) in
    let n = length-map c.args.reducers.now.items g.D.Taker.reducer in
    let t = c.loop-p-test.true in omega (arith, many, set, n, t, c.len-p-end.ensures)

pub catch_one-requires-clause-may : goal.catch_one-requires-clause-may
catch_one-requires-clause-may g c = let E = g.E.Reach in let f = g.M.Store.mapper in let h = g.D.Taker.reducer in let l = c.loop-p in
    let x = c.requires.home.0 in
    let a : World = world_of (map f c.args.mappers.now.items) (map h c.args.reducers.now.items) x (E.deeds c.args.reach.now) in
    let b : World = world_of (map f l.mappers.items) (map h l.reducers.items) x (E.deeds l.reach) in
    let went = l.invariant.went [] x in
    let home : Ready b.actors b.deeds = went_at_home E.exact (CatchingUp 0 [], a) (CatchingUp l.p [], b) went c.requires.home.1 in
    let ends : HasAll b.deeds = all_kept a.deeds b.deeds (went_same E.exact (CatchingUp 0 [], a) (CatchingUp l.p [], b) went) l.invariant.ends c.requires.ends in
    let inside : l.p < length l.reducers.items = (let n = l.invariant.count in let t = c.loop-p-test.true in omega (arith, n, t, c.len-p-end.ensures)) in
    may-catch (map f l.mappers.items) (map h l.reducers.items) x l.p (h c.index_mut.result.now) b.deeds home ends (let n = length-map l.reducers.items h in omega (arith, n, inside)) (at-mapped h l.reducers.items l.p c.index_mut.result.now inside c.index_mut.ensures.value)

pub returns-in_err-catch_one-clause-went : goal.returns-in_err-catch_one-clause-went
returns-in_err-catch_one-clause-went g c = λ list x. let E = g.E.Reach in let f = g.M.Store.mapper in let h = g.D.Taker.reducer in let l = c.loop-p in
    let a : World = world_of (map f c.args.mappers.now.items) (map h c.args.reducers.now.items) x (E.deeds c.args.reach.now) in
    let b : World = world_of (map f l.mappers.items) (map h l.reducers.items) x (E.deeds l.reach) in
    let d : World = world_of (map f c.catch_one.new.mappers.items) (map h (slice_set l.reducers.items l.p c.catch_one.new.reducer)) x (E.deeds c.catch_one.new.reach) in
    let inside : l.p < length l.reducers.items = (let n = l.invariant.count in let t = c.loop-p-test.true in omega (arith, n, t, c.len-p-end.ensures)) in
    let fault : IfErr c.from_residual.result (λ f. said_fault f ≡ said.Stopped) = search rules in
    let halt = halts-at c.from_residual.result (Listed list) c.from_residual.ensures.0 fault in
    subst (λ (p : Place). Went E.exact (CatchingUp 0 list, a) (p, d)) (sym halt)
    (went_both E.exact (CatchingUp 0 list, a) (CatchingUp l.p list, b) (Halted, d) (l.invariant.went list x)
    (caught-one E.exact (map f l.mappers.items) (map f c.catch_one.new.mappers.items) (map h l.reducers.items) (map h (slice_set l.reducers.items l.p c.catch_one.new.reducer)) x l.p (h c.index_mut.result.now) (h c.catch_one.new.reducer) (E.deeds l.reach) (E.deeds c.catch_one.new.reach) list false
    c.in_err-catch_one.ensures.same (mapped-set h l.reducers.items l.p c.index_mut.result.now c.catch_one.new.reducer (at-place h l.reducers.items l.p c.index_mut.result.now inside c.index_mut.ensures.value))
    (at-mapped h l.reducers.items l.p c.index_mut.result.now inside c.index_mut.ensures.value) (let n = length-map l.reducers.items h in omega (arith, n, inside)) c.in_err-catch_one.ensures.runs))

pub returns-in_err-catch_one-clause-ends : goal.returns-in_err-catch_one-clause-ends
returns-in_err-catch_one-clause-ends g c = let E = g.E.Reach in let f = g.M.Store.mapper in let h = g.D.Taker.reducer in let l = c.loop-p in let a = E.deeds l.reach in
    Runs-ends E.exact (catch_up (kept_rows (map f l.mappers.items) a.setup.attempts 0 (splits_of a.setup)) (h c.index_mut.result.now)) a (E.deeds c.catch_one.new.reach) (h c.catch_one.new.reducer, false) c.in_err-catch_one.ensures.runs ∙ l.invariant.ends

pub loop-p-preserved : goal.loop-p-preserved
loop-p-preserved g c = let E = g.E.Reach in let f = g.M.Store.mapper in let h = g.D.Taker.reducer in let l = c.loop-p in let k = c.in_ok-catch_one.ensures in
    let inside : l.p < length l.reducers.items = (let n = l.invariant.count in let t = c.loop-p-test.true in omega (arith, n, t, c.len-p-end.ensures)) in
    let now = E.deeds l.reach in
    record {
      count = length-set l.reducers.items l.p c.catch_one.new.reducer ∙ l.invariant.count;
      ends = Runs-ends E.exact (catch_up (kept_rows (map f l.mappers.items) now.setup.attempts 0 (splits_of now.setup)) (h c.index_mut.result.now)) now (E.deeds c.catch_one.new.reach) (h c.catch_one.new.reducer, true) k.runs ∙ l.invariant.ends;
      same = k.same ∙ l.invariant.same;
      well = k.well;
      counts = k.counts ∙ l.invariant.counts;
      went = λ list x.
          let a : World = world_of (map f c.args.mappers.now.items) (map h c.args.reducers.now.items) x (E.deeds c.args.reach.now) in
          let b : World = world_of (map f l.mappers.items) (map h l.reducers.items) x (E.deeds l.reach) in
          let d : World = world_of (map f c.catch_one.new.mappers.items) (map h (slice_set l.reducers.items l.p c.catch_one.new.reducer)) x (E.deeds c.catch_one.new.reach) in
          went_both E.exact (CatchingUp 0 list, a) (CatchingUp l.p list, b) (CatchingUp (l.p + 1) list, d) (l.invariant.went list x)
          (caught-one E.exact (map f l.mappers.items) (map f c.catch_one.new.mappers.items) (map h l.reducers.items) (map h (slice_set l.reducers.items l.p c.catch_one.new.reducer)) x l.p (h c.index_mut.result.now) (h c.catch_one.new.reducer) (E.deeds l.reach) (E.deeds c.catch_one.new.reach) list true
          k.same (mapped-set h l.reducers.items l.p c.index_mut.result.now c.catch_one.new.reducer (at-place h l.reducers.items l.p c.index_mut.result.now inside c.index_mut.ensures.value))
          (at-mapped h l.reducers.items l.p c.index_mut.result.now inside c.index_mut.ensures.value) (let n = length-map l.reducers.items h in omega (arith, n, inside)) k.runs);
    }

pub returns-clause-went : goal.returns-clause-went
returns-clause-went g c = λ list x. let E = g.E.Reach in let f = g.M.Store.mapper in let h = g.D.Taker.reducer in let l = c.loop-p in
    let a : World = world_of (map f c.args.mappers.now.items) (map h c.args.reducers.now.items) x (E.deeds c.args.reach.now) in
    let b : World = world_of (map f l.mappers.items) (map h l.reducers.items) x (E.deeds l.reach) in
    let past = le-ltb l.p (length b.actors.reducers) (let n = l.invariant.count in let t = c.loop-p-test.false in let m = length-map l.reducers.items h in omega (arith, n, t, m, c.len-p-end.ensures)) in
    went_both E.exact (CatchingUp 0 list, a) (CatchingUp l.p list, b) (Listed list, b) (l.invariant.went list x) (caught-up E.exact l.p list b past)
