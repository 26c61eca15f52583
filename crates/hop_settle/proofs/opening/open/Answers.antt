use Rattle.std.proofs.Common.{◌≡◌, ◌+◌, ◌<◌, true, false, [], length, map, slice_set, refl, sym, ◌∙◌, subst, arith}
use Rattle.std.proofs.lemmas.Bool.{le-ltb}
use Rattle.std.proofs.lemmas.List.{length-set, length-map}
use Rattle.hop_machine.specs.actors.ReducerTurns.{send_due}
use Rattle.hop_machine.specs.home.Conditions.{HasAll}
use Rattle.hop_machine.specs.play.Play.{World, Went, Opening, Listed, Halted}
use Rattle.hop_machine.specs.run.AllHome.{Opens}
use Rattle.hop_machine.proofs.step.Owners.{Runs-ends}
use Rattle.hop_machine.proofs.home.Here.{all_kept}
use Rattle.hop_machine.proofs.play.Plays.{went_self, went_both, went_same}
use Rattle.hop_machine.proofs.play.Going.{opened}
use Rattle.hop_machine.proofs.run.Places.{went_at_home}
use Rattle.hop_settle.specs.Crews.{world_of}
use Rattle.hop_settle.proofs.Placing.{at-mapped, at-place, mapped-set}
use Rattle.hop_settle.proofs.PlayLaws.{may-open, opened-one}
use Rattle.hop_settle.proofs.opening.open.Goals as goal

pub loop-p-init : goal.loop-p-init
loop-p-init g c = let E = g.E.Reach in record {
  count = refl;
  ends = refl;
  went = λ list ms x. went_self E.exact (Opening 0 list, world_of ms (map g.D.Taker.reducer c.args.reducers.now.items) x (E.deeds c.args.reach.now));
}

pub send_due-requires : goal.send_due-requires
send_due-requires g c = let E = g.E.Reach in let h = g.D.Taker.reducer in let l = c.loop-p in
    let ms = c.requires.home.0 in let x = c.requires.home.1 in
    let a : World = world_of ms (map h c.args.reducers.now.items) x (E.deeds c.args.reach.now) in
    let b : World = world_of ms (map h l.reducers.items) x (E.deeds l.reach) in
    let went = l.invariant.went [] ms x in
    let home : Opens l.p b.actors b.deeds = went_at_home E.exact (Opening 0 [], a) (Opening l.p [], b) went c.requires.home.2 in
    let ends : HasAll b.deeds = all_kept a.deeds b.deeds (went_same E.exact (Opening 0 [], a) (Opening l.p [], b) went) l.invariant.ends c.requires.ends in
    let inside : l.p < length l.reducers.items = (let n = l.invariant.count in let t = c.loop-p-test.true in omega (arith, n, t, c.len-p-end.ensures)) in
    record { may = may-open l.p b.actors b.deeds (h c.index_mut.result.now) home ends (let n = length-map l.reducers.items h in omega (arith, n, inside)) (at-mapped h l.reducers.items l.p c.index_mut.result.now inside c.index_mut.ensures.value) }

pub returns-in-Err-clause-went : goal.returns-in-Err-clause-went
returns-in-Err-clause-went g c = λ list ms x. let E = g.E.Reach in let h = g.D.Taker.reducer in let l = c.loop-p in
    let a : World = world_of ms (map h c.args.reducers.now.items) x (E.deeds c.args.reach.now) in
    let b : World = world_of ms (map h l.reducers.items) x (E.deeds l.reach) in
    let d : World = world_of ms (map h (slice_set l.reducers.items l.p c.send_due.new.self)) x (E.deeds c.send_due.new.reach) in
    let inside : l.p < length l.reducers.items = (let n = l.invariant.count in let t = c.loop-p-test.true in omega (arith, n, t, c.len-p-end.ensures)) in
    went_both E.exact (Opening 0 list, a) (Opening l.p list, b) (Halted, d) (l.invariant.went list ms x)
    (opened-one E.exact ms (map h l.reducers.items) (map h (slice_set l.reducers.items l.p c.send_due.new.self)) x l.p (h c.index_mut.result.now) (h c.send_due.new.self) (E.deeds l.reach) (E.deeds c.send_due.new.reach) list false
    c.in-Err.ensures.same (mapped-set h l.reducers.items l.p c.index_mut.result.now c.send_due.new.self (at-place h l.reducers.items l.p c.index_mut.result.now inside c.index_mut.ensures.value))
    (at-mapped h l.reducers.items l.p c.index_mut.result.now inside c.index_mut.ensures.value) (let n = length-map l.reducers.items h in omega (arith, n, inside)) c.in-Err.ensures.runs)

pub returns-in-Err-clause-ends : goal.returns-in-Err-clause-ends
returns-in-Err-clause-ends g c = let E = g.E.Reach in let h = g.D.Taker.reducer in let l = c.loop-p in
    Runs-ends E.exact (send_due (h c.index_mut.result.now)) (E.deeds l.reach) (E.deeds c.send_due.new.reach) false c.in-Err.ensures.runs ∙ l.invariant.ends

pub loop-p-preserved : goal.loop-p-preserved
loop-p-preserved g c = let E = g.E.Reach in let h = g.D.Taker.reducer in let l = c.loop-p in
    let inside : l.p < length l.reducers.items = (let n = l.invariant.count in let t = c.loop-p-test.true in omega (arith, n, t, c.len-p-end.ensures)) in
    record {
      count = length-set l.reducers.items l.p c.send_due.new.self ∙ l.invariant.count;
      ends = Runs-ends E.exact (send_due (h c.index_mut.result.now)) (E.deeds l.reach) (E.deeds c.send_due.new.reach) true c.in-Ok.ensures.runs ∙ l.invariant.ends;
      went = λ list ms x.
          let a : World = world_of ms (map h c.args.reducers.now.items) x (E.deeds c.args.reach.now) in
          let b : World = world_of ms (map h l.reducers.items) x (E.deeds l.reach) in
          let d : World = world_of ms (map h (slice_set l.reducers.items l.p c.send_due.new.self)) x (E.deeds c.send_due.new.reach) in
          went_both E.exact (Opening 0 list, a) (Opening l.p list, b) (Opening (l.p + 1) list, d) (l.invariant.went list ms x)
          (opened-one E.exact ms (map h l.reducers.items) (map h (slice_set l.reducers.items l.p c.send_due.new.self)) x l.p (h c.index_mut.result.now) (h c.send_due.new.self) (E.deeds l.reach) (E.deeds c.send_due.new.reach) list true
          c.in-Ok.ensures.same (mapped-set h l.reducers.items l.p c.index_mut.result.now c.send_due.new.self (at-place h l.reducers.items l.p c.index_mut.result.now inside c.index_mut.ensures.value))
          (at-mapped h l.reducers.items l.p c.index_mut.result.now inside c.index_mut.ensures.value) (let n = length-map l.reducers.items h in omega (arith, n, inside)) c.in-Ok.ensures.runs);
    }

pub returns-clause-went : goal.returns-clause-went
returns-clause-went g c = λ list ms x. let E = g.E.Reach in let h = g.D.Taker.reducer in let l = c.loop-p in
    let a : World = world_of ms (map h c.args.reducers.now.items) x (E.deeds c.args.reach.now) in
    let b : World = world_of ms (map h l.reducers.items) x (E.deeds l.reach) in
    let n = length b.actors.reducers in
    let at : l.p ≡ n = (let k = l.invariant.count in let t = c.loop-p-test.false in let i = l.auto.p-end in let m = length-map l.reducers.items h in omega (arith, k, t, i, m, c.len-p-end.ensures)) in
    went_both E.exact (Opening 0 list, a) (Opening l.p list, b) (Listed list, b) (l.invariant.went list ms x)
    (subst (λ k. Went E.exact (Opening k list, b) (Listed list, b)) (sym at) (opened E.exact list b (le-ltb n n (omega arith))))
