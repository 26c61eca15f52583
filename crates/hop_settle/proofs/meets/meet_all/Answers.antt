use Rattle.std.proofs.Common.{◌≡◌, ◌<◌, ◌≤◌, ◌∙◌, refl, sym, ap, subst, ⊎_elim, arith}
use Rattle.hop_machine.specs.step.Steps.{Setup}
use Rattle.hop_machine.specs.home.Said.{Met}
use Rattle.hop_machine.proofs.play.Plays.{learns_self, learns_both}
use Rattle.hop_machine.proofs.ending.Winners.{less_or_not}
use Rattle.hop_settle.proofs.meets.meet_all.Goals as goal

pub loop-w-init : goal.loop-w-init
loop-w-init g c = record { learns = learns_self g.E.Reach.exact (g.E.Reach.deeds c.args.reach.now); ends = refl; met = λ w p l k. absurd (omega arith) }

pub meet_lanes-requires-clause-mapper : goal.meet_lanes-requires-clause-mapper
meet_lanes-requires-clause-mapper g c =
    let t = c.loop-w-test.true in let n = c.requires.workers in let s = ap (λ (x : Setup). x.workers) c.loop-w.invariant.learns.setup in omega (arith, t, n, s)

pub meet_lanes-requires-clause-reducers : goal.meet_lanes-requires-clause-reducers
meet_lanes-requires-clause-reducers g c = c.requires.reducers ∙ sym (ap (λ (x : Setup). x.reducers) c.loop-w.invariant.learns.setup)

pub meet_lanes-requires-clause-ends : goal.meet_lanes-requires-clause-ends
meet_lanes-requires-clause-ends g c = c.ends_stay.ensures.all (g.E.Reach.deeds c.args.reach.now) (g.E.Reach.deeds c.loop-w.reach) c.loop-w.invariant.learns.setup c.loop-w.invariant.ends c.requires.ends

pub loop-w-preserved : goal.loop-w-preserved
loop-w-preserved g c =
    let e = g.E.Reach.exact in let i = c.loop-w.invariant in let w = c.loop-w.w in let m = c.meet_lanes.ensures in
    let a = g.E.Reach.deeds c.args.reach.now in let b = g.E.Reach.deeds c.loop-w.reach in let d = g.E.Reach.deeds c.meet_lanes.new.reach in
    record {
      learns = learns_both e a b d i.learns m.learns;
      ends = m.ends ∙ i.ends;
      met = λ v q l k. ⊎_elim (λ (h : v < w). m.others v q (i.met v q h k)) (λ (h : w ≤ v). let same : v ≡ w = omega (arith, h, l) in subst (λ n. Met d n q) (sym same) (m.met q k)) (less_or_not v w);
    }

pub returns-clause-met : goal.returns-clause-met
returns-clause-met g c = λ w p l k.
    let t = c.loop-w-test.false in let s = c.loop-w.invariant.learns.setup in let n = c.requires.workers in let r = c.requires.reducers in
    let sw = ap (λ (x : Setup). x.workers) s in let sr = ap (λ (x : Setup). x.reducers) s in
    c.loop-w.invariant.met w p (omega (arith, t, n, sw, l)) (omega (arith, r, sr, k))
