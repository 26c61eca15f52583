use Rattle.std.proofs.Common.{◌≡◌, ◌<◌, ◌≤◌, ◌∙◌, refl, sym, ap, subst, ⊎_elim, arith}
use Rattle.hop_machine.specs.step.Steps.{Ends, OutEnd, InEnd}
use Rattle.hop_machine.specs.home.Said.{Met}
use Rattle.hop_machine.specs.settling.Meeting.{Meets}
use Rattle.hop_machine.proofs.play.Plays.{learns_self, learns_both}
use Rattle.hop_machine.proofs.ending.Winners.{less_or_not}
use Rattle.hop_settle.proofs.meets.meet_lanes.Goals as goal

pub loop-p-init : goal.loop-p-init
loop-p-init g c = record { learns = learns_self g.E.Reach.exact (g.E.Reach.deeds c.args.reach.now); ends = refl; met = λ p l. absurd (omega arith); others = λ v p h. h }

pub meet-requires-clause-out : goal.meet-requires-clause-out
meet-requires-clause-out g c =
    let t = c.loop-p-test.true in let l = c.loop-p.p in let n = c.requires.reducers in
    ap (λ (x : Ends). x.has (OutEnd c.args.w l)) c.loop-p.invariant.ends ∙ (c.requires.ends.mapper c.args.w c.requires.mapper).outs l (omega (arith, t, n))

pub meet-requires-clause-into : goal.meet-requires-clause-into
meet-requires-clause-into g c =
    let t = c.loop-p-test.true in let l = c.loop-p.p in let n = c.requires.reducers in
    ap (λ (x : Ends). x.has (InEnd c.args.w l)) c.loop-p.invariant.ends ∙ (c.requires.ends.reducer l (omega (arith, t, n))).ins c.args.w c.requires.mapper

pub loop-p-preserved : goal.loop-p-preserved
loop-p-preserved g c =
    let e = g.E.Reach.exact in let i = c.loop-p.invariant in let w = c.args.w in let p = c.loop-p.p in
    let a = g.E.Reach.deeds c.args.reach.now in let b = g.E.Reach.deeds c.loop-p.reach in let d = g.E.Reach.deeds c.meet.new.self in
    let m : Meets w p b d = c.meet.ensures in let law = c.lanes_meet.ensures in
    record {
      learns = learns_both e a b d i.learns (law.learns w p b d m e);
      ends = law.ends w p b d m ∙ i.ends;
      met = λ q l. ⊎_elim (λ (k : q < p). law.others w p b d m w q (i.met q k)) (λ (k : p ≤ q). let same : q ≡ p = omega (arith, k, l) in subst (λ n. Met d w n) (sym same) (law.met w p b d m)) (less_or_not q p);
      others = λ v q h. law.others w p b d m v q (i.others v q h);
    }

pub returns-clause-met : goal.returns-clause-met
returns-clause-met g c = λ q l. c.loop-p.invariant.met q (let t = c.loop-p-test.false in omega (arith, t, l))
