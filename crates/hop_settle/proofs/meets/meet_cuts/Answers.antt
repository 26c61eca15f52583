use Rattle.std.proofs.Common.{◌≡◌, ◌<◌, ◌≤◌, ◌∙◌, refl, sym, ap, subst, ⊎_elim, arith}
use Rattle.hop_machine.specs.step.Steps.{Ends, CutOutEnd, CutInEnd}
use Rattle.hop_machine.specs.settling.Meeting.{CutMeets, CutMet}
use Rattle.hop_machine.proofs.play.Plays.{learns_self, learns_both}
use Rattle.hop_machine.proofs.ending.Winners.{less_or_not}
use Rattle.hop_settle.proofs.meets.meet_cuts.Goals as goal

pub loop-p-init : goal.loop-p-init
loop-p-init g c = record { learns = learns_self g.E.Reach.exact (g.E.Reach.deeds c.args.reach.now); ends = refl; met = λ p l. absurd (omega arith) }

pub cut_meet-requires-clause-out : goal.cut_meet-requires-clause-out
cut_meet-requires-clause-out g c =
    let l = c.loop-p.p in ap (λ (x : Ends). x.has (CutOutEnd l)) c.loop-p.invariant.ends ∙ (c.requires.ends l c.loop-p-test.true).out

pub cut_meet-requires-clause-into : goal.cut_meet-requires-clause-into
cut_meet-requires-clause-into g c =
    let l = c.loop-p.p in ap (λ (x : Ends). x.has (CutInEnd l)) c.loop-p.invariant.ends ∙ (c.requires.ends l c.loop-p-test.true).into

pub loop-p-preserved : goal.loop-p-preserved
loop-p-preserved g c =
    let e = g.E.Reach.exact in let i = c.loop-p.invariant in let p = c.loop-p.p in
    let a = g.E.Reach.deeds c.args.reach.now in let b = g.E.Reach.deeds c.loop-p.reach in let d = g.E.Reach.deeds c.cut_meet.new.self in
    let m : CutMeets p b d = c.cut_meet.ensures in let law = c.cut_lanes_meet.ensures in
    record {
      learns = learns_both e a b d i.learns (law.learns p b d m e);
      ends = law.ends p b d m ∙ i.ends;
      met = λ q l. ⊎_elim (λ (k : q < p). law.others p b d m q (i.met q k)) (λ (k : p ≤ q). let same : q ≡ p = omega (arith, k, l) in subst (λ n. CutMet d n) (sym same) (law.met p b d m)) (less_or_not q p);
    }

pub returns-clause-met : goal.returns-clause-met
returns-clause-met g c = λ q l. c.loop-p.invariant.met q (let t = c.loop-p-test.false in omega (arith, t, l))
