use Rattle.std.proofs.Common.{◌≡◌, ◌∷◌, ap, subst}
use Rattle.std.specs.Prelude.{is_ok}
use Rattle.hop_machine.specs.step.Steps.{Steps, SendCut}
use Rattle.hop_machine.specs.actors.ReducerTurns.{Reducer}
use Rattle.hop_inner.specs.Messages.{said_cut, CutFitsAt}
use Rattle.hop_drain.proofs.Cutting.{left_fit, left_safe, left_ran}
use Rattle.hop_drain.proofs.drain.Drain.send_all.Goals as goal

pub loop-cut-preserved-in-Some : goal.loop-cut-preserved-in-Some
loop-cut-preserved-in-Some g c =
    let N = g.N.RunName in let e = g.E.Reach.exact in let deeds = g.E.Reach.deeds in let l = c.loop-cut in let p = c.args.self.now.number in
    let ok = is_ok c.send_cut_on-answer.result in let a = deeds l.reach in let b = deeds c.send_cut_on-answer.new.reach in
    let left = l.cut-iterator.rest.items in let cuts = c.next.new.self.rest.items in let cut = c.in-Some.cut in
    let is : left ≡ cut ∷ cuts = c.in-Some.ensures.steps.0 in
    let st : Steps e (SendCut p (said_cut cut)) ok a b = subst (λ n. Steps e (SendCut n (said_cut cut)) ok a b) (ap (λ (r : Reducer). r.number) c.self.view_is) c.send_cut_on-answer.ensures.step in
    record {
      fits = left_fit e ok p cut left cuts is a b st (CutFitsAt N.job N.records N.settings N.tells p) l.invariant.fits;
      safe = left_safe e ok p cut left cuts is a b st l.invariant.safe;
      completes = λ d ran. l.invariant.completes d (left_ran e ok p cut left cuts is a b st d ran);
    }

pub loop-cut-preserved : goal.loop-cut-preserved
loop-cut-preserved g c =
    let N = g.N.RunName in let e = g.E.Reach.exact in let deeds = g.E.Reach.deeds in let l = c.loop-cut in let p = c.args.self.now.number in
    let ok = is_ok c.send_cut_on-answer.result in let a = deeds l.reach in let b = deeds c.send_cut_on-answer.new.reach in
    let left = l.cut-iterator.rest.items in let cuts = c.next.new.self.rest.items in let cut = c.in-Some.cut in
    let is : left ≡ cut ∷ cuts = c.in-Some.ensures.steps.0 in
    let st : Steps e (SendCut p (said_cut cut)) ok a b = subst (λ n. Steps e (SendCut n (said_cut cut)) ok a b) (ap (λ (r : Reducer). r.number) c.self.view_is) c.send_cut_on-answer.ensures.step in
    record {
      fits = left_fit e ok p cut left cuts is a b st (CutFitsAt N.job N.records N.settings N.tells p) l.invariant.fits;
      safe = left_safe e ok p cut left cuts is a b st l.invariant.safe;
      completes = λ d ran. l.invariant.completes d (left_ran e ok p cut left cuts is a b st d ran);
    }
