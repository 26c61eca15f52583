use Rattle.std.proofs.Common.{◌-◌, sym, ap, ◌∙◌, subst}
use Rattle.hop_machine.specs.step.Setup.{Setup}
use Rattle.hop_machine.specs.step.Steps.{Runs}
use Rattle.hop_machine.specs.actors.ReducerTurns.{writes}
use Rattle.hop_machine.specs.home.Conditions.{Safe}
use Rattle.hop_inner.specs.Setups.{parts}
use Rattle.hop_inner.specs.Messages.{said_cut}
use Rattle.hop_writer.proofs.Looking.{no_cut, none_safe, none_ran}
use Rattle.hop_writer.proofs.no_writer.NoWriter.look.Goals as goal

pub unreachable-requires : goal.unreachable-requires
unreachable-requires g c =
    let a = g.E.Reach.deeds c.loop-left.reach in
    no_cut a.setup (ap (λ (s : Setup). s.marks) (g.met.E.Reach.of_run c.loop-left.reach) ∙ c.self.invariant.2) (a.did.cut_ins c.loop-left.p).taken (said_cut c.in-Some.field-0) 0 c.in-Some.ensures.step.tells.1

pub loop-left-preserved : goal.loop-left-preserved
loop-left-preserved g c =
    let l = c.loop-left in let x = c.args.self.now in let e = g.E.Reach.exact in let a = g.E.Reach.deeds l.reach in let b = g.E.Reach.deeds c.take_cut_on.new.reach in
    let st = c.in-None.ensures.step in let next = sym c.lane_after-p.ensures.next in
    record {
      lane = c.lane_after-p.ensures.below;
      safe = subst (λ n. Safe parts e (writes x (l.left - 1) n) b) next (none_safe e x l.left l.p a b c.loop-left-test.true st l.invariant.safe);
      completes = λ y d k. l.invariant.completes y d (none_ran e x l.left l.p a b d y c.loop-left-test.true st (subst (λ n. Runs e (writes x (l.left - 1) n) b y d) (sym next) k));
    }
