use Rattle.std.proofs.Common.{◌≡◌, ◌-◌, ◌<◌, not, sym, ap, ◌∙◌, subst}
use Rattle.hop_machine.specs.step.Setup.{Setup}
use Rattle.hop_machine.specs.step.Steps.{Runs}
use Rattle.hop_machine.specs.declared.words.Turn.{Turn}
use Rattle.hop_machine.specs.actors.ReducerTurns.{Writer, writes, wrote, lane_after}
use Rattle.hop_machine.specs.home.Conditions.{Safe}
use Rattle.hop_inner.specs.Setups.{parts, setup_of}
use Rattle.hop_inner.specs.Messages.{said_cut}
use Rattle.hop_actors.specs.Acting.{said_turn}
use Rattle.hop_writer.specs.Snapshots.{IsWhole}
use Rattle.hop_writer.specs.Writers.{WriterValue}
use Rattle.hop_writer.proofs.Cuts.{last_whole}
use Rattle.hop_writer.proofs.Looking.{none_safe, none_ran, some_ran}
use Rattle.hop_writer.proofs.writer.Writer.look.Goals as goal

pub write-requires-clause-whole : goal.write-requires-clause-whole
write-requires-clause-whole g c =
    let R = g.N.RunName in let l = c.loop-left in let a = g.E.Reach.deeds l.reach in let cut = said_cut c.in-Some.cut in
    let here : a.setup ≡ setup_of R.records R.script R.settings = g.met.E.Reach.of_run l.reach in
    let own : setup_of R.records R.script R.settings ≡ l.self.writer.setup = ap (λ (w : WriterValue g.row.F.Denot). w.writer.setup) c.self.view_is ∙ sym (ap (λ (w : WriterValue g.row.F.Denot). w.writer.setup) l.invariant.same) in
    subst (λ (s : Setup). IsWhole s.lens cut) (here ∙ own) (last_whole a.setup (a.did.cut_ins l.p).taken cut 0 c.in-Some.ensures.step.tells.1)

pub returns-in-Some-clause-runs : goal.returns-in-Some-clause-runs
returns-in-Some-clause-runs g c =
    let l = c.loop-left in let w = c.args.self.now.writer in let e = g.E.Reach.exact in let a = g.E.Reach.deeds l.reach in let b = g.E.Reach.deeds c.take_cut_on.new.reach in let cut = said_cut c.in-Some.cut in
    let y : Writer × Turn = (c.write.new.self.writer, said_turn c.write.result) in let ok = not c.write.new.self.failed in
    let is : c.write.new.self.writer ≡ wrote w l.p cut ok = subst (λ (v : WriterValue g.row.F.Denot). c.write.new.self.writer ≡ wrote v.writer l.p cut ok) {x = l.self} l.invariant.same c.write.ensures.wrote in
    l.invariant.completes y b (some_ran e w l.left l.p cut ok a b c.write.new.self.writer (said_turn c.write.result) c.loop-left-test.true c.in-Some.ensures.step is c.write.ensures.said)

pub loop-left-preserved : goal.loop-left-preserved
loop-left-preserved g c =
    let l = c.loop-left in let w = c.args.self.now.writer in let e = g.E.Reach.exact in let a = g.E.Reach.deeds l.reach in let b = g.E.Reach.deeds c.take_cut_on.new.reach in
    let st = c.in-None.ensures.step in
    let next : lane_after w.setup.reducers l.p ≡ c.lane_after-p.result = sym (subst (λ (v : WriterValue g.row.F.Denot). c.lane_after-p.result ≡ lane_after v.writer.setup.reducers l.p) l.invariant.same c.lane_after-p.ensures.next) in
    record {
      same = l.invariant.same;
      lane = subst (λ (v : WriterValue g.row.F.Denot). c.lane_after-p.result < v.writer.setup.reducers) l.invariant.same c.lane_after-p.ensures.below;
      safe = subst (λ n. Safe parts e (writes w (l.left - 1) n) b) next (none_safe e w l.left l.p a b c.loop-left-test.true st l.invariant.safe);
      completes = λ y d k. l.invariant.completes y d (none_ran e w l.left l.p a b d y c.loop-left-test.true st (subst (λ n. Runs e (writes w (l.left - 1) n) b y d) (sym next) k));
    }
