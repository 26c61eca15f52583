use Rattle.std.proofs.Common.{◌≡◌, ◌<◌}
use Rattle.hop_machine.specs.step.Steps.{Runs, Deeds}
use Rattle.hop_machine.specs.declared.words.Turn.{Turn}
use Rattle.hop_machine.specs.actors.ReducerTurns.{Writer, writes, writer_turn}
use Rattle.hop_machine.specs.home.Conditions.{Safe}
use Rattle.hop_inner.specs.Setups.{parts}
use Rattle.hop_writer.proofs.writer.Writer.look.Given as goal

-- looking at the cut lanes that are left is safe, and completes the looking
abbrev pub invariant-loop-left : goal.invariant-loop-left
invariant-loop-left g l = let E = g.E in let e = E.Reach.exact in let x = l.fn.self.writer in record {
  same : l.self ≡ l.fn.self;
  lane : l.p < x.setup.reducers;
  safe : Safe parts e (writes x l.left l.p) (E.Reach.deeds l.reach);
  completes : (y : Writer × Turn) (d : Deeds) → Runs e (writes x l.left l.p) (E.Reach.deeds l.reach) y d → Runs e (writer_turn x) (E.Reach.deeds l.fn.reach) y d;
}

abbrev pub decreases-loop-left : goal.decreases-loop-left
decreases-loop-left g l = l.left
