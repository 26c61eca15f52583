use Rattle.std.proofs.Common.{◌≡◌, ◌<◌}
use Rattle.hop_machine.specs.step.Steps.{Runs, Deeds}
use Rattle.hop_machine.specs.declared.words.Turn.{Turn}
use Rattle.hop_machine.specs.actors.ReducerTurns.{Reducer, looks}
use Rattle.hop_machine.specs.home.Conditions.{Safe}
use Rattle.hop_inner.specs.Setups.{parts}
use Rattle.hop_drain.specs.Held.{IsHeld}
use Rattle.hop_drain.proofs.drain.Drain.look.Given as goal

-- looking at the lanes that are left is safe, and completes the looking
abbrev pub invariant-loop-left : goal.invariant-loop-left
invariant-loop-left g l = let E = g.E in let e = E.Reach.exact in let r = l.fn.self in let h = l.fn.shelf.journal.events in record {
  same : l.self ≡ r;
  lane : l.w < r.setup.workers;
  held : IsHeld r.number l.fn.shelf (E.Reach.deeds l.reach);
  safe : Safe parts e (looks r h l.left l.w) (E.Reach.deeds l.reach);
  completes : (x : Reducer × Turn) (d : Deeds) → Runs e (looks r h l.left l.w) (E.Reach.deeds l.reach) x d → Runs e (looks r h r.setup.workers r.next) (E.Reach.deeds l.fn.reach) x d;
}

abbrev pub decreases-loop-left : goal.decreases-loop-left
decreases-loop-left g l = l.left
