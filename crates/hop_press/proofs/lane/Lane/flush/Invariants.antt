use Rattle.std.proofs.Common.{length}
use Rattle.hop_machine.specs.step.Steps.{Runs, Deeds}
use Rattle.hop_machine.specs.home.Conditions.{Safe}
use Rattle.hop_machine.specs.actors.MapperTurns.{flush, Lane}
use Rattle.hop_inner.specs.Setups.{parts}
use Rattle.hop_press.specs.Held.{said_lane, IsReady}
use Rattle.hop_press.specs.Fits.{LaneFits}
use Rattle.hop_press.proofs.VaultLaws.{SameVault}
use Rattle.hop_press.proofs.lane.Lane.flush.Given as goal

-- what is left to flush is safe, and completes the flush
abbrev pub invariant-loop-msg : goal.invariant-loop-msg
invariant-loop-msg g l = let E = g.E.Reach in let N = g.N.RunName in record {
  safe : Safe parts E.exact (flush l.w l.p (said_lane l.self)) (E.deeds l.reach);
  completes : (x : Lane) (d : Deeds) → Runs E.exact (flush l.w l.p (said_lane l.self)) (E.deeds l.reach) x d → Runs E.exact (flush l.w l.p (said_lane l.fn.self)) (E.deeds l.fn.reach) x d;
  ready : IsReady l.self;
  fits : LaneFits N.job N.records N.settings N.tells l.fn.vault.rows g.K.Knowing.knows g.K.Knowing.board (E.deeds l.reach).ends.board l.p l.self;
  same : SameVault g.V.Folder.seen l.fn.vault l.vault;
}

abbrev pub decreases-loop-msg : goal.decreases-loop-msg
decreases-loop-msg g l = length (said_lane l.self)
