use Rattle.std.proofs.Common.{◌≡◌, length}
use Rattle.hop_machine.specs.actors.MapperTurns.{flush}
use Rattle.hop_inner.specs.Setups.{parts}
use Rattle.hop_press.specs.Held.{AreReady}
use Rattle.hop_press.specs.Fits.{HeldFits}
use Rattle.hop_press.proofs.AllLanes.{Between}
use Rattle.hop_press.proofs.VaultLaws.{SameVault}
use Rattle.hop_press.proofs.press.Press.flush_all.Given as goal

-- the first p lanes were flushed, and the vault was only read
abbrev pub invariant-loop-p : goal.invariant-loop-p
invariant-loop-p g l = let E = g.E.Reach in let N = g.N.RunName in let K = g.K.Knowing in record {
  end : l.p-end ≡ length l.fn.self;
  at : Between parts E.exact (flush l.w) l.fn.self (E.deeds l.fn.reach) l.p l.self (E.deeds l.reach);
  ready : AreReady l.self;
  fits : HeldFits N.job N.records N.settings N.tells l.fn.vault.rows K.knows K.board (E.deeds l.reach).ends.board l.self;
  same : SameVault g.V.Folder.seen l.fn.vault l.vault;
}
