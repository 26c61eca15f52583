use Rattle.std.proofs.Common.{◌≡◌, length}
use Rattle.hop_machine.specs.declared.words.Message.TheVariants.{Range}
use Rattle.hop_machine.specs.actors.MapperTurns.{offer}
use Rattle.hop_vault.specs.Rows.{Table}
use Rattle.hop_inner.specs.Setups.{parts}
use Rattle.hop_press.specs.Held.{AreReady}
use Rattle.hop_press.specs.Fits.{AreChained, IsWhole, HeldFits}
use Rattle.hop_press.proofs.AllLanes.{Between}
use Rattle.hop_press.proofs.press.Press.offer_all.Given as goal

-- the first p lanes were offered their runs
abbrev pub invariant-loop-run : goal.invariant-loop-run
invariant-loop-run g l = let E = g.E.Reach in let N = g.N.RunName in let K = g.K.Knowing in record {
  place : l.p ≡ length l.yielded;
  at : Between parts E.exact (offer l.w (Range l.part)) l.fn.self (E.deeds l.fn.reach) l.p l.self (E.deeds l.reach);
  ready : AreReady l.self;
  fits : (table : Table)
      → HeldFits N.job N.records N.settings N.tells table K.knows K.board (E.deeds l.fn.reach).ends.board l.fn.self
      → AreChained table → IsWhole table l.part
      → HeldFits N.job N.records N.settings N.tells table K.knows K.board (E.deeds l.reach).ends.board l.self;
}
