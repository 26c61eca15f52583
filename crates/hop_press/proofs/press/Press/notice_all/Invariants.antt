use Rattle.std.proofs.Common.{◌≡◌, length}
use Rattle.hop_machine.specs.declared.words.Message.TheVariants.{Notice}
use Rattle.hop_machine.specs.actors.MapperTurns.{offer}
use Rattle.hop_machine.specs.step.Steps.{Grows}
use Rattle.hop_vault.specs.Rows.{Table}
use Rattle.hop_inner.specs.Setups.{parts}
use Rattle.hop_press.specs.Held.{AreReady}
use Rattle.hop_press.specs.Fits.{HeldFits}
use Rattle.hop_press.proofs.AllLanes.{Between}
use Rattle.hop_press.proofs.press.Press.notice_all.Given as goal

-- the first p lanes were offered the notice; the ends are the same, and know no less
abbrev pub invariant-loop-p : goal.invariant-loop-p
invariant-loop-p g l = let E = g.E.Reach in let N = g.N.RunName in let K = g.K.Knowing in record {
  end : l.p-end ≡ length l.fn.self;
  at : Between parts E.exact (offer l.w (Notice l.split l.attempt)) l.fn.self (E.deeds l.fn.reach) l.p l.self (E.deeds l.reach);
  ready : AreReady l.self;
  ends : (E.deeds l.reach).ends ≡ (E.deeds l.fn.reach).ends;
  grows : Grows (E.deeds l.fn.reach).told (E.deeds l.reach).told;
  fits : (table : Table)
      → HeldFits N.job N.records N.settings N.tells table K.knows K.board (E.deeds l.fn.reach).ends.board l.fn.self
      → HeldFits N.job N.records N.settings N.tells table K.knows K.board (E.deeds l.reach).ends.board l.self;
}
