use Rattle.std.proofs.Common.{take}
use Rattle.std.specs.Prelude.{All}
use Rattle.hop_base.specs.Order.{IsSheet}
use Rattle.hop_mapper.proofs.spilling.all_known.Given as goal

-- so are the first sheets
abbrev pub invariant-loop-sheet : goal.invariant-loop-sheet
invariant-loop-sheet l = All IsSheet (take l.sheet-index l.sheet-items)
