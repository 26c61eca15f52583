use Rattle.std.proofs.Common.{◌≡◌, take}
use Rattle.hop_spill.proofs.decoding.sheets_in.Given as goal

abbrev pub invariant-loop-sheet : goal.invariant-loop-sheet
invariant-loop-sheet l = l.sheets ≡ take l.sheet-index l.sheet-items
