use Rattle.std.proofs.Common.{◌≡◌, take}
use Rattle.hop_vault.proofs.vault.flat_of.Given as goal

abbrev pub invariant-loop-sheet : goal.invariant-loop-sheet
invariant-loop-sheet l = l.sheets ≡ take l.sheet-index l.sheet-items
