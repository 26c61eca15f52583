use Rattle.std.proofs.Common.{◌≡◌, ◌++◌, take}
use Rattle.std.specs.List.{flat_map}
use Rattle.hop_spill.specs.Spelling.{head_text, sheet_text, spill_in}
use Rattle.hop_spill.proofs.encoding.written_flat.Given as goal

abbrev pub invariant-loop-sheet : goal.invariant-loop-sheet
invariant-loop-sheet l = l.text.items ≡ head_text (spill_in l.spill) ++ flat_map sheet_text (take l.sheet-index l.sheets)
