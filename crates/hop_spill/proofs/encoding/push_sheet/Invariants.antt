use Rattle.std.proofs.Common.{◌≡◌, ◌++◌, length, take}
use Rattle.std.specs.List.{flat_map}
use Rattle.hop_base.specs.Fields.{word, pair_text}
use Rattle.hop_spill.proofs.encoding.push_sheet.Given as goal

abbrev pub invariant-loop-pair : goal.invariant-loop-pair
invariant-loop-pair l = l.text.items ≡ l.fn.text.items ++ (word (length l.pairs) ++ flat_map pair_text (take l.pair-index l.pairs))
