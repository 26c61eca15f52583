use Rattle.std.proofs.Common.{◌≡◌, take}
use Rattle.hop_base.proofs.flat_sheet.FlatSheet.from_sheet.Given as goal

abbrev pub invariant-loop-pair : goal.invariant-loop-pair
invariant-loop-pair l = l.builder ≡ take l.pair-index l.sheet
