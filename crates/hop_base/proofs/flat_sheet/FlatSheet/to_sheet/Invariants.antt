use Rattle.std.proofs.Common.{◌≡◌, take}
use Rattle.hop_base.proofs.flat_sheet.FlatSheet.to_sheet.Given as goal

abbrev pub invariant-loop-k : goal.invariant-loop-k
invariant-loop-k l = l.pairs.items ≡ take l.k l.self
