use Rattle.std.proofs.Common.{◌≡◌, ◌++◌, take}
use Rattle.hop_cut.specs.Snapshot.{split_lines, text_of}
use Rattle.hop_cut.specs.Covered.{declared_lines}
use Rattle.hop_cut.proofs.texts.push_splits.Given as goal

abbrev pub invariant-loop-i : goal.invariant-loop-i
invariant-loop-i l = l.text.items ≡ l.initial.text.items ++ text_of (split_lines 0 (declared_lines (take l.i l.declared) (take l.i l.lens)))
