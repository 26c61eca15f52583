use Rattle.std.proofs.Common.{◌≡◌, length}
use Rattle.hop_top.specs.Puts.{files_in, part_files}
use Rattle.hop_top.proofs.block.part_files.Given as goal

abbrev pub invariant-loop-bytes : goal.invariant-loop-bytes
invariant-loop-bytes l = record {
  counted : l.p ≡ length l.yielded;
  told : files_in l.files.items ≡ part_files 0 l.yielded;
}
