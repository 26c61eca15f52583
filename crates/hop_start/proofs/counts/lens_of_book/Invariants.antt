use Rattle.std.proofs.Common.{◌≡◌, map}
use Rattle.std.specs.List.{range_with_len}
use Rattle.hop_records.specs.Records.{len_of}
use Rattle.hop_start.proofs.counts.lens_of_book.Given as goal

abbrev pub invariant-loop-i : goal.invariant-loop-i
invariant-loop-i l = l.lens ≡ map (len_of l.fn.book) (range_with_len 0 l.i)
