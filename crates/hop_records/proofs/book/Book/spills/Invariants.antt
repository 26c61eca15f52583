use Rattle.std.proofs.Common.{◌≡◌, ◌≤◌, ◌*◌, map}
use Rattle.std.specs.Prelude.{sum_by}
use Rattle.std.specs.List.{range_with_len}
use Rattle.std.specs.Int.{div_ceil}
use Rattle.hop_records.specs.Records.{len_of}
use Rattle.hop_records.proofs.book.Book.spills.Given as goal

abbrev pub invariant-loop-i : goal.invariant-loop-i
invariant-loop-i l = (l.total ≡ sum_by (λ len. div_ceil len l.spill) (map (len_of l.self) (range_with_len 0 l.i))) × (l.total ≤ l.i * 16777216)
