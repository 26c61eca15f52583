use Rattle.std.proofs.Common.{◌+◌, sym, ap, ◌∙◌, arith, map}
use Rattle.std.specs.Prelude.{sum_by}
use Rattle.std.specs.List.{range_with_len}
use Rattle.std.specs.Int.{div_ceil}
use Rattle.std.proofs.lemmas.List.FromFn.{sum_by-map-range_with_len_more}
use Rattle.hop_records.specs.Records.{len_of}
use Rattle.hop_records.proofs.book.Book.spills.Goals as goal

pub loop-i-preserved : goal.loop-i-preserved
loop-i-preserved c =
    let before = sum_by (λ len. div_ceil len c.args.spill) (map (len_of c.args.self.now) (range_with_len 0 c.loop-i.i)) in
    let more = sum_by-map-range_with_len_more (λ len. div_ceil len c.args.spill) (len_of c.args.self.now) 0 c.loop-i.i c.loop-i.i (omega arith) in
    (ap (λ total. total + c.spills_of.result) c.loop-i.invariant.0 ∙ ap (λ last. before + last) c.spills_of.ensures.value ∙ sym more, omega (arith, c.loop-i.invariant.1, c.spills_of.ensures.few))
