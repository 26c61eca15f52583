use Rattle.std.proofs.Common.{[], ◌∷◌, ◌++◌, length, arith, sym, ap, ◌∙◌}
use Rattle.std.proofs.lemmas.List.FromFn.{map-range_with_len_more, length-map-range_with_len}
use Rattle.hop_records.specs.Records.{len_of}
use Rattle.hop_start.proofs.counts.lens_of_book.Goals as goal

pub push-requires-clause-room : goal.push-requires-clause-room
push-requires-clause-room c =
    let long = ap length c.loop-i.invariant ∙ length-map-range_with_len (len_of c.args.book.now) 0 c.loop-i.i in
    omega arith

pub loop-i-preserved : goal.loop-i-preserved
loop-i-preserved c =
    c.in_ok-push.ensures.ok ∙ (λ i. c.loop-i.invariant i ++ c.len.ensures.value i ∷ []) ∙ sym (map-range_with_len_more (len_of c.args.book.now) 0 c.loop-i.i c.loop-i.i (omega arith))
