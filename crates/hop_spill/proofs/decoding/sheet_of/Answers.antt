use Rattle.std.proofs.Common.{None, arith}
use Rattle.hop_spill.proofs.FieldLaws.{word_takes}
use Rattle.hop_spill.proofs.PairLaws.{pairs_take, sorted_from_follow}
use Rattle.hop_spill.proofs.decoding.sheet_of.Goals as goal

pub finish-requires : goal.finish-requires
finish-requires c =
    let count = word_takes c.args.bytes.now (c.in_ok-count.count, c.in_ok-count.rest.now) (λ i. omega (arith, c.type_inv.bytes i)) c.in_ok-count.ensures in
    sorted_from_follow c.args.p c.args.r c.in_ok-pairs.pairs (pairs_take c.in_ok-count.count c.args.p c.args.r None c.in_ok-count.rest.now _ count.0.rest_fits c.in_ok-pairs.ensures).2
