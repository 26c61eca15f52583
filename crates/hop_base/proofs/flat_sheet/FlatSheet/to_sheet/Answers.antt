use Rattle.std.proofs.Common.{◌<◌, length, arith}
use Rattle.hop_base.proofs.FlatLaws.{taken_more}
use Rattle.hop_base.proofs.flat_sheet.FlatSheet.to_sheet.Goals as goal

pub loop-k-preserved : goal.loop-k-preserved
loop-k-preserved c =
    let inside : c.loop-k.k < length c.args.self.now = omega (arith, c.loop-k-test.true, c.len-k-end.ensures) in
    taken_more c.args.self.now c.loop-k.pairs.items c.push.new.self.items c.loop-k.k c.pair.result c.in_ok-to_pair.field-0 c.loop-k.invariant inside c.pair.ensures c.in_ok-push.ensures.items c.in_ok-to_pair.ensures
