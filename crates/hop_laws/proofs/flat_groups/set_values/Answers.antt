use Rattle.std.proofs.Common.{◌<◌, length, arith}
use Rattle.hop_laws.proofs.FlatGroupLaws.{values_more}
use Rattle.hop_laws.proofs.flat_groups.set_values.Goals as goal

pub loop-k-preserved : goal.loop-k-preserved
loop-k-preserved c =
    let inside : c.loop-k.k < length c.args.sheet.now = omega (arith, c.loop-k-test.true, c.requires.within) in
    values_more c.args.sheet.now c.args.from c.loop-k.k c.loop-k.vals.items c.push.new.self.items c.pair-pair.result c.in_ok-to_val.field-0 c.loop-k.auto.k inside c.loop-k.invariant c.pair-pair.ensures c.in_ok-to_val.ensures c.in_ok-push.ensures.items
