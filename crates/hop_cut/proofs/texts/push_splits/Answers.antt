use Rattle.std.proofs.Common.{arith}
use Rattle.hop_cut.proofs.TextLaws.{write_more, write_end}
use Rattle.hop_cut.proofs.texts.push_splits.Goals as goal

pub loop-i-preserved : goal.loop-i-preserved
loop-i-preserved c = write_more c.args.declared.now c.args.lens.now c.args.text.now.items c.loop-i.text.items c.push_split.new.text.items c.loop-i.i (omega arith) (omega (arith, c.requires.each)) c.loop-i.invariant c.in_ok-push_split.ensures

pub returns : goal.returns
returns c = write_end c.args.declared.now c.args.lens.now c.args.text.now.items c.loop-i.text.items c.extend_from_slice.new.self.items c.loop-i.i (omega arith) (omega (arith, c.requires.each)) c.loop-i.invariant c.in_ok-extend_from_slice.ensures.items
