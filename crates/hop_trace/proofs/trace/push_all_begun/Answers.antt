use Rattle.std.proofs.Common.{arith}
use Rattle.hop_trace.proofs.WritingLaws.{begun_written}
use Rattle.hop_trace.proofs.trace.push_all_begun.Goals as goal

pub returns : goal.returns
returns c = begun_written c.args.begun.now c.loop-i.i c.args.text.now.items c.loop-i.text.items (omega arith) c.loop-i.invariant
