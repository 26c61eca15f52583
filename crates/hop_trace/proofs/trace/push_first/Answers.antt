use Rattle.hop_trace.proofs.WritingLaws.{first_written}
use Rattle.hop_trace.proofs.trace.push_first.Goals as goal

pub returns : goal.returns
returns c = first_written c.args.name.now c.args.text.now.items c.extend_from_slice.new.self.items c.extend_from_slice-2.new.self.items c.extend_from_slice-3.new.self.items c.push_last.new.text.items c.push_last-2.new.text.items c.args.splits c.args.reducers c.in_ok-extend_from_slice.ensures.items c.in_ok-extend_from_slice-2.ensures.items c.in_ok-extend_from_slice-3.ensures.items c.in_ok-push_last.ensures c.in_ok-push_last-2.ensures
