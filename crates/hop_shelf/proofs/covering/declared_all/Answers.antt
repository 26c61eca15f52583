use Rattle.std.proofs.Common.{arith, sym}
use Rattle.std.proofs.lemmas.List.FromFn.{map-range_with_len_more}
use Rattle.hop_event.specs.Coverage.{declared}
use Rattle.hop_shelf.proofs.covering.declared_all.Goals as goal

pub loop-i-preserved : goal.loop-i-preserved
loop-i-preserved c = rw (c.in_ok-push.ensures.ok, c.loop-i.invariant, c.at.ensures) (sym (map-range_with_len_more (declared c.args.journal.now.tentative c.args.journal.now.events) 0 c.loop-i.i c.loop-i.i (omega arith)))
