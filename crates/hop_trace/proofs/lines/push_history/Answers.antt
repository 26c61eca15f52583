use Rattle.std.proofs.Common.{arith}
use Rattle.std.proofs.lemmas.List.Elements.{All-more}
use Rattle.hop_trace.specs.Trace.{event_line, line_text}
use Rattle.hop_trace.specs.Told.{IsToldEvent}
use Rattle.hop_trace.proofs.WritingLaws.{each_more, history_written}
use Rattle.hop_trace.proofs.lines.push_history.Goals as goal

pub loop-event-preserved : goal.loop-event-preserved
loop-event-preserved c = record {
  text = each_more (λ e. line_text (event_line e)) c.args.events.now c.loop-event.event-index _ c.push_last.new.text.items c.loop-event.text.items c.push_event.new.text.items c.loop-event-test.true c.loop-event.invariant.text c.in_ok-push_event.ensures.text;
  numbers = All-more IsToldEvent c.args.events.now c.loop-event.event-index _ c.loop-event-test.true c.loop-event.invariant.numbers c.in_ok-push_event.ensures.numbers;
}

pub returns-clause-text : goal.returns-clause-text
returns-clause-text c = history_written c.args.events.now c.loop-event.event-index c.args.p c.args.text.now.items c.push_last.new.text.items c.loop-event.text.items (omega arith) c.in_ok-push_last.ensures c.loop-event.invariant.text
