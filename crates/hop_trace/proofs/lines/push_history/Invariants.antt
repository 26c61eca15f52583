use Rattle.std.proofs.Common.{◌≡◌, ◌++◌, take, All}
use Rattle.std.specs.List.{flat_map}
use Rattle.hop_trace.specs.Told.{IsToldEvent}
use Rattle.hop_trace.specs.Trace.{event_line, line_text}
use Rattle.hop_trace.proofs.lines.push_history.Given as goal

abbrev pub invariant-loop-event : goal.invariant-loop-event
invariant-loop-event l = record {
  text : l.text.items ≡ l.initial.text.items ++ flat_map (λ e. line_text (event_line e)) (take l.event-index l.events);
  numbers : All IsToldEvent (take l.event-index l.events);
}
