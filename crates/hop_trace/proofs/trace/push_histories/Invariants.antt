use Rattle.std.proofs.Common.{◌≡◌, ◌++◌, take, All}
use Rattle.std.specs.List.{flat_map, enumerate_from}
use Rattle.hop_trace.specs.Told.{IsToldEvent}
use Rattle.hop_trace.specs.Trace.{history_lines, text_of, in_order}
use Rattle.hop_trace.proofs.WritingLaws.{pieces_from}
use Rattle.hop_trace.proofs.trace.push_histories.Given as goal

abbrev pub invariant-loop-p : goal.invariant-loop-p
invariant-loop-p l = record {
  text : l.text.items ++ pieces_from (λ x. text_of (history_lines x)) l.p (in_order l.histories) ≡ l.initial.text.items ++ flat_map (λ x. text_of (history_lines x)) (enumerate_from 0 (in_order l.histories));
  numbers : All (All IsToldEvent) (take l.p (in_order l.histories));
}
