use Rattle.std.proofs.Common.{◌≡◌, ◌++◌}
use Rattle.std.specs.List.{flat_map, enumerate_from}
use Rattle.hop_trace.specs.Trace.{begun_line, line_text}
use Rattle.hop_trace.proofs.WritingLaws.{pieces_from}
use Rattle.hop_trace.proofs.trace.push_all_begun.Given as goal

abbrev pub invariant-loop-i : goal.invariant-loop-i
invariant-loop-i l = l.text.items ++ pieces_from (λ x. line_text (begun_line x)) l.i l.begun ≡ l.initial.text.items ++ flat_map (λ x. line_text (begun_line x)) (enumerate_from 0 l.begun)
