use Rattle.std.proofs.Common.{◌<◌, ◌≤◌, ◌∙◌, sym, ap, subst, length, [], ◌++◌, All, arith}
use Rattle.std.proofs.lemmas.List.{take_all}
use Rattle.std.proofs.lemmas.List.Elements.{All-more}
use Rattle.hop_trace.specs.Trace.{history_lines, text_of, in_order}
use Rattle.hop_trace.specs.Told.{IsToldEvent}
use Rattle.hop_trace.proofs.WritingLaws.{pieces_more, histories_written, length-in_order, in_order-at}
use Rattle.hop_trace.proofs.trace.push_histories.Goals as goal

pub loop-p-preserved : goal.loop-p-preserved
loop-p-preserved c =
    let further : c.loop-p.p < length (in_order c.args.histories.now) = omega (arith, length-in_order c.args.histories.now) in
    let same = in_order-at c.args.histories.now c.loop-p.p c.index-histories-p.result c.loop-p-test.true c.index-histories-p.is ∙ sym c.events.ensures in
    record {
      text = pieces_more (λ x. text_of (history_lines x)) (in_order c.args.histories.now) c.loop-p.p [] _ c.loop-p.text.items c.push_history.new.text.items further c.loop-p.invariant.text (c.in_ok-push_history.ensures.text ∙ ap (λ es. c.loop-p.text.items ++ text_of (history_lines (c.loop-p.p, es))) (sym same));
      numbers = All-more (All IsToldEvent) (in_order c.args.histories.now) c.loop-p.p [] further c.loop-p.invariant.numbers (subst (All IsToldEvent) (sym same) c.in_ok-push_history.ensures.numbers);
    }

pub returns-clause-text : goal.returns-clause-text
returns-clause-text c = histories_written (in_order c.args.histories.now) c.loop-p.p c.args.text.now.items c.loop-p.text.items (omega (arith, length-in_order c.args.histories.now)) c.loop-p.invariant.text

pub returns-clause-numbers : goal.returns-clause-numbers
returns-clause-numbers c =
    let done : length (in_order c.args.histories.now) ≤ c.loop-p.p = omega (arith, length-in_order c.args.histories.now) in
    subst (All (All IsToldEvent)) (take_all c.loop-p.p (in_order c.args.histories.now) done) c.loop-p.invariant.numbers
