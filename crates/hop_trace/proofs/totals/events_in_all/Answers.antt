use Rattle.std.proofs.Common.{◌<◌, ℕ, List, ◌+◌, ◌∙◌, sym, ap, length, [], take, arith}
use Rattle.std.proofs.lemmas.List.Sums.{sum_by_more}
use Rattle.hop_event.specs.declared.event.Event.{Event}
use Rattle.hop_trace.specs.Trace.{in_order}
use Rattle.hop_trace.specs.Totals.{events_in_all}
use Rattle.hop_trace.proofs.WritingLaws.{length-in_order, in_order-at}
use Rattle.hop_trace.proofs.totals.events_in_all.Goals as goal

pub loop-history-preserved : goal.loop-history-preserved
loop-history-preserved c =
    let all : List (List Event) = in_order c.args.histories.now in
    let i : ℕ = c.loop-history.history-index in
    let more : i < length all = omega (arith, length-in_order c.args.histories.now) in
    let same = in_order-at c.args.histories.now i c.history-item.result c.loop-history-test.true c.history-item.is ∙ sym c.events.ensures in
    let sums = sum_by_more (λ (events : List Event). length events) all i [] more ∙ ap (λ (events : List Event). events_in_all (take i all) + length events) same in
    record { value = omega (arith, sums, c.loop-history.invariant.value, c.number_of-total.ensures.value); small = omega arith }
