use Rattle.std.proofs.Common.{◌≡◌, ◌∷◌, List, length, heap_items, sym, ap, ◌∙◌, arith}
use Rattle.hop_run.specs.Heads.{HeadValue, merged_pairs}
use Rattle.hop_run.proofs.HeadLaws.{step_more, step_last, sorted_mid, sorted_pushed, moved}
use Rattle.hop_run.proofs.heads.Heads.step.Goals as goal

pub invariant_of-self-in_err-push_to-in-Some : goal.invariant_of-self-in_err-push_to-in-Some
invariant_of-self-in_err-push_to-in-Some c =
    ((c.in-Some.ensures.heap_order c.self.invariant.0).0, sorted_mid (heap_items c.self.inside.heap) (heap_items c.pop.new.self) c.in-Some.head c.in-Some.ensures.permutation c.self.invariant.1)

pub invariant_of-self-in-Continue-branch-2 : goal.invariant_of-self-in-Continue-branch-2
invariant_of-self-in-Continue-branch-2 c =
    let old = heap_items c.self.inside.heap in
    let mid = heap_items c.pop.new.self in
    let new = heap_items c.push.new.self in (
      c.in_ok-push-in-Some.ensures.heap_order (c.in-Some.ensures.heap_order c.self.invariant.0).0,
      sorted_pushed mid new c.in-Some-next.next c.in_ok-push-in-Some.ensures.permutation c.in-Some-next.ensures.sorted (sorted_mid old mid c.in-Some.head c.in-Some.ensures.permutation c.self.invariant.1),
    )

pub invariant_of-self-in_default : goal.invariant_of-self-in_default
invariant_of-self-in_default c =
    ((c.in-Some.ensures.heap_order c.self.invariant.0).0, sorted_mid (heap_items c.self.inside.heap) (heap_items c.pop.new.self) c.in-Some.head c.in-Some.ensures.permutation c.self.invariant.1)

pub returns-in_ok-push-in-Some-clause-same : goal.returns-in_ok-push-in-Some-clause-same
returns-in_ok-push-in-Some-clause-same c =
    let old : List HeadValue = heap_items c.self.inside.heap in
    let mid : List HeadValue = heap_items c.pop.new.self in
    let new : List HeadValue = heap_items c.push.new.self in
    moved c.args.to.now c.push_to.new.to c.args.self.now (merged_pairs new) c.in-Some.head.first c.in_ok-push_to-in-Some.ensures
    (sym c.self.view_is
    ∙ step_more old mid new c.in-Some.head c.in-Some-next.next c.in-Some.ensures.permutation (c.in-Some.ensures.below_top c.self.invariant.0) c.self.invariant.1 c.in-Some-next.ensures.pairs c.in_ok-push-in-Some.ensures.permutation)

pub returns-in_ok-push-in-Some-clause-less : goal.returns-in_ok-push-in-Some-clause-less
returns-in_ok-push-in-Some-clause-less c =
    let old : List HeadValue = heap_items c.self.inside.heap in
    let mid : List HeadValue = heap_items c.pop.new.self in
    let new : List HeadValue = heap_items c.push.new.self in
    let all : c.args.self.now ≡ c.in-Some.head.first ∷ merged_pairs new =
    sym c.self.view_is
    ∙ step_more old mid new c.in-Some.head c.in-Some-next.next c.in-Some.ensures.permutation (c.in-Some.ensures.below_top c.self.invariant.0) c.self.invariant.1 c.in-Some-next.ensures.pairs c.in_ok-push-in-Some.ensures.permutation in
    omega (arith, ap length all)

pub returns-in_default-clause-same : goal.returns-in_default-clause-same
returns-in_default-clause-same c =
    let old : List HeadValue = heap_items c.self.inside.heap in
    let mid : List HeadValue = heap_items c.pop.new.self in
    moved c.args.to.now c.push_to.new.to c.args.self.now (merged_pairs mid) c.in-Some.head.first c.in_ok-push_to-in-Some.ensures
    (sym c.self.view_is
    ∙ step_last old mid c.in-Some.head c.in-Some.ensures.permutation (c.in-Some.ensures.below_top c.self.invariant.0) c.self.invariant.1 c.in_default.ensures.pairs)

pub returns-in_default-clause-less : goal.returns-in_default-clause-less
returns-in_default-clause-less c =
    let old : List HeadValue = heap_items c.self.inside.heap in
    let mid : List HeadValue = heap_items c.pop.new.self in
    let all : c.args.self.now ≡ c.in-Some.head.first ∷ merged_pairs mid =
    sym c.self.view_is ∙ step_last old mid c.in-Some.head c.in-Some.ensures.permutation (c.in-Some.ensures.below_top c.self.invariant.0) c.self.invariant.1 c.in_default.ensures.pairs in
    omega (arith, ap length all)
