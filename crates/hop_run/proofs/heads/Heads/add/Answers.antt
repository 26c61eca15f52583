use Rattle.std.proofs.Common.{◌≡◌, ◌++◌, List, length, heap_items, ap, subst, ◌∙◌, arith}
use Rattle.hop_base.specs.declared.value.Pair.{Pair}
use Rattle.hop_base.specs.Order.{pair_cmp}
use Rattle.hop_base.specs.Sorted.{ord}
use Rattle.hop_run.proofs.HeadLaws.{merged_added, merged_same, sorted_pushed}
use Rattle.hop_run.proofs.heads.Heads.add.Goals as goal

pub returns-then-len-eq0 : goal.returns-then-len-eq0
returns-then-len-eq0 c =
    let none : length c.args.sheet.now ≡ 0 = omega (arith, c.len.ensures, c.if-len-eq0.true) in
    subst (λ (ps : List Pair). ps ≡ ord pair_cmp (ps ++ c.args.sheet.now)) c.self.view_is (merged_same (heap_items c.self.inside.heap) c.args.sheet.now none)

pub invariant_of-self-2 : goal.invariant_of-self-2
invariant_of-self-2 c = (
  c.in_ok-push.ensures.heap_order c.self.invariant.0,
  sorted_pushed (heap_items c.self.inside.heap) (heap_items c.push.new.self) c.new.result c.in_ok-push.ensures.permutation c.new.ensures.sorted c.self.invariant.1,
)

pub returns : goal.returns
returns c =
    merged_added (heap_items c.self.inside.heap) (heap_items c.push.new.self) c.new.result c.args.sheet.now c.in_ok-push.ensures.permutation c.new.ensures.pairs
    ∙ ap (λ ps. ord pair_cmp (ps ++ c.args.sheet.now)) c.self.view_is
