use Rattle.std.proofs.Common.{◌≡◌, ◌++◌, [], Bool, List, heap_items, sym, ap, subst, ◌∙◌}
use Rattle.std.specs.Prelude.{IsSorted, IfOk}
use Rattle.std.specs.Bool.{OnFalse}
use Rattle.std.specs.List.{flat_map}
use Rattle.std.proofs.lemmas.List.{append-nil}
use Rattle.hop_base.specs.declared.value.Pair.{Pair}
use Rattle.hop_base.specs.Order.{pair_cmp}
use Rattle.hop_run.specs.Heads.{head_pairs}
use Rattle.hop_run.proofs.MergeLaws.{ord_is_sorted}
use Rattle.hop_run.proofs.heads.Heads.merged.Goals as goal

pub finish-requires : goal.finish-requires
finish-requires c =
    let none : c.step.new.self ≡ [] = subst (λ (b : Bool). OnFalse b (c.step.new.self ≡ [])) c.if-branch.false c.in_ok-step.ensures.none in
    let all : c.step.new.to ≡ c.args.self = sym (append-nil c.step.new.to) ∙ ap (λ ps. c.step.new.to ++ ps) (sym none) ∙ c.in_ok-step.ensures.same ∙ c.loop-builder.invariant in
    subst (λ (ps : List Pair). IsSorted pair_cmp ps) (c.self.view_is ∙ sym all) (ord_is_sorted (flat_map head_pairs (heap_items c.self.inside.heap)))

pub returns : goal.returns
returns c =
    let none : c.step.new.self ≡ [] = subst (λ (b : Bool). OnFalse b (c.step.new.self ≡ [])) c.if-branch.false c.in_ok-step.ensures.none in
    let all : c.step.new.to ≡ c.args.self = sym (append-nil c.step.new.to) ∙ ap (λ ps. c.step.new.to ++ ps) (sym none) ∙ c.in_ok-step.ensures.same ∙ c.loop-builder.invariant in
    subst (λ (ps : List Pair). IfOk c.finish.result (λ flat. flat ≡ ps)) all c.finish.ensures
