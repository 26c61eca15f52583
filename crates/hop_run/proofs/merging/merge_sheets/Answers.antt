use Rattle.std.proofs.Common.{◌≡◌, ◌++◌, List, ap, subst, ◌∙◌}
use Rattle.std.specs.Prelude.{IfOk}
use Rattle.hop_base.specs.declared.value.Pair.{Pair}
use Rattle.hop_base.specs.Order.{pair_cmp}
use Rattle.hop_base.specs.Sorted.{ord}
use Rattle.hop_run.proofs.HeadLaws.{ord_joined}
use Rattle.hop_run.proofs.merging.merge_sheets.Goals as goal

pub returns : goal.returns
returns c =
    subst (λ (ps : List Pair). IfOk c.merged.result (λ flat. flat ≡ ps))
    (c.in_ok-add-2.ensures ∙ ap (λ ps. ord pair_cmp (ps ++ c.args.b.now)) (c.in_ok-add.ensures ∙ ap (λ ps. ord pair_cmp (ps ++ c.args.a.now)) c.new-heads.ensures) ∙ ord_joined c.args.a.now c.args.b.now)
    c.merged.ensures
