use Rattle.std.proofs.Common.{◌++◌, ◌∷◌, [], List, cond, eqb, ap, ◌∙◌, arith}
use Rattle.hop_vault.specs.declared.kept.Kept.{Kept}
use Rattle.hop_vault.specs.Rows.{lists_of, list_at}
use Rattle.hop_vault.proofs.RowLaws.{changed, either_way, on_err_known}
use Rattle.hop_vault.proofs.rows.add_at.Goals as goal

pub returns-in_err-push-clause-err : goal.returns-in_err-push-clause-err
returns-in_err-push-clause-err c = on_err_known c.from_residual-in_err-push.result _ (λ i.
    changed c.pad.new.lists.items c.args.attempt c.index_mut.result.now c.push.new.self (λ row. row) (omega (arith, c.in_ok-pad.ensures.enough, c.pad.new.lists.ok)) c.index_mut.ensures.value c.in_err-push.ensures.items i
    ∙ either_way (eqb i c.args.attempt) (list_at (lists_of c.pad.new.lists.items) i)
    ∙ c.in_ok-pad.ensures.same i)

pub returns-clause-ok : goal.returns-clause-ok
returns-clause-ok c = λ i.
    changed c.pad.new.lists.items c.args.attempt c.index_mut.result.now c.push.new.self (λ row. row ++ c.args.kept ∷ []) (omega (arith, c.in_ok-pad.ensures.enough, c.pad.new.lists.ok)) c.index_mut.ensures.value c.in_ok-push.ensures.items i
    ∙ ap (λ (row : List Kept). cond (eqb i c.args.attempt) (row ++ c.args.kept ∷ []) row) (c.in_ok-pad.ensures.same i)
