use Rattle.std.proofs.Common.{◌<◌, ◌++◌, ◌∷◌, [], arith, length, subst}
use Rattle.std.proofs.lemmas.Result.{on_ok_weaker, on_err_weaker}
use Rattle.hop_vault.specs.Rows.{Table, lists_of, SameRows, AddsTo}
use Rattle.hop_vault.proofs.RowLaws.{table_of, same_rows, padded_changed, padded_same, on_err_known}
use Rattle.std.specs.Prelude.{slice_set}
use Rattle.hop_vault.proofs.rows.Rows.add.Goals as goal

pub returns-in_err-pad-clause-err : goal.returns-in_err-pad-clause-err
returns-in_err-pad-clause-err c =
    on_err_known c.from_residual.result _ (subst (λ (t : Table). SameRows t (table_of (lists_of c.pad.new.lists.items))) c.self.view_is (same_rows (lists_of c.self.inside.splits.items) (lists_of c.pad.new.lists.items) c.in_err-pad.ensures.same))

pub returns-clause-ok : goal.returns-clause-ok
returns-clause-ok c =
    let within : c.args.split < length c.pad.new.lists.items = omega (arith, c.in_ok-pad.ensures.enough, c.pad.new.lists.ok) in
    on_ok_weaker c.add_at.result (λ changes. subst (λ (t : Table). AddsTo t (table_of (lists_of (slice_set c.pad.new.lists.items c.args.split c.add_at.new.attempts))) c.args.split c.args.attempt c.args.kept) c.self.view_is
    (padded_changed c.self.inside.splits.items c.pad.new.lists.items c.args.split c.index_mut.result.now c.add_at.new.attempts c.args.attempt (λ row. row ++ c.args.kept ∷ []) c.in_ok-pad.ensures.same within c.index_mut.ensures.value changes)) c.add_at.ensures.ok

pub returns-clause-err : goal.returns-clause-err
returns-clause-err c =
    let within : c.args.split < length c.pad.new.lists.items = omega (arith, c.in_ok-pad.ensures.enough, c.pad.new.lists.ok) in
    on_err_weaker c.add_at.result (λ unchanged. subst (λ (t : Table). SameRows t (table_of (lists_of (slice_set c.pad.new.lists.items c.args.split c.add_at.new.attempts)))) c.self.view_is
    (padded_same c.self.inside.splits.items c.pad.new.lists.items c.args.split c.index_mut.result.now c.add_at.new.attempts c.in_ok-pad.ensures.same within c.index_mut.ensures.value unchanged)) c.add_at.ensures.err
