use Rattle.std.proofs.Common.{◌<◌, subst, sym, length}
use Rattle.std.specs.Prelude.{slice_set}
use Rattle.hop_vault.specs.Rows.{Table, lists_of, row_of, all_but_last, TakesFrom}
use Rattle.hop_vault.proofs.RowLaws.{table_of, attempt_within, split_within, rows_changed}
use Rattle.hop_vault.proofs.rows.Rows.take_back.Goals as goal

pub take_at-requires : goal.take_at-requires
take_at-requires c =
    attempt_within c.self.inside.splits.items c.args.split c.args.attempt c.index_mut.result.now c.index_mut.ensures.value (subst (λ (t : Table). 0 < length (row_of t c.args.split c.args.attempt)) (sym c.self.view_is) c.requires)

pub returns : goal.returns
returns c =
    let some = subst (λ (t : Table). 0 < length (row_of t c.args.split c.args.attempt)) (sym c.self.view_is) c.requires in
    subst (λ (t : Table). TakesFrom t (table_of (lists_of (slice_set c.self.inside.splits.items c.args.split c.take_at.new.attempts))) c.args.split c.args.attempt) c.self.view_is
    (rows_changed c.self.inside.splits.items c.args.split c.index_mut.result.now c.take_at.new.attempts c.args.attempt all_but_last (split_within c.self.inside.splits.items c.args.split c.args.attempt some) c.index_mut.ensures.value c.take_at.ensures)
