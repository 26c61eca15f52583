use Rattle.std.proofs.Common.{List, Vec, Global, ap, sym, ◌∙◌, arith}
use Rattle.hop_vault.specs.declared.kept.Kept.{Kept}
use Rattle.hop_vault.specs.Rows.{Table, lists_of, list_at, row_of}
use Rattle.hop_vault.proofs.RowLaws.{list_there, row_in_table}
use Rattle.hop_vault.proofs.rows.Rows.row.Goals as goal

pub returns-then-split-len : goal.returns-then-split-len
returns-then-split-len c =
    let splits = c.self.inside.splits.items in
    let row = row_in_table (lists_of splits) c.args.split c.args.attempt ∙ ap (λ (rows : List (Vec Kept Global)). list_at (lists_of rows) c.args.attempt) (list_there splits c.args.split c.index.result.now (omega (arith, c.self.inside.splits.ok)) c.index.ensures) in
    c.row_at.ensures ∙ sym row ∙ ap (λ (t : Table). row_of t c.args.split c.args.attempt) c.self.view_is
