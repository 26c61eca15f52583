use Rattle.std.proofs.Common.{◌≡◌, ◌++◌, take, drop, map}
use Rattle.hop_cover.specs.Rows.{cleared}
use Rattle.hop_cover.proofs.row.clear_rows.Given as goal

abbrev pub invariant-loop-row : goal.invariant-loop-row
invariant-loop-row l = l.rows ≡ map cleared (take l.row-index l.fn.rows) ++ drop l.row-index l.fn.rows
