use Rattle.std.proofs.Common.{◌-◌, vec_len}
use Rattle.hop_vault.specs.Rows.{lists_of, SameLists}
use Rattle.hop_vault.proofs.rows.pad.Given as goal

abbrev pub invariant-loop-alloc : goal.invariant-loop-alloc
invariant-loop-alloc g l = SameLists (lists_of l.fn.lists.items) (lists_of l.lists.items)

abbrev pub decreases-loop-alloc : goal.decreases-loop-alloc
decreases-loop-alloc g l = l.len - vec_len l.lists
