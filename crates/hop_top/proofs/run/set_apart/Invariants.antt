use Rattle.std.proofs.Common.{◌≡◌, ◌≤◌, ◌+◌, ◌++◌, vec_len, vec_capacity}
use Rattle.hop_top.proofs.run.set_apart.Given as goal

abbrev pub invariant-loop-spills : goal.invariant-loop-spills
invariant-loop-spills g l = record {
  all : l.spills.items ++ l.others.items ≡ l.initial.spills.items;
  some : l.fn.count ≤ vec_len l.spills;
  space : vec_len l.spills + vec_len l.others ≤ vec_capacity l.others;
  room : vec_capacity l.initial.spills ≤ vec_capacity l.spills;
}

abbrev pub decreases-loop-spills : goal.decreases-loop-spills
decreases-loop-spills g l = vec_len l.spills
