use Rattle.std.proofs.Common.{◌≡◌, ◌≤◌, ◌+◌, ◌++◌, map, vec_len, vec_capacity}
use Rattle.hop_start.specs.Made.{folder_of}
use Rattle.hop_start.proofs.mappers.folders_back.Given as goal

abbrev pub invariant-loop-mapper : goal.invariant-loop-mapper
invariant-loop-mapper g l = record {
  items : map folder_of l.mappers.items ++ l.folders.items ≡ map folder_of l.initial.mappers.items ++ l.initial.folders.items;
  space : vec_len l.mappers + vec_len l.folders ≤ vec_capacity l.folders;
  room : vec_capacity l.initial.folders ≤ vec_capacity l.folders;
}

abbrev pub decreases-loop-mapper : goal.decreases-loop-mapper
decreases-loop-mapper g l = vec_len l.mappers
