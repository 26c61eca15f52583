use Rattle.std.proofs.Common.{◌≡◌, ℕ, ◌<◌, length, map, slice_index}
use Rattle.hop_settle.specs.Begun.{IsMost}
use Rattle.hop_settle.proofs.begun.count_begun.Given as goal

-- the splits before this one are counted
abbrev pub invariant-loop-split : goal.invariant-loop-split
invariant-loop-split g l = record {
  count : length l.begun ≡ length l.fn.begun;
  counted : (i : ℕ) → i < l.split → IsMost (map g.M.Store.mapper l.fn.mappers.items) i (slice_index l.begun i);
}
