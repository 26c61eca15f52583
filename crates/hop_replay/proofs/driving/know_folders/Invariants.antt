use Rattle.std.proofs.Common.{◌≡◌, ℕ, ◌<◌, false, Some, None}
use Rattle.std.specs.Prelude.{slice_index_or}
use Rattle.std.specs.List.{slice_get}
use Rattle.hop_actors.specs.Spilled.{IsSpilled, OnlySpills}
use Rattle.hop_replay.proofs.driving.know_folders.Given as goal

-- so it is of the mappers before w
abbrev pub invariant-loop-w : goal.invariant-loop-w
invariant-loop-w g l = record {
  spilled : (k : ℕ) (m : _) → k < l.w → slice_get l.fn.mappers.items k ≡ Some m → g.M.Actor.failed m ≡ false
      → IsSpilled g.N.RunName.job g.N.RunName.records g.N.RunName.settings.split g.N.RunName.settings.reducers g.N.RunName.settings.spill (g.M.Store.mapper m).rules.lens (g.M.Store.mapper m).kept (slice_index_or g.N.RunName.spills (g.M.Store.mapper m).number None) (g.M.Store.held m);
  only : (k : ℕ) (m : _) → k < l.w → slice_get l.fn.mappers.items k ≡ Some m → OnlySpills (slice_index_or g.N.RunName.spills (g.M.Store.mapper m).number None) (g.M.Store.held m);
}
