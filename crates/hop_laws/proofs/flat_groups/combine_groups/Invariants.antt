use Rattle.std.proofs.Common.{◌≡◌, ◌++◌, ◌-◌, ◌≤◌, length, drop}
use Rattle.hop_laws.specs.Stands.{combined_pairs}
use Rattle.hop_laws.proofs.flat_groups.combine_groups.Given as goal

-- the pairs so far and what the rest is combined to are what all is combined to
abbrev pub invariant-loop-at : goal.invariant-loop-at
invariant-loop-at g l =
    let combine = (g.J.Job.meaning l.fn.job).combined in
    record {
      within : l.at ≤ length l.sheet;
      told : l.fewer ++ combined_pairs combine (drop l.at l.sheet) ≡ combined_pairs combine l.sheet;
    }

abbrev pub decreases-loop-at : goal.decreases-loop-at
decreases-loop-at g l = length l.sheet - l.at
