use Rattle.std.proofs.Common.{◌≡◌, ◌++◌, ◌-◌, ◌≤◌, length, drop}
use Rattle.hop_laws.specs.Groups.{red}
use Rattle.hop_laws.proofs.flat_groups.reduce_flat.Given as goal

-- the text so far and the reduction of what is left are the whole reduction
abbrev pub invariant-loop-at : goal.invariant-loop-at
invariant-loop-at g l =
    let reduce = (g.J.Job.meaning l.fn.job).reduced in
    record {
      within : l.at ≤ length l.sheet;
      told : l.text.items ++ red reduce (drop l.at l.sheet) ≡ red reduce l.sheet;
    }

abbrev pub decreases-loop-at : goal.decreases-loop-at
decreases-loop-at g l = length l.sheet - l.at
