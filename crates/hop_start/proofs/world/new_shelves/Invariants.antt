use Rattle.std.proofs.Common.{◌≡◌, length, map, All}
use Rattle.std.specs.List.{range_with_len}
use Rattle.hop_inner.specs.Setups.{setup_of}
use Rattle.hop_inner.specs.Shelved.{value_of}
use Rattle.hop_crew.specs.Unused.{first_value}
use Rattle.hop_start.proofs.world.new_shelves.Given as goal

abbrev pub invariant-loop-p : goal.invariant-loop-p
invariant-loop-p g l = record {
  count : length l.shelves.items ≡ l.p;
  values : All (λ s. value_of s ≡ first_value (setup_of g.N.RunName.records g.N.RunName.script g.N.RunName.settings)) l.shelves.items;
  numbers : map (λ s. s.p) l.shelves.items ≡ range_with_len 0 l.p;
}
