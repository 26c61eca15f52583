use Rattle.std.proofs.Common.{◌≡◌, length, map, All, ◌++◌}
use Rattle.hop_inner.specs.Setups.{setup_of}
use Rattle.hop_crew.specs.Unused.{first_kept}
use Rattle.hop_crew.proofs.making.locks.Given as goal

abbrev pub invariant-loop-value : goal.invariant-loop-value
invariant-loop-value g l = record {
  all : l.yielded ++ l.value-iterator.rest.items ≡ l.fn.values.items;
  count : length l.keeps.items ≡ length l.yielded;
  kept : let n = g.N.RunName in All (λ k. k.kept ≡ first_kept (setup_of n.records n.script n.settings)) l.keeps.items;
  numbers : map (λ k. k.number) l.keeps.items ≡ map g.V.Logged.number l.yielded;
}
