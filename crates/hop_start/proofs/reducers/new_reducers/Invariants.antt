use Rattle.std.proofs.Common.{◌≡◌, map}
use Rattle.std.specs.List.{range_with_len}
use Rattle.hop_machine.specs.home.Starts.{new_reducer}
use Rattle.hop_inner.specs.Setups.{setup_of}
use Rattle.hop_start.proofs.reducers.new_reducers.Given as goal

abbrev pub invariant-loop-p : goal.invariant-loop-p
invariant-loop-p g l = l.reducers.items ≡ map (λ p. new_reducer p (setup_of g.N.RunName.records g.N.RunName.script g.N.RunName.settings)) (range_with_len 0 l.p)
