use Rattle.hop_inner.specs.Setups.{setup_of}
use Rattle.hop_actor_tests.specs.Benches.{IsCutEnd}
use Rattle.hop_actor_tests.proofs.bench.Bench.into_cuts.Given as goal

abbrev pub invariant-loop : goal.invariant-loop
invariant-loop g l = let n = g.N.RunName in IsCutEnd (setup_of n.records n.script n.settings) l.world
