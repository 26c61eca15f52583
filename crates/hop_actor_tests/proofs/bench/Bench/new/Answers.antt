use Rattle.hop_inner.specs.Setups.{setup_of}
use Rattle.hop_actor_tests.proofs.Beginnings.{no_marks}
use Rattle.hop_actor_tests.proofs.bench.Bench.new.Goals as goal

pub with_marks-requires-clause-unreached : goal.with_marks-requires-clause-unreached
with_marks-requires-clause-unreached g c =
    let n = g.N.RunName in
    no_marks (setup_of n.records n.script n.settings) c.requires.unmarked
