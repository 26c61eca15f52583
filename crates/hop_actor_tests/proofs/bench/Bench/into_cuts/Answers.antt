use Rattle.hop_actor_tests.proofs.bench.Bench.into_cuts.Goals as goal

pub loop-init : goal.loop-init
loop-init g c = let h = c.self.invariant c.if-self.false in h.ends.writer.cut_ins 0 h.ready.home.set.reducers
