use Rattle.hop_drain.proofs.acting.DrainActor.turn.Goals as goal

pub returns-clause-cause : goal.returns-clause-cause
returns-clause-cause g c = let R = g.N.RunName in c.turn.ensures.cause R.job R.records R.script R.settings c.args.self.now
