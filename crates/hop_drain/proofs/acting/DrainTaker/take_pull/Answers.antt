use Rattle.hop_inner.specs.Setups.{parts}
use Rattle.hop_drain.proofs.acting.DrainTaker.take_pull.Goals as goal

pub record_pull-requires-clause-safe : goal.record_pull-requires-clause-safe
record_pull-requires-clause-safe g c =
    c.reducer_is_safe.ensures.pull parts g.E.Reach.exact c.args.self.now (g.E.Reach.deeds c.args.reach.now) c.args.part c.requires.may.setup c.requires.may.home c.requires.may.ends c.requires.pull
