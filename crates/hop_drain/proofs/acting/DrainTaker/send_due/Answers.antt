use Rattle.hop_inner.specs.Setups.{parts}
use Rattle.hop_drain.proofs.acting.DrainTaker.send_due.Goals as goal

pub send_what_is_due-requires-clause-safe : goal.send_what_is_due-requires-clause-safe
send_what_is_due-requires-clause-safe g c =
    c.reducer_is_safe.ensures.cuts parts g.E.Reach.exact c.args.self.now (g.E.Reach.deeds c.args.reach.now) c.requires.may.setup c.requires.may.home c.requires.may.ends
