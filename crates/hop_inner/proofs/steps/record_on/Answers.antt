use Rattle.std.proofs.Common.{ap}
use Rattle.hop_inner.specs.Locks.{Lock}
use Rattle.hop_inner.proofs.LockSteps.{records_one}
use Rattle.hop_inner.proofs.steps.record_on.Goals as goal

pub returns : goal.returns
returns g c e more =
    let x = g.E.Keep.Keep.lock c.keep.result.now in let y = g.E.Keep.Keep.lock c.give_back.new.self in
    records_one g.E.Reach.exact c.args.p e x y (g.E.Reach.deeds c.args.reach.now) _ (Rattle.hop_inner.specs.Shelved.value_of c.args.value) c.keep.ensures.shows more
    (g.met.E.Reach.keep_put c.args.reach.now c.args.p c.keep.result.now c.give_back.new.self c.keep.ensures.end (ap (λ (l : Lock). l.number) c.give_back.ensures)) c.give_back.ensures
