use Rattle.std.proofs.Common.{◌≡◌, true, arith, below_more}
use Rattle.hop_shelf.specs.Finish.{IsDone}
use Rattle.hop_shelf.proofs.journal.Journal.first_not_done.Goals as goal

pub loop-i-preserved : goal.loop-i-preserved
loop-i-preserved c =
    let t : c.is_done.result ≡ true = grind arith in
    let d = c.is_done.ensures.0 t in
    below_more (IsDone c.args.self.now c.args.begun.now) c.loop-i.i c.loop-i.invariant (record { won = d.0; settled = d.1 })
