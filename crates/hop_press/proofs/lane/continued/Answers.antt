use Rattle.std.proofs.Common.{refl}
use Rattle.hop_base.specs.declared.part.Part.{Part}
use Rattle.hop_press.proofs.ChainLaws.{whole_joined}
use Rattle.hop_press.proofs.lane.continued.Goals as goal

pub returns-then-after-before-3-clause-whole : goal.returns-then-after-before-3-clause-whole
returns-then-after-before-3-clause-whole c = λ table chain one other.
    let both : Part = record { split = c.args.before.now.split; attempt = c.args.before.now.attempt; from = c.args.before.now.from; to = c.args.after.now.to } in
    whole_joined table c.args.before.now c.args.after.now both chain one other c.if-after-before.true c.if-after-before-2.true c.if-after-before-3.true refl
