use Rattle.hop_machine.specs.step.Steps.{Then, Done, NextSplit}
use Rattle.hop_inner.specs.Setups.{parts}
use Rattle.hop_inner.specs.Lines.{option_said}
use Rattle.hop_inner.specs.Messages.{said}
use Rattle.hop_inner.specs.Samples.{flush_one}
use Rattle.hop_inner.proofs.Safety.{safe_after}
use Rattle.hop_inner.proofs.samples.small_turn.Goals as goal

pub next_split_on-requires : goal.next_split_on-requires
next_split_on-requires g c =
    let d = g.E.Reach.deeds c.args.reach.now in
    (safe_after parts g.E.Reach.exact (flush_one c.args.w c.args.p (option_said said c.args.held.now)) (λ rest. Then (NextSplit c.args.w) (λ o. Done (rest, o))) d (g.E.Reach.deeds c.flush_one.new.reach) (option_said said c.flush_one.new.held) c.requires.safe c.flush_one.ensures).0
