use Rattle.std.proofs.Common.{subst, sym}
use Rattle.std.proofs.lemmas.List.{take_all}
use Rattle.std.proofs.lemmas.List.Elements.{All-more, All-same}
use Rattle.hop_base.specs.Order.{IsValidPair}
use Rattle.hop_base.proofs.value.Pair.all_known.Goals as goal

pub loop-pair-preserved : goal.loop-pair-preserved
loop-pair-preserved c = All-more IsValidPair c.args.pairs.now c.loop-pair.pair-index c.pair-item.result c.loop-pair-test.true c.loop-pair.invariant (subst IsValidPair c.pair-item.is c.known.ensures)

pub returns : goal.returns
returns c = All-same IsValidPair _ _ (sym (take_all c.loop-pair.pair-index c.args.pairs.now c.loop-pair-test.false)) c.loop-pair.invariant
