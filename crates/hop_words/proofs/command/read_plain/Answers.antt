use Rattle.std.proofs.Common.{◌∙◌}
use Rattle.std.proofs.lemmas.Result.{IfOk-weaker}
use Rattle.hop_words.proofs.ChainLaws.{chain_words, few_words, many_words}
use Rattle.hop_words.proofs.command.read_plain.Goals.{then-plain-via-then-plain, then-plain-via-else-plain+then-plain-2}
use Rattle.hop_words.proofs.command.read_plain.Goals as goal

pub returns-then-plain-clause-usage : goal.returns-then-plain-clause-usage
returns-then-plain-clause-usage c = λ usage.
    elim c.then-plain.branch [
      | then-plain-via-then-plain w ↦ few_words c.args.k c.args.plain.now w.if-plain.true c.if-plain-eq3.false
      | then-plain-via-else-plain+then-plain-2 w ↦ many_words c.args.k c.args.plain.now w.if-plain-2.true
    ]

pub returns-clause-command : goal.returns-clause-command
returns-clause-command c =
    IfOk-weaker c.read_chain.result _ _ (λ found e. chain_words c.args.k c.args.plain.now _ c.if-plain.false c.if-plain-2.false ∙ e) c.read_chain.ensures.command

pub returns-clause-usage : goal.returns-clause-usage
returns-clause-usage c = λ usage. chain_words c.args.k c.args.plain.now _ c.if-plain.false c.if-plain-2.false ∙ c.read_chain.ensures.usage usage
