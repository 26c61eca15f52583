use Rattle.hop_chain.proofs.ChainLaws.{nothing_left_out}
use Rattle.hop_chain.proofs.chain_laws.nothing_is_left_out.Goals as goal

pub returns-clause-short : goal.returns-clause-short
returns-clause-short g c = nothing_left_out

pub returns-clause-of_a_job : goal.returns-clause-of_a_job
returns-clause-of_a_job g c = λ texts meanings r each. nothing_left_out texts meanings r (c.texts_are_short.ensures texts each)
