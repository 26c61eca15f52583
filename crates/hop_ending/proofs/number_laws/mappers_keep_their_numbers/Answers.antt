use Rattle.hop_ending.proofs.Numbers.{went_numbers, start_numbers}
use Rattle.hop_ending.proofs.number_laws.mappers_keep_their_numbers.Goals as goal

pub returns-clause-same : goal.returns-clause-same
returns-clause-same c = went_numbers

pub returns-clause-start : goal.returns-clause-start
returns-clause-start c = start_numbers
