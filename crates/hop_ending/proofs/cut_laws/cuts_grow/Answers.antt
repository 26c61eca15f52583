use Rattle.hop_ending.proofs.CutHistories.{first_cuts_are, more_cuts_are}
use Rattle.hop_ending.proofs.cut_laws.cuts_grow.Goals as goal

pub returns-clause-first : goal.returns-clause-first
returns-clause-first c = first_cuts_are

pub returns-clause-next : goal.returns-clause-next
returns-clause-next c = more_cuts_are
