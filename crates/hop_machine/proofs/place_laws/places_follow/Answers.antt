use Rattle.hop_machine.proofs.play.Going.{opened, listed-catch, caught-up, begins-settling, passes-again, passes-over, skips, maps-over, drains-over, empties-over, pulls-over}
use Rattle.hop_machine.proofs.place_laws.places_follow.Goals as goal

pub returns-clause-opened : goal.returns-clause-opened
returns-clause-opened c = opened

pub returns-clause-catches : goal.returns-clause-catches
returns-clause-catches c = listed-catch

pub returns-clause-caught : goal.returns-clause-caught
returns-clause-caught c = caught-up

pub returns-clause-settles : goal.returns-clause-settles
returns-clause-settles c = begins-settling

pub returns-clause-again : goal.returns-clause-again
returns-clause-again c = passes-again

pub returns-clause-passed : goal.returns-clause-passed
returns-clause-passed c = passes-over

pub returns-clause-skips : goal.returns-clause-skips
returns-clause-skips c = skips

pub returns-clause-mapped : goal.returns-clause-mapped
returns-clause-mapped c = maps-over

pub returns-clause-drained : goal.returns-clause-drained
returns-clause-drained c = drains-over

pub returns-clause-emptied : goal.returns-clause-emptied
returns-clause-emptied c = empties-over

pub returns-clause-pulled : goal.returns-clause-pulled
returns-clause-pulled c = pulls-over
