use Rattle.hop_machine.proofs.run.CatchingLaws.{few-begun, begun-rows}
use Rattle.hop_machine.proofs.catching_laws.begun_rows_are_all.Goals as goal

pub returns-clause-few : goal.returns-clause-few
returns-clause-few c = few-begun

pub returns-clause-rows : goal.returns-clause-rows
returns-clause-rows c = begun-rows
