use Rattle.hop_machine.proofs.play.Worked.{a_full_lane-traced}
use Rattle.hop_machine.proofs.worked_laws.waiting_ranges_are_joined.Goals as goal

pub returns : goal.returns
returns c = a_full_lane-traced
