use Rattle.hop_event.proofs.Leaders.{leader_is_leader}
use Rattle.hop_event.proofs.laws.leader_leads.Goals as goal

pub returns : goal.returns
returns c = leader_is_leader
