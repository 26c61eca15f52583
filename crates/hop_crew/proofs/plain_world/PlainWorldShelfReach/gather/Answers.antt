use Rattle.hop_inner.specs.Setups.{setup_of}
use Rattle.hop_crew.specs.PlainWorlds.{lane_of, cut_of, keep_of}
use Rattle.hop_crew.proofs.Meetings.{gathers}
use Rattle.hop_crew.proofs.plain_world.PlainWorldShelfReach.gather.Goals as goal

pub returns : goal.returns
returns g c =
    let n = g.N.RunName in let s = c.args.self.now in
    gathers (setup_of n.records n.script n.settings) s.gathered s.board (lane_of s) (cut_of s) (keep_of s) c.keeps_its_rule.ensures
