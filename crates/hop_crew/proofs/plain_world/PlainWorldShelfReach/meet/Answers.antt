use Rattle.std.proofs.Common.{refl}
use Rattle.hop_inner.specs.Setups.{setup_of}
use Rattle.hop_inner.specs.Messages.{said}
use Rattle.hop_crew.specs.PlainWorlds.{deeds_of, lane_of}
use Rattle.hop_crew.proofs.Meetings.{meets, follows}
use Rattle.hop_crew.proofs.plain_world.PlainWorldShelfReach.meet.Goals as goal

pub returns : goal.returns
returns g c =
    let n = g.N.RunName in let s = c.args.self.now in
    meets (deeds_of (setup_of n.records n.script n.settings) s) c.args.w c.args.p refl refl (follows said (lane_of s c.args.w c.args.p))
