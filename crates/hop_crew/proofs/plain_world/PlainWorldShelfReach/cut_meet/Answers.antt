use Rattle.std.proofs.Common.{refl}
use Rattle.hop_inner.specs.Setups.{setup_of}
use Rattle.hop_inner.specs.Messages.{said_cut}
use Rattle.hop_crew.specs.PlainWorlds.{deeds_of, cut_of}
use Rattle.hop_crew.proofs.Meetings.{cut_meets, follows}
use Rattle.hop_crew.proofs.plain_world.PlainWorldShelfReach.cut_meet.Goals as goal

pub returns : goal.returns
returns g c =
    let n = g.N.RunName in let s = c.args.self.now in
    cut_meets (deeds_of (setup_of n.records n.script n.settings) s) c.args.p refl refl (follows said_cut (cut_of s c.args.p))
