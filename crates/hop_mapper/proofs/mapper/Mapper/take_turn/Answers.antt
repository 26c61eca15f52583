use Rattle.std.proofs.Common.{◌≡◌, false, sym, subst}
use Rattle.hop_actors.specs.Acting.{said_turn}
use Rattle.hop_mapper.specs.Mappers.{MapperValue}
use Rattle.hop_mapper.proofs.SpilledLaws.{folder_after}
use Rattle.hop_mapper.proofs.mapper.Mapper.take_turn.Goals as goal

pub invariant_of-self : goal.invariant_of-self
invariant_of-self g c =
    let R = g.N.RunName in
    folder_after R.job R.records R.settings R.spills g.V.Folder.seen c.self.inside.state c.turn.new.self (said_turn c.turn.result) c.turn.ensures.failed c.turn.ensures.adds c.turn.ensures.only c.turn.ensures.worker
    (subst (λ (m : MapperValue g.row.V.Denot g.row.K.Denot). m.failed ≡ false) (sym c.self.view_is) c.requires.well) c.self.invariant

pub returns-clause-spilled : goal.returns-clause-spilled
returns-clause-spilled g c =
    let R = g.N.RunName in
    (folder_after R.job R.records R.settings R.spills g.V.Folder.seen c.self.inside.state c.turn.new.self (said_turn c.turn.result) c.turn.ensures.failed c.turn.ensures.adds c.turn.ensures.only c.turn.ensures.worker
    (subst (λ (m : MapperValue g.row.V.Denot g.row.K.Denot). m.failed ≡ false) (sym c.self.view_is) c.requires.well) c.self.invariant).spilled
