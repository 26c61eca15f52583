use Rattle.std.proofs.Common.{ap}
use Rattle.hop_mapper.specs.Mappers.{MapperValue}
use Rattle.hop_mapper.proofs.SpilledLaws.{folder_still}
use Rattle.hop_mapper.proofs.mapper.Mapper.fetch.Goals as goal

pub invariant_of-self : goal.invariant_of-self
invariant_of-self g c =
    let R = g.N.RunName in let e = c.fetch_back.ensures in
    folder_still R.job R.records R.settings R.spills g.V.Folder.seen c.self.inside.state c.fetch_back.new.self (ap (λ (m : MapperValue g.row.V.Denot g.row.K.Denot). m.failed) e.rest) e.files e.rows e.worker c.self.invariant
