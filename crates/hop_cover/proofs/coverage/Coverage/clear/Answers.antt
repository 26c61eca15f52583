use Rattle.hop_cover.proofs.TableLaws.{cleared_summed}
use Rattle.hop_cover.proofs.coverage.Coverage.clear.Goals as goal

pub invariant_of-self : goal.invariant_of-self
invariant_of-self c = rw c.clear.ensures (cleared_summed c.self.inside.lens.items c.self.inside.tentative c.self.inside.rows.items c.self.inside.total c.self.invariant)
