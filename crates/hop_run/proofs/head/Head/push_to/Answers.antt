use Rattle.std.proofs.Common.{ap}
use Rattle.hop_run.specs.Heads.{HeadValue}
use Rattle.hop_run.proofs.HeadLaws.{pushed_first}
use Rattle.hop_run.proofs.head.Head.push_to.Goals as goal

pub returns : goal.returns
returns c = pushed_first _ _ _ c.self.inside.sheet.now c.self.inside.at _ _ c.self.invariant.1.0 (ap (λ (h : HeadValue). h.first) c.self.view_is) c.push_from.ensures.ok
