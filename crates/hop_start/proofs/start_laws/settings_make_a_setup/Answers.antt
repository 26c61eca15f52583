use Rattle.std.proofs.Common.{arith, ap, subst}
use Rattle.hop_base.specs.Ranges.{AreMarks}
use Rattle.hop_base.specs.Run.{RunSettings}
use Rattle.hop_start.proofs.start_laws.settings_make_a_setup.Goals as goal

pub returns : goal.returns
returns g c =
    let own = c.requires in
    let workers = ap (λ (s : RunSettings). s.workers) own in let reducers = ap (λ (s : RunSettings). s.reducers) own in let spill = ap (λ (s : RunSettings). s.spill) own in
    record {
      workers = omega arith;
      reducers = omega arith;
      marks = subst AreMarks (ap (λ (s : RunSettings). s.marks) own) c.as_slice-marks.ensures.ranges;
      spill = omega arith;
    }
