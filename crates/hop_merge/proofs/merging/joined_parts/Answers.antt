use Rattle.std.proofs.Common.{ap, ◌∙◌}
use Rattle.hop_run.specs.Runs.{RunValue}
use Rattle.hop_merge.proofs.MergeAllLaws.{parts_more}
use Rattle.hop_merge.proofs.merging.joined_parts.Goals as goal

pub loop-run-preserved : goal.loop-run-preserved
loop-run-preserved c =
    parts_more c.args.runs.now c.loop-run.run-index c.run-item.result c.loop-run.parts.items c.extend_from_slice.new.self.items c.parts.result.now c.loop-run-test.true c.loop-run.invariant
    (c.parts.ensures ∙ ap (λ (run : RunValue). run.parts) c.run-item.is) c.in_ok-extend_from_slice.ensures.items
