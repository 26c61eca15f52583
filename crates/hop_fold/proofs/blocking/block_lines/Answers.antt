use Rattle.std.proofs.Common.{ap, ◌∙◌}
use Rattle.std.specs.List.{concat}
use Rattle.hop_laws.specs.Blocking.{blocking_texts}
use Rattle.hop_records.specs.Records.{records_of}
use Rattle.hop_fold.proofs.WithinLaws.{none_is_long}
use Rattle.hop_fold.proofs.blocking.block_lines.Goals as goal

pub returns : goal.returns
returns g c =
    let meaning = g.J.Job.meaning c.args.job.now in
    c.in_ok-out.ensures ∙ ap (λ rs. blocking_texts meaning rs c.args.r) (none_is_long 131050 (records_of (concat c.args.texts.now)) c.requires.short)
