use Rattle.hop_cut.proofs.DueLaws.{stop_format, stop_job, stop_mark, stop_reducer, stop_progress}
use Rattle.std.proofs.Common.{◌∙◌, ap, ◌++◌}
use Rattle.std.specs.Prelude.{codes}
use Rattle.hop_cut.proofs.head.first_lines.Goals as goal

pub returns-in_default : goal.returns-in_default
returns-in_default c = stop_format c.args.text.now c.in_default.ensures

pub returns-in_default-job_line : goal.returns-in_default-job_line
returns-in_default-job_line c = stop_job c.args.text.now c.in-Some.rest.now c.in-Some.ensures c.in_default-job_line.ensures

pub returns-in_default-number_line : goal.returns-in_default-number_line
returns-in_default-number_line c =
    let job = c.in-Some-job_line.ensures in
    stop_mark c.args.text.now job.0 c.in-Some-job_line.rest.now job.1.named (c.in-Some.ensures ∙ ap (λ t. codes "hop-snapshot 1\n" ++ t) job.1.text_is) c.in_default-number_line.ensures

pub returns-in_default-reducer_line : goal.returns-in_default-reducer_line
returns-in_default-reducer_line c =
    let job = c.in-Some-job_line.ensures in
    stop_reducer c.args.text.now job.0 c.in-Some-job_line.rest.now job.1.named (c.in-Some.ensures ∙ ap (λ t. codes "hop-snapshot 1\n" ++ t) job.1.text_is)
    c.in-Some-number_line.mark c.in-Some-number_line.rest.now c.in-Some-number_line.ensures c.in_default-reducer_line.ensures

pub returns-in_default-number_line-2 : goal.returns-in_default-number_line-2
returns-in_default-number_line-2 c =
    let job = c.in-Some-job_line.ensures in
    stop_progress c.args.text.now job.0 c.in-Some-job_line.rest.now job.1.named (c.in-Some.ensures ∙ ap (λ t. codes "hop-snapshot 1\n" ++ t) job.1.text_is)
    c.in-Some-number_line.mark c.in-Some-number_line.rest.now c.in-Some-number_line.ensures c.in-Some-reducer_line.reducer c.in-Some-reducer_line.reducers c.in-Some-reducer_line.rest.now c.in-Some-reducer_line.ensures c.in_default-number_line-2.ensures
