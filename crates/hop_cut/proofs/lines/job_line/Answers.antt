use Rattle.std.proofs.Common.{◌<◌, length, sym, ◌∙◌, arith}
use Rattle.std.proofs.lemmas.Bool.Decides.{nat_tests}
use Rattle.hop_cut.proofs.NameLaws.{job_there, job_read}
use Rattle.hop_cut.proofs.lines.job_line.Goals as goal

pub returns-in_default-after : goal.returns-in_default-after
returns-in_default-after c = λ name rest h.
    c.in_default-after.ensures rest (c.split_at.ensures.back ∙ (job_there c.args.text.now c.in-Some.text.now c.name_len.result name rest c.in-Some.ensures c.name_len.ensures.all c.name_len.ensures.ends h).1)

pub returns : goal.returns
returns c =
    let test = sym c.is_empty.ensures ∙ c.if-is_empty.false in
    let some : 0 < length c.split_at.result.0.now = grind (arith, nat_tests, test) in
    (c.split_at.result.0.now, job_read c.args.text.now c.in-Some.text.now c.split_at.result.0.now c.split_at.result.1.now c.in-Some-after.rest.now c.name_len.result c.in-Some.ensures c.split_at.ensures.front c.split_at.ensures.back c.name_len.ensures.all some c.in-Some-after.ensures)
