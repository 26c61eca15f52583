use Rattle.std.proofs.Common.{◌+◌, ◌++◌, ap, ◌∙◌, append_assoc}
use Rattle.hop_writer.proofs.LaterLaws.{on_ok, others_of}
use Rattle.hop_top.specs.Puts.{files_in}
use Rattle.hop_top.specs.Runs.{later_parts, stage_parts}
use Rattle.hop_top.proofs.PartLaws.{later-more}
use Rattle.hop_top.proofs.ending.+later_parts.Goals as goal

-- the files of one job, and those of the others
pub returns : goal.returns
returns t c =
    let a = c.args in let rest = later_parts (a.j + 1) (others_of a.all.now) in
    on_ok c.later_parts.result
    (λ more. more ∙ ap (λ fs. fs ++ rest) c.in_ok-stage_parts.ensures ∙ append_assoc (files_in a.files.now.items) (stage_parts a.j 0 c.as_slice.result.now) rest
    ∙ ap (λ fs. files_in a.files.now.items ++ fs) (later-more a.j a.all.now c.texts-item.result c.as_slice.result.now c.in-len1-up.len_at_least (c.as_slice.ensures ∙ c.texts-item.is)))
    c.later_parts.ensures
