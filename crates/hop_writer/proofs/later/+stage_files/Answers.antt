use Rattle.std.proofs.Common.{◌+◌, ap, ◌∙◌, ◌∷◌, ◌++◌}
use Rattle.hop_writer.specs.Later.{stage_files}
use Rattle.hop_writer.specs.Puts.{files_in}
use Rattle.hop_writer.proofs.LaterLaws.{on_ok, others_of, pushed, stage_more}
use Rattle.hop_writer.proofs.later.+stage_files.Goals as goal

-- one file, and those of the others
pub returns : goal.returns
returns t c =
    let a = c.args in let rest = stage_files a.j a.name.now a.mark a.r (a.p + 1) (others_of a.bodies.now) in
    on_ok c.stage_files.result
    (λ more. more ∙ pushed a.files.now.items c.in_ok-file.file c.push.new.self.items rest c.in_ok-push.ensures.items
    ∙ ap (λ fs. files_in a.files.now.items ++ fs)
    ((λ i. (c.in_ok-file.ensures.name i, c.in_ok-file.ensures.bytes i) ∷ rest) ∙ stage_more a.j a.name.now a.mark a.r a.p a.bodies.now c.body-item.result c.as_slice.result.now c.in-len1-up.len_at_least (c.as_slice.ensures ∙ c.body-item.is)))
    c.stage_files.ensures
