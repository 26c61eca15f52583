use Rattle.std.proofs.Common.{◌+◌, ◌++◌, ◌∷◌, ap, ◌∙◌}
use Rattle.hop_writer.proofs.LaterLaws.{on_ok, others_of, pushed}
use Rattle.hop_top.specs.Puts.{files_in}
use Rattle.hop_top.specs.Runs.{stage_parts}
use Rattle.hop_top.proofs.PartLaws.{stage-more}
use Rattle.hop_top.proofs.ending.+stage_parts.Goals as goal

-- one file, and those of the others
pub returns : goal.returns
returns t c =
    let a = c.args in let rest = stage_parts a.j (a.p + 1) (others_of a.texts.now) in
    on_ok c.stage_parts.result
    (λ more. more ∙ pushed a.files.now.items (record { name = c.in_ok-name.name; bytes = c.in_ok-bytes.bytes }) c.push.new.self.items rest c.in_ok-push.ensures.items
    ∙ ap (λ fs. files_in a.files.now.items ++ fs) ((λ i. (c.in_ok-name.ensures i, c.in_ok-bytes.ensures i) ∷ rest) ∙ stage-more a.j a.p a.texts.now c.text-item.result c.text-item.result c.in-len1-up.len_at_least c.text-item.is))
    c.stage_parts.ensures
