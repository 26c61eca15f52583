use Rattle.std.proofs.Common.{◌∷◌, None, Some, Option, map, refl, sym, ap, ◌∙◌}
use Rattle.std.specs.Option.{option_and_then}
use Rattle.hop_script.specs.Text.{words_of}
use Rattle.hop_script.specs.Lines.{line_form}
use Rattle.hop_script.specs.Script.{said_by}
use Rattle.hop_script.specs.declared.line.Line.{Line}
use Rattle.hop_script.proofs.DraftLemmas.{named_of_later}
use Rattle.hop_script.proofs.script.read_line.Goals as goal

pub returns-in_default-line_of : goal.returns-in_default-line_of
returns-in_default-line_of c = λ lines kept.
    let after = said_by c.in-Some.after.now in
    let said = ap (map (option_and_then (λ line. line_form (words_of line)))) c.in-Some.ensures.0 ∙ ap (λ (o : Option Line). o ∷ after) (sym c.in_default-line_of.ensures.form) in
    (None, after, said, refl)

pub returns-else-branch : goal.returns-else-branch
returns-else-branch c = λ lines kept.
    let line = c.in-Some-line_of.line in
    let after = said_by c.in-Some.after.now in
    let said = ap (map (option_and_then (λ line. line_form (words_of line)))) c.in-Some.ensures.0 ∙ ap (λ (o : Option Line). o ∷ after) (sym c.in-Some-line_of.ensures.form) in
    (Some line, after, said, named_of_later c.in_ok-add.field-0 _ (c.in_ok-add.ensures.first lines kept) c.if-branch.false)
