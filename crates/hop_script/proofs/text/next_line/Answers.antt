use Rattle.std.proofs.Common.{◌∷◌, ◌∙◌, ap, length, arith}
use Rattle.std.proofs.lemmas.List.{length-append}
use Rattle.hop_script.specs.Text.{lines_of}
use Rattle.hop_script.proofs.TextLemmas.{lines_of-line, lines_of-last}
use Rattle.hop_script.proofs.text.next_line.Goals as goal

pub returns-in_err-line : goal.returns-in_err-line
returns-in_err-line c = rw c.from_residual.ensures (lines_of-last c.args.text.now c.requires c.in_err-line.ensures)

pub returns : goal.returns
returns c =
    let line = c.in_ok-line.line.now in
    let after = c.in_ok-line.after.now in
    let parts = c.in_ok-line.ensures.0 in
    (ap lines_of parts ∙ lines_of-line line after c.in_ok-line.ensures.1, omega (arith, ap length parts, length-append line (10 ∷ after)))
