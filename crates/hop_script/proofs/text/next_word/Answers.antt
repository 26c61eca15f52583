use Rattle.std.proofs.Common.{◌∙◌, ap}
use Rattle.hop_script.specs.Text.{words_of}
use Rattle.hop_script.proofs.TextLemmas.{words_of-word, words_of-last}
use Rattle.hop_script.proofs.text.next_word.Goals as goal

pub returns-in_err-word : goal.returns-in_err-word
returns-in_err-word c = rw c.from_residual.ensures (words_of-last c.args.line.now c.in_err-word.ensures)

pub returns : goal.returns
returns c = ap words_of c.in_ok-word.ensures.0 ∙ words_of-word c.in_ok-word.word.now c.in_ok-word.rest.now c.in_ok-word.ensures.1
