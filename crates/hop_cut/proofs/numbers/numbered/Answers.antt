use Rattle.std.proofs.Common.{◌∙◌}
use Rattle.hop_cut.proofs.NumberLaws.{number_there}
use Rattle.hop_cut.proofs.numbers.numbered.Goals as goal

pub returns-in_default-value : goal.returns-in_default-value
returns-in_default-value c = λ n rest h.
    c.in_default-value.ensures n h.small (c.split_at.ensures.front ∙ number_there c.args.piece.now c.args.text.now c.in-Some.text.now c.digits.result n rest c.in-Some.ensures c.digits.ensures.all c.digits.ensures.ends h)
