use Rattle.std.proofs.Common.{sym, ◌∙◌}
use Rattle.std.proofs.lemmas.Bool.{true≢false}
use Rattle.hop_cut.proofs.NumberLaws.{begins_with, bytes_equal}
use Rattle.hop_cut.proofs.numbers.after.Goals as goal

pub returns-else-eq : goal.returns-else-eq
returns-else-eq c = λ rest e.
    let same = c.split_at.ensures.front ∙ begins_with c.args.piece.now c.args.text.now rest e in
    true≢false (sym (bytes_equal c.split_at.result.0.now c.args.piece.now same) ∙ sym c.eq.ensures ∙ c.if-eq.false)
