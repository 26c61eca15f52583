use Rattle.std.proofs.Common.{refl}
use Rattle.hop_script.proofs.TextLemmas.{words_of-some}
use Rattle.hop_script.proofs.turn.counted_turn.Goals as goal

pub returns-in-Some-clause-form : goal.returns-in-Some-clause-form
returns-in-Some-clause-form c =
    let third = words_of-some c.in-Some.field-0.1.now in
    rw (c.in-Some.ensures, third.2) refl
