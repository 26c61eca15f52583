use Rattle.std.proofs.Common.{refl}
use Rattle.hop_script.proofs.TextLemmas.{words_of-some}
use Rattle.hop_script.proofs.text.two_words.Goals as goal

pub returns-in-Some : goal.returns-in-Some
returns-in-Some c =
    let third = words_of-some c.in-Some.field-0.1.now in
    rw (c.in_ok-first.ensures, c.in-Some.ensures, third.2) refl
