use Rattle.std.proofs.Common.{◌≡◌, true, ap, ◌∙◌, sym, arith}
use Rattle.hop_words.specs.Numbers.{is_number}
use Rattle.hop_words.proofs.NumberLaws.{unread_none}
use Rattle.hop_words.proofs.numbers.number_between.Goals as goal

pub returns-in-Err : goal.returns-in-Err
returns-in-Err c =
    let read = rw c.in-Err.is at c.parse.ensures.value.0 in
    let is : is_number c.args.text.now ≡ true = sym (c.is_number.ensures ∙ ap is_number c.as_bytes.ensures.value) ∙ c.if-not-is_number.false in
    unread_none c.args.least c.args.most c.args.text.now c.in-Err.field-0 read is (omega (arith, c.ranges.most.fits))
