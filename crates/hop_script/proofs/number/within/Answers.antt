use Rattle.std.proofs.Common.{◌≡◌, ◌+◌, ◌-◌, ◌*◌, suc, drop, get_or, refl, sym, ap, ◌∙◌, drop-cons}
use Rattle.hop_script.specs.Number.{decimal_from, in_range}
use Rattle.hop_script.proofs.NumberLemmas.{too_great}
use Rattle.hop_script.proofs.number.within.Goals as goal

pub returns-then-value-high-clause-form : goal.returns-then-value-high-clause-form
returns-then-value-high-clause-form c =
    let digits = c.args.digits.now in
    let i = c.loop-digit.digit-index in
    let value = c.loop-digit.value * 10 + (get_or digits i 0 - 48) in
    let step : decimal_from c.loop-digit.value (drop i digits) ≡ decimal_from value (drop (suc i) digits) = rw (drop-cons digits i 0 c.loop-digit-test.true, ← c.if-not-is_ascii_digit.ensures.value) refl in
    sym (c.loop-digit.invariant.0 ∙ ap (in_range c.args.low c.args.high) step ∙ too_great c.args.low c.args.high value (drop (suc i) digits) c.if-value-high.true)
