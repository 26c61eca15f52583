use Rattle.std.proofs.Common.{◌+◌, length, sym, ◌∙◌, arith}
use Rattle.std.proofs.lemmas.Bool.{eqb-false}
use Rattle.hop_jobs.proofs.Reading.{too_great, spelled_more, digits_more, number_read}
use Rattle.hop_jobs.proofs.record.read_number.Goals as goal

pub returns-in_err-by_ten : goal.returns-in_err-by_ten
returns-in_err-by_ten c = c.from_residual.ensures ∙ sym (too_great c.args.digits.now (c.loop-digit.digit-index + 1) (omega (arith, spelled_more c.args.digits.now c.loop-digit.digit-index c.loop-digit-test.true, c.loop-digit.invariant.spells, c.in_err-by_ten.ensures)))

pub returns-in_err-n : goal.returns-in_err-n
returns-in_err-n c = c.from_residual-in_err-n.ensures ∙ sym (too_great c.args.digits.now (c.loop-digit.digit-index + 1) (omega (arith, spelled_more c.args.digits.now c.loop-digit.digit-index c.loop-digit-test.true, c.loop-digit.invariant.spells, c.in_ok-by_ten.ensures, c.from.ensures, c.in_err-n.ensures)))

pub loop-digit-preserved : goal.loop-digit-preserved
loop-digit-preserved c = record {
  small = omega (arith, c.in_ok-n.ensures);
  digits = digits_more c.args.digits.now c.loop-digit.digit-index c.loop-digit-test.true c.loop-digit.invariant.digits (omega arith) (omega arith);
  spells = omega (arith, spelled_more c.args.digits.now c.loop-digit.digit-index c.loop-digit-test.true, c.loop-digit.invariant.spells, c.in_ok-by_ten.ensures, c.from.ensures, c.in_ok-n.ensures);
}

pub returns : goal.returns
returns c = number_read c.args.digits.now c.loop-digit.n c.loop-digit.digit-index (omega (arith, eqb-false (length c.args.digits.now) 0 (sym c.is_empty.ensures ∙ c.if-is_empty.false))) (omega arith) c.loop-digit-test.false c.loop-digit.invariant.digits c.loop-digit.invariant.spells (omega arith)
