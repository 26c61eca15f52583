use Rattle.std.proofs.Common.{get_or, refl, sym, arith}
use Rattle.std.specs.Char.{is_ascii_digit}
use Rattle.hop_cut.proofs.NumberLaws.{front_step}
use Rattle.hop_cut.proofs.numbers.digits.Goals as goal

pub loop-n-preserved : goal.loop-n-preserved
loop-n-preserved c = record {
  within = omega arith;
  all = front_step is_ascii_digit c.args.text.now c.loop-n.n (get_or c.args.text.now c.loop-n.n 0) c.loop-n-test.true refl c.loop-n.invariant.all (sym c.if-is_ascii_digit.ensures.value);
}
