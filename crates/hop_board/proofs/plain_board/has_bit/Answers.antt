use Rattle.std.proofs.Common.{◌≡◌, ◌<◌, ◌≤◌, ◌/◌, ◌%◌, ◌^◌, ◌==◌, ap, sym, arith}
use Rattle.std.proofs.Math.Nat.{div-eq_of_lt}
use Rattle.std.proofs.Math.Pow.{pow_mono}
use Rattle.hop_board.proofs.plain_board.has_bit.Goals as goal

pub returns-then-attempt-ge16 : goal.returns-then-attempt-ge16
returns-then-attempt-ge16 c =
    let m = c.args.mask in let a = c.args.attempt in let most = c.if-attempt-ge16.true in let fits : m < 2 ^ 16 = c.ranges.mask.fits in
    let few : 2 ^ 16 ≤ 2 ^ a = pow_mono {i = 16} {j = a} (omega (arith, most)) in
    let none : m / 2 ^ a ≡ 0 = div-eq_of_lt (omega (arith, few, fits)) in
    sym (ap (λ k. k % 2 == 1) none)
