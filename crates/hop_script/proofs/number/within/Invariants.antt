use Rattle.std.proofs.Common.{◌≡◌, ◌≤◌, drop}
use Rattle.hop_script.specs.Number.{decimal_from, in_range}
use Rattle.hop_script.proofs.number.within.Given as goal

abbrev pub invariant-loop-digit : goal.invariant-loop-digit
invariant-loop-digit l =
    (in_range l.low l.high (decimal_from 0 l.digits) ≡ in_range l.low l.high (decimal_from l.value (drop l.digit-index l.digits))) × (l.value ≤ l.high)
