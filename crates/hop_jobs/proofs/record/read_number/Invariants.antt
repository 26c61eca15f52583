use Rattle.std.proofs.Common.{◌≡◌, ◌<◌, ◌^◌, true, take}
use Rattle.std.specs.List.{list_all}
use Rattle.hop_jobs.specs.Numbered.{spelled, is_digit}
use Rattle.hop_jobs.proofs.record.read_number.Given as goal

abbrev pub invariant-loop-digit : goal.invariant-loop-digit
invariant-loop-digit l = record {
  small : l.n < 2 ^ 64;
  digits : list_all is_digit (take l.digit-index l.digits) ≡ true;
  spells : l.n ≡ spelled 0 (take l.digit-index l.digits);
}
