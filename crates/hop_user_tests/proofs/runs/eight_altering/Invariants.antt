use Rattle.std.proofs.Common.{◌≡◌, ◌+◌, vec_len}
use Rattle.hop_user_tests.proofs.runs.eight_altering.Given as goal

abbrev pub invariant-loop : goal.invariant-loop
invariant-loop l = vec_len l.spills ≡ l.counter + 1
