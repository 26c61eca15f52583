use Rattle.std.proofs.Common.{◌≡◌, ◌++◌, take, drop, map}
use Rattle.hop_cover.specs.Rows.{cleared_try}
use Rattle.hop_cover.proofs.row.clear_tries.Given as goal

abbrev pub invariant-loop-attempt : goal.invariant-loop-attempt
invariant-loop-attempt l = l.tries ≡ map cleared_try (take l.attempt-index l.fn.tries) ++ drop l.attempt-index l.fn.tries
