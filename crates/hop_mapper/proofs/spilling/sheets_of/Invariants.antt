use Rattle.std.proofs.Common.{◌≡◌, take, map}
use Rattle.hop_run.specs.Runs.{RunValue}
use Rattle.hop_mapper.proofs.spilling.sheets_of.Given as goal

-- the sheets so far are those of the first runs
abbrev pub invariant-loop-run : goal.invariant-loop-run
invariant-loop-run l = l.sheets ≡ map (λ (run : RunValue). run.sheet) (take l.run-index l.run-items)
