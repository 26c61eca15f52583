-- Parts of a mapper's turn that the machine has no name for.
use Rattle.std.specs.Prelude.{ℕ}
use Rattle.hop_machine.specs.step.Steps.{Prog, Then, Commit}
use Rattle.hop_machine.specs.actors.MapperTurns.{Running, revoke_lost}

-- an attempt commits, and is revoked if it lost
abbrev pub settles : ℕ → Running → Prog (Unit {0})
settles w r = Then (Commit w r.split r.attempt) (λ v. revoke_lost w r v)
