use Rattle.std.proofs.Common.{◌≡◌, ℕ, ◌<◌, true, map}
use Rattle.hop_machine.specs.settling.Settling.{flag_at}
use Rattle.hop_settle.specs.Crews.{flags_of}
use Rattle.hop_settle.proofs.passes.all_ended.Given as goal

-- the mappers before w have ended
abbrev pub invariant-loop-w : goal.invariant-loop-w
invariant-loop-w g l = record { before : (k : ℕ) → k < l.w → flag_at (flags_of (map g.M.Store.mapper l.fn.mappers.items)) k ≡ true }
