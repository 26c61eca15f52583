use Rattle.std.proofs.Common.{◌≡◌}
use Rattle.hop_machine.specs.actors.MapperTurns.{is_full}
use Rattle.hop_mapper.proofs.scripted.is_full.Given as goal

-- the bits from here on stand in the mask
abbrev pub invariant-loop-a : goal.invariant-loop-a
invariant-loop-a l = is_full l.attempts l.mask ≡ is_full l.a l.mask
