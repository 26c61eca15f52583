use Rattle.std.proofs.Common.{◌≡◌, map, take}
use Rattle.hop_laws.specs.Entries.{pairs_in}
use Rattle.hop_laws.proofs.groups_in.load.Given as goal

abbrev pub invariant-loop-entry : goal.invariant-loop-entry
invariant-loop-entry l = l.vals.items ≡ map (λ p. p.val) (pairs_in l.arena (take l.entry-index l.group))
