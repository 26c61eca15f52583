use Rattle.std.proofs.Common.{◌≡◌, take}
use Rattle.std.specs.Prelude.{filter}
use Rattle.hop_shelf.specs.Kept.{all_parts, is_owners}
use Rattle.hop_shelf.proofs.merging.parts_of_owner.Given as goal

abbrev pub invariant-loop-one : goal.invariant-loop-one
invariant-loop-one l = l.parts.items ≡ all_parts (filter (is_owners l.owner) (take l.one-index l.kept))
