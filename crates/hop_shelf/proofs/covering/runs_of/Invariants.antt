use Rattle.std.proofs.Common.{◌≡◌, take, map}
use Rattle.std.specs.Prelude.{filter}
use Rattle.hop_shelf.specs.declared.kept.Kept.{Kept}
use Rattle.hop_shelf.specs.Covered.{covers_in}
use Rattle.hop_shelf.proofs.covering.runs_of.Given as goal

abbrev pub invariant-loop-one : goal.invariant-loop-one
invariant-loop-one l = l.runs.items ≡ map (λ (k : Kept). k.run) (filter (λ (k : Kept). covers_in l.declarations k.owner) (take l.one-index l.kept))
