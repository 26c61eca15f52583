use Rattle.std.proofs.Common.{◌≡◌, length, map, take}
use Rattle.std.specs.Prelude.{IsTrue}
use Rattle.hop_laws.specs.Blocking.{blocking}
use Rattle.hop_finish.proofs.shelves.part_texts.Given as goal

abbrev pub invariant-loop-shelf : goal.invariant-loop-shelf
invariant-loop-shelf g l = record {
  count : length l.texts ≡ l.shelf-index;
  told : IsTrue g.N.RunName.tells → l.texts ≡ map (λ s. blocking g.N.RunName.job g.N.RunName.records s.p g.N.RunName.settings.reducers) (take l.shelf-index l.shelves);
}
