use Rattle.std.proofs.Common.{◌≡◌, take, map}
use Rattle.std.specs.Prelude.{All}
use Rattle.hop_cut.specs.declared.cut.Cut.{Cut}
use Rattle.hop_shelf.specs.Cuts.{IsCut}
use Rattle.hop_shelf.specs.Names.{pairs_of}
use Rattle.hop_shelf.proofs.shelf.Shelf.cuts.Given as goal

abbrev pub invariant-loop-mark : goal.invariant-loop-mark
invariant-loop-mark g l = record {
  marks : map (λ (c : Cut). c.mark) l.cuts ≡ take l.mark-index l.marks;
  cuts : All (IsCut g.N.RunName.tells g.N.RunName.job.reduced (pairs_of g.N.RunName.job g.N.RunName.records g.N.RunName.settings l.self.p) l.self.journal) l.cuts;
}
