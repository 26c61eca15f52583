use Rattle.std.proofs.Common.{◌≡◌, ℕ, ◌≤◌, map}
use Rattle.hop_finish.specs.Left.{numbered_history, recorded_of}
use Rattle.hop_finish.proofs.shelves.take_shelves.Given as goal

abbrev pub invariant-loop-p : goal.invariant-loop-p
invariant-loop-p g l = record {
  ends : (g.E.Reach.deeds l.reach).ends ≡ (g.E.Reach.deeds l.initial.reach).ends;
  later : (q : ℕ) → l.p ≤ q → (g.E.Reach.deeds l.reach).did.keeps q ≡ (g.E.Reach.deeds l.initial.reach).did.keeps q;
  told : map numbered_history l.shelves.items ≡ recorded_of (g.E.Reach.deeds l.initial.reach) l.p;
}
