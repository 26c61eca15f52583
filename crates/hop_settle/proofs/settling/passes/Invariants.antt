use Rattle.std.proofs.Common.{◌≡◌, ℕ, ◌<◌, ◌≤◌, ◌+◌, ◌^◌, false, length, map, cond}
use Rattle.hop_machine.specs.actors.ReducerTurns.{Writer}
use Rattle.hop_machine.specs.play.Play.{Went, Passing}
use Rattle.hop_machine.specs.settling.Settling.{HasRoom, pass_left}
use Rattle.hop_settle.specs.Crews.{world_of, flags_of, AreWell, TurnsBelow}
use Rattle.hop_settle.proofs.settling.passes.Given as goal

-- The run went on to the next pass; behind the first, all lanes are empty. There are turns for all that is left.
abbrev pub invariant-loop-mappers : goal.invariant-loop-mappers
invariant-loop-mappers g l = let E = g.E.Reach in let M = g.M.Actor in let f = g.M.Store.mapper in let h = g.D.Taker.reducer in let ms = map f l.mappers.items in record {
  count : (length l.mappers.items ≡ length l.fn.mappers.items) × (length l.reducers.items ≡ length l.fn.reducers.items);
  ends : (E.deeds l.reach).ends ≡ (E.deeds l.fn.reach).ends;
  well : AreWell M.failed M.fits (E.deeds l.reach).ends.board l.mappers.items;
  counts : map M.counts l.mappers.items ≡ map M.counts l.fn.mappers.items;
  turns : (n : ℕ) × TurnsBelow n ms × (n + pass_left ms (flags_of ms) (E.deeds l.reach) + cond l.first 1 0 ≤ 2 ^ 56);
  room : l.first ≡ false → (w : ℕ) → w < length l.mappers.items → HasRoom w (E.deeds l.reach);
  went : (x : Writer) → Went E.exact (Passing (flags_of (map f l.fn.mappers.items)), world_of (map f l.fn.mappers.items) (map h l.fn.reducers.items) x (E.deeds l.fn.reach)) (Passing (flags_of ms), world_of ms (map h l.reducers.items) x (E.deeds l.reach));
}

-- what is left for the mappers; before the first pass their lanes may be full
abbrev pub decreases-loop-mappers : goal.decreases-loop-mappers
decreases-loop-mappers g l = let ms = map g.M.Store.mapper l.mappers.items in pass_left ms (flags_of ms) (g.E.Reach.deeds l.reach) + cond l.first 1 0
