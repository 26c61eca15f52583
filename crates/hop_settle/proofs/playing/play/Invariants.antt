use Rattle.std.proofs.Common.{◌≡◌, ◌≤◌, ℕ, ◌+◌, ◌-◌, false, length, map, drop}
use Rattle.hop_script.specs.TurnLines.{turn_count}
use Rattle.hop_machine.specs.play.Play.{Opening, Listed, Went}
use Rattle.hop_settle.specs.Crews.{AreWell, TurnsBelow, world_of}
use Rattle.hop_settle.specs.Playing.{AreMergers, orders_of}
use Rattle.hop_settle.proofs.playing.play.Given as goal

-- the lines before this one are done
abbrev pub invariant-loop-turn : goal.invariant-loop-turn
invariant-loop-turn g l = let E = g.E.Reach in let M = g.M.Actor in let G = g.G.Actor in let W = g.W.Actor in let f = g.M.Store.mapper in let h = g.D.Taker.reducer in let z = g.W.SnapshotWriter.writer in record {
  ends : (E.deeds l.reach).ends ≡ (E.deeds l.fn.reach).ends;
  mappers : length l.mappers.items ≡ length l.fn.mappers.items;
  reducers : length l.reducers.items ≡ length l.fn.reducers.items;
  mergers : length l.mergers.items ≡ length l.fn.mergers.items;
  well : AreWell M.failed M.fits (E.deeds l.reach).ends.board l.mappers.items;
  merges : AreMergers G.acting l.mergers.items;
  merging : AreWell G.failed G.fits (E.deeds l.reach).ends.board l.mergers.items;
  writer : W.failed l.writer ≡ false;
  fits : W.fits l.writer (E.deeds l.reach).ends.board;
  left : turn_count (drop l.turn-index l.turn-items) ≤ turn_count l.turn-items;
  turns : (n : ℕ) → TurnsBelow n (map f l.fn.mappers.items) → TurnsBelow (n + (turn_count l.turn-items - turn_count (drop l.turn-index l.turn-items))) (map f l.mappers.items);
  counts : map M.counts l.mappers.items ≡ map M.counts l.fn.mappers.items;
  put : W.counts l.writer ≡ W.counts l.fn.writer;
  went : Went E.exact (Opening 0 (orders_of l.turn-items), world_of (map f l.fn.mappers.items) (map h l.fn.reducers.items) (z l.fn.writer) (E.deeds l.fn.reach))
      (Listed (orders_of (drop l.turn-index l.turn-items)), world_of (map f l.mappers.items) (map h l.reducers.items) (z l.writer) (E.deeds l.reach));
}
