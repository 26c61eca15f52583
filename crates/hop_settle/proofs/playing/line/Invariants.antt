use Rattle.std.proofs.Common.{◌≡◌, ℕ, ◌+◌, ◌-◌, false, List, length, map}
use Rattle.hop_machine.specs.play.Play.{Order, Listed, Went}
use Rattle.hop_settle.specs.Crews.{AreWell, TurnsBelow, world_of}
use Rattle.hop_settle.specs.Playing.{AreMergers, order_of, repeated}
use Rattle.hop_settle.proofs.playing.line.Given as goal

-- so many of the line's turns were taken
abbrev pub invariant-loop-i : goal.invariant-loop-i
invariant-loop-i g l = let E = g.E.Reach in let M = g.M.Actor in let G = g.G.Actor in let W = g.W.Actor in let f = g.M.Store.mapper in let h = g.D.Taker.reducer in let z = g.W.SnapshotWriter.writer in record {
  ends : (E.deeds l.reach).ends ≡ (E.deeds l.fn.reach).ends;
  mappers : length l.mappers.items ≡ length l.fn.mappers.items;
  reducers : length l.reducers.items ≡ length l.fn.reducers.items;
  mergers : length l.mergers.items ≡ length l.fn.mergers.items;
  well : AreWell M.failed M.fits (E.deeds l.reach).ends.board l.mappers.items;
  merges : AreMergers G.acting l.mergers.items;
  merging : AreWell G.failed G.fits (E.deeds l.reach).ends.board l.mergers.items;
  writer : W.failed l.writer ≡ false;
  fits : W.fits l.writer (E.deeds l.reach).ends.board;
  turns : (n : ℕ) → TurnsBelow n (map f l.fn.mappers.items) → TurnsBelow (n + l.i) (map f l.mappers.items);
  counts : map M.counts l.mappers.items ≡ map M.counts l.fn.mappers.items;
  put : W.counts l.writer ≡ W.counts l.fn.writer;
  went : (later : List Order) → Went E.exact (Listed (repeated l.fn.turn.count (order_of l.fn.turn.actor) later), world_of (map f l.fn.mappers.items) (map h l.fn.reducers.items) (z l.fn.writer) (E.deeds l.fn.reach))
      (Listed (repeated (l.fn.turn.count - l.i) (order_of l.fn.turn.actor) later), world_of (map f l.mappers.items) (map h l.reducers.items) (z l.writer) (E.deeds l.reach));
}
