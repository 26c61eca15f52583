use Rattle.std.proofs.Common.{◌≡◌, ℕ, List, length, map}
use Rattle.hop_machine.specs.actors.ReducerTurns.{Reducer, Writer}
use Rattle.hop_machine.specs.play.Play.{Went, Mapping}
use Rattle.hop_machine.specs.settling.Settling.{PassFell}
use Rattle.hop_settle.specs.Crews.{world_of, flags_of, AreWell, TurnsFrom}
use Rattle.hop_settle.proofs.passes.map_all.Given as goal

-- the mappers before w had their turn
abbrev pub invariant-loop-w : goal.invariant-loop-w
invariant-loop-w g l = let E = g.E.Reach in let M = g.M in let f = g.M.Store.mapper in record {
  count : length l.mappers.items ≡ length l.fn.mappers.items;
  ends : (E.deeds l.reach).ends ≡ (E.deeds l.fn.reach).ends;
  well : AreWell M.Actor.failed M.Actor.fits (E.deeds l.reach).ends.board l.mappers.items;
  turns : (n : ℕ) → TurnsFrom 0 n (map f l.fn.mappers.items) → TurnsFrom l.w n (map f l.mappers.items);
  counts : map M.Actor.counts l.mappers.items ≡ map M.Actor.counts l.fn.mappers.items;
  fell : let ms = map f l.fn.mappers.items in PassFell l.w ms (flags_of ms) (E.deeds l.fn.reach) (map f l.mappers.items) (flags_of (map f l.mappers.items)) (E.deeds l.reach);
  went : (rs : List Reducer) (x : Writer) → Went E.exact (Mapping 0 (flags_of (map f l.fn.mappers.items)), world_of (map f l.fn.mappers.items) rs x (E.deeds l.fn.reach)) (Mapping l.w (flags_of (map f l.mappers.items)), world_of (map f l.mappers.items) rs x (E.deeds l.reach));
}
