use Rattle.std.proofs.Common.{◌≡◌, ◌+◌, false, List, cond}
use Rattle.hop_machine.specs.actors.MapperTurns.{Mapper}
use Rattle.hop_machine.specs.actors.ReducerTurns.{Reducer}
use Rattle.hop_machine.specs.play.Play.{Went, Writing, Over}
use Rattle.hop_machine.specs.settling.Settling.{cuts_left}
use Rattle.hop_settle.specs.Crews.{world_of}
use Rattle.hop_settle.proofs.writing.write_all.Given as goal

-- the run went to where the writer has a turn more, or is over
abbrev pub invariant-loop-idle : goal.invariant-loop-idle
invariant-loop-idle g l = let E = g.E.Reach in let W = g.W.Actor in let f = g.W.SnapshotWriter.writer in record {
  ends : (E.deeds l.reach).ends ≡ (E.deeds l.fn.reach).ends;
  well : W.failed l.writer ≡ false;
  fits : W.fits l.writer (E.deeds l.reach).ends.board;
  counts : W.counts l.writer ≡ W.counts l.fn.writer;
  went : (ms : List Mapper) (rs : List Reducer) → Went E.exact (Writing, world_of ms rs (f l.fn.writer) (E.deeds l.fn.reach)) (cond l.idle Over Writing, world_of ms rs (f l.writer) (E.deeds l.reach));
}

abbrev pub decreases-loop-idle : goal.decreases-loop-idle
decreases-loop-idle g l = let d = g.E.Reach.deeds l.reach in cond l.idle 0 (cuts_left d.setup d.did.cut_ins + 1)
