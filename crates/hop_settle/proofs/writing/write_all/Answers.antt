use Rattle.std.proofs.Common.{rules, ◌≡◌, ◌<◌, ◌∙◌, Bool, refl, sym, subst, cond, Err}
use Rattle.hop_machine.specs.play.Play.{World, Place, Writing, Over, Went}
use Rattle.hop_machine.specs.settling.Settling.{cuts_left}
use Rattle.hop_machine.proofs.play.Plays.{went_self, went_both, went_same}
use Rattle.hop_machine.proofs.run.Ending.{went_pulling}
use Rattle.hop_machine.proofs.home.Here.{writer_kept}
use Rattle.hop_actors.specs.Acting.{said_turn}
use Rattle.hop_actors.specs.declared.fault.Fault.{Fault}
use Rattle.hop_settle.specs.Crews.{world_of}
use Rattle.hop_settle.specs.Stops.{place_after}
use Rattle.hop_settle.proofs.DrainLaws.{idle_is, goes_on, smaller}
use Rattle.hop_settle.proofs.WriteLaws.{write-halts, write-ends, write-went, may-write, still-writes, on_ok, counts_on}
use Rattle.hop_settle.proofs.writing.write_all.Goals as goal

pub loop-idle-init : goal.loop-idle-init
loop-idle-init g c = let E = g.E.Reach in record {
  ends = refl;
  well = c.requires.well;
  fits = c.requires.fits;
  counts = refl;
  went = λ ms rs. went_self E.exact (Writing, world_of ms rs (g.W.SnapshotWriter.writer c.args.writer.now) (E.deeds c.args.reach.now));
}

pub write_turn-requires-clause-may : goal.write_turn-requires-clause-may
write_turn-requires-clause-may g c =
    let E = g.E.Reach in let e = E.exact in let f = g.W.SnapshotWriter.writer in let l = c.loop-idle in let h = c.requires.home in
    let a = E.deeds c.args.reach.now in let b = E.deeds l.reach in
    let A : World = world_of h.0 h.1 (f c.args.writer.now) a in let B : World = world_of h.0 h.1 (f l.writer) b in
    let w = still-writes e l.idle c.loop-idle-test.true A B (l.invariant.went h.0 h.1) in
    may-write h.0 h.1 (f l.writer) b (went_pulling e (Writing, A) (Writing, B) w h.2) (writer_kept a b (went_same e (Writing, A) (Writing, B) w) l.invariant.ends c.requires.ends)

pub returns-in_err-idle-clause-went : goal.returns-in_err-idle-clause-went
returns-in_err-idle-clause-went g c = λ ms rs.
    let E = g.E.Reach in let e = E.exact in let f = g.W.SnapshotWriter.writer in let l = c.loop-idle in let n = c.write_turn in let W = g.W.Actor in
    let a = E.deeds c.args.reach.now in let b = E.deeds l.reach in let d = E.deeds n.new.reach in
    let A : World = world_of ms rs (f c.args.writer.now) a in let B : World = world_of ms rs (f l.writer) b in let D : World = world_of ms rs (f n.new.writer) d in
    let fault : Fault = c.in_err-idle.field-0.0 in
    let go : Place = Over in
    let place : place_after {A = Unit {0}} (Err fault) go ≡ place_after c.from_residual.result go = search rules in
    went_both e (Writing, A) (Writing, B) (place_after c.from_residual.result go, D) (still-writes e l.idle c.loop-idle-test.true A B (l.invariant.went ms rs))
    (subst (λ (q : Place). Went e (Writing, B) (q, D))
    (write-halts g.N.RunName.job g.N.RunName.records g.N.RunName.script g.N.RunName.settings n.result fault (W.acting l.writer) (f l.writer) (W.counts l.writer) (W.counts n.new.writer) (sym c.was_idle.ensures ∙ c.in_err-idle.was) (g.met.W.SnapshotWriter.is_writer l.writer) n.ensures.cause go Writing ∙ place)
    (write-went e (f l.writer) (f n.new.writer) b d (said_turn n.result) n.ensures.runs ms rs))

pub returns-in_err-idle-clause-ends : goal.returns-in_err-idle-clause-ends
returns-in_err-idle-clause-ends g c =
    let E = g.E.Reach in let f = g.W.SnapshotWriter.writer in let l = c.loop-idle in let n = c.write_turn in
    write-ends E.exact (f l.writer) (f n.new.writer) (E.deeds l.reach) (E.deeds n.new.reach) (said_turn n.result) n.ensures.runs ∙ l.invariant.ends

pub loop-idle-smaller : goal.loop-idle-smaller
loop-idle-smaller g c =
    let E = g.E.Reach in let e = E.exact in let f = g.W.SnapshotWriter.writer in let l = c.loop-idle in let n = c.write_turn in let h = c.requires.home in
    let a = E.deeds c.args.reach.now in let b = E.deeds l.reach in let d = E.deeds n.new.reach in
    let A : World = world_of h.0 h.1 (f c.args.writer.now) a in let B : World = world_of h.0 h.1 (f l.writer) b in
    let home = went_pulling e (Writing, A) (Writing, B) (still-writes e l.idle c.loop-idle-test.true A B (l.invariant.went h.0 h.1)) h.2 in
    let of_run = c.writer_stays.ensures.of_run (f l.writer) b home.ends.home.writer in
    let falls = c.writer_ends.ensures.falls e (f l.writer) b d (f n.new.writer, said_turn n.result) of_run n.ensures.runs in
    smaller c.in_ok-idle.idle l.idle (cuts_left d.setup d.did.cut_ins) (cuts_left b.setup b.did.cut_ins) c.loop-idle-test.true
    (λ off. goes_on n.result c.in_ok-idle.idle (cuts_left d.setup d.did.cut_ins < cuts_left b.setup b.did.cut_ins) (sym c.was_idle.ensures ∙ c.in_ok-idle.was) off falls)

pub loop-idle-preserved : goal.loop-idle-preserved
loop-idle-preserved g c =
    let E = g.E.Reach in let e = E.exact in let f = g.W.SnapshotWriter.writer in let l = c.loop-idle in let n = c.write_turn in let i = l.invariant in
    let a = E.deeds c.args.reach.now in let b = E.deeds l.reach in let d = E.deeds n.new.reach in
    let is = idle_is n.result c.in_ok-idle.idle (sym c.was_idle.ensures ∙ c.in_ok-idle.was) in
    let on = on_ok n.result c.in_ok-idle.idle (sym c.was_idle.ensures ∙ c.in_ok-idle.was) in
    let W = g.W.Actor in
    record {
      ends = write-ends e (f l.writer) (f n.new.writer) b d (said_turn n.result) n.ensures.runs ∙ i.ends;
      well = n.ensures.well on;
      fits = n.ensures.fits;
      counts = counts_on g.N.RunName.job g.N.RunName.records g.N.RunName.script g.N.RunName.settings n.result c.in_ok-idle.idle (W.acting l.writer) (W.counts l.writer) (W.counts n.new.writer) (sym c.was_idle.ensures ∙ c.in_ok-idle.was) n.ensures.cause ∙ i.counts;
      went = λ ms rs.
          let A : World = world_of ms rs (f c.args.writer.now) a in let B : World = world_of ms rs (f l.writer) b in let D : World = world_of ms rs (f n.new.writer) d in
          went_both e (Writing, A) (Writing, B) (cond c.in_ok-idle.idle Over Writing, D) (still-writes e l.idle c.loop-idle-test.true A B (i.went ms rs))
          (subst (λ (q : Place). Went e (Writing, B) (q, D)) (is.1 Over Writing) (write-went e (f l.writer) (f n.new.writer) b d (said_turn n.result) n.ensures.runs ms rs));
    }

pub returns-clause-went : goal.returns-clause-went
returns-clause-went g c = λ ms rs.
    let E = g.E.Reach in let f = g.W.SnapshotWriter.writer in let l = c.loop-idle in
    subst (λ (t : Bool). Went E.exact (Writing, world_of ms rs (f c.args.writer.now) (E.deeds c.args.reach.now)) (cond t Over Writing, world_of ms rs (f l.writer) (E.deeds l.reach))) c.loop-idle-test.false (l.invariant.went ms rs)
