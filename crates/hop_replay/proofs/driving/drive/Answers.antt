use Rattle.std.proofs.Common.{rules, ◌≡◌, ◌+◌, ◌-◌, ◌^◌, [], map, arith, sym, subst, Err}
use Rattle.hop_machine.specs.play.Play.{World, Place, Opening, Listed, Over}
use Rattle.hop_machine.proofs.home.Here.{all_kept}
use Rattle.hop_machine.proofs.play.Plays.{went_same}
use Rattle.hop_machine.proofs.run.Places.{went_at_home}
use Rattle.hop_actors.specs.declared.fault.Fault.{Fault}
use Rattle.hop_script.specs.TurnLines.{turn_count}
use Rattle.hop_settle.specs.Crews.{world_of, IsSized}
use Rattle.hop_settle.specs.Playing.{orders_of}
use Rattle.hop_settle.proofs.PlayLaws.{turns-more, went-on, went-then}
use Rattle.hop_replay.proofs.GoingOn.{ran-on, ended-so, stopped-so}
use Rattle.hop_replay.proofs.driving.drive.Goals as goal

pub play-requires-clause-turns : goal.play-requires-clause-turns
play-requires-clause-turns g c =
    let few = c.turns-lines.ensures.few in
    turns-more 1 (2 ^ 56 - turn_count c.args.turns.now) (map g.M.Store.mapper c.args.mappers.now.items) (omega (arith, few)) c.requires.turns

pub returns-in_err-play-clause-stopped : goal.returns-in_err-play-clause-stopped
returns-in_err-play-clause-stopped g c =
    let E = g.E.Reach in let e = E.exact in let k = g.M.Store.mapper in let f = g.D.Taker.reducer in let z = g.W.SnapshotWriter.writer in let n = c.play in
    let A : World = world_of (map k c.args.mappers.now.items) (map f c.args.reducers.now.items) (z c.args.writer.now) (E.deeds c.args.reach.now) in
    let B : World = world_of (map k n.new.mappers.items) (map f n.new.reducers.items) (z n.new.writer) (E.deeds n.new.reach) in
    let fault : Fault = c.in_err-play.field-0.0 in
    let is : Err fault ≡ c.from_residual.result = search rules in
    let start : Place = Opening 0 (orders_of c.args.turns.now) in
    ended-so e (start, A) B (Listed []) c.from_residual.result fault is c.in_err-play.ensures.went

pub settle-requires-clause-home : goal.settle-requires-clause-home
settle-requires-clause-home g c =
    let E = g.E.Reach in let e = E.exact in let k = g.M.Store.mapper in let f = g.D.Taker.reducer in let z = g.W.SnapshotWriter.writer in let n = c.play in
    let A : World = world_of (map k c.args.mappers.now.items) (map f c.args.reducers.now.items) (z c.args.writer.now) (E.deeds c.args.reach.now) in
    let B : World = world_of (map k n.new.mappers.items) (map f n.new.reducers.items) (z n.new.writer) (E.deeds n.new.reach) in
    went_at_home e (Opening 0 (orders_of c.args.turns.now), A) (Listed [], B) c.in_ok-play.ensures.went c.requires.home

pub settle-requires-clause-ends : goal.settle-requires-clause-ends
settle-requires-clause-ends g c =
    let E = g.E.Reach in let e = E.exact in let k = g.M.Store.mapper in let f = g.D.Taker.reducer in let z = g.W.SnapshotWriter.writer in let n = c.play in
    let A : World = world_of (map k c.args.mappers.now.items) (map f c.args.reducers.now.items) (z c.args.writer.now) (E.deeds c.args.reach.now) in
    let B : World = world_of (map k n.new.mappers.items) (map f n.new.reducers.items) (z n.new.writer) (E.deeds n.new.reach) in
    all_kept A.deeds B.deeds (went_same e (Opening 0 (orders_of c.args.turns.now), A) (Listed [], B) c.in_ok-play.ensures.went) n.ensures.ends c.requires.ends

pub settle-requires-clause-turns : goal.settle-requires-clause-turns
settle-requires-clause-turns g c =
    let few = c.turns-lines.ensures.few in
    turns-more (1 + turn_count c.args.turns.now) (2 ^ 55) (map g.M.Store.mapper c.play.new.mappers.items) (omega (arith, few)) (c.play.ensures.turns 1 c.requires.turns)

pub settle-requires-clause-sized : goal.settle-requires-clause-sized
settle-requires-clause-sized g c =
    let E = g.E.Reach in let e = E.exact in let k = g.M.Store.mapper in let f = g.D.Taker.reducer in let z = g.W.SnapshotWriter.writer in let n = c.play in
    let A : World = world_of (map k c.args.mappers.now.items) (map f c.args.reducers.now.items) (z c.args.writer.now) (E.deeds c.args.reach.now) in
    let B : World = world_of (map k n.new.mappers.items) (map f n.new.reducers.items) (z n.new.writer) (E.deeds n.new.reach) in
    subst IsSized (sym (went_same e (Opening 0 (orders_of c.args.turns.now), A) (Listed [], B) c.in_ok-play.ensures.went)) c.requires.sized

pub returns-in_err-settle-clause-stopped : goal.returns-in_err-settle-clause-stopped
returns-in_err-settle-clause-stopped g c =
    let E = g.E.Reach in let e = E.exact in let k = g.M.Store.mapper in let f = g.D.Taker.reducer in let z = g.W.SnapshotWriter.writer in let n = c.play in let m = c.settle in
    let A : World = world_of (map k c.args.mappers.now.items) (map f c.args.reducers.now.items) (z c.args.writer.now) (E.deeds c.args.reach.now) in
    let B : World = world_of (map k n.new.mappers.items) (map f n.new.reducers.items) (z n.new.writer) (E.deeds n.new.reach) in
    let D : World = world_of (map k m.new.mappers.items) (map f m.new.reducers.items) (z m.new.writer) (E.deeds m.new.reach) in
    let fault : Fault = c.in_err-settle.field-0.0 in
    let is : Err fault ≡ c.from_residual-in_err-settle.result = search rules in
    let start : Place = Opening 0 (orders_of c.args.turns.now) in
    ended-so e (start, A) D Over c.from_residual-in_err-settle.result fault is
    (went-then e (start, A) D (Listed [], B) (Err fault) Over c.in_ok-play.ensures.went (went-on e (Listed [], B) D (Err fault) Over c.in_err-settle.ensures.went))

pub returns-in_err-settle-clause-cause : goal.returns-in_err-settle-clause-cause
returns-in_err-settle-clause-cause g c =
    let k = g.M.Actor.counts in let z = g.W.Actor.counts in let n = c.play in let m = c.settle in
    let fault : Fault = c.in_err-settle.field-0.0 in
    let is : Err fault ≡ c.from_residual-in_err-settle.result = search rules in
    stopped-so g.N.RunName.job g.N.RunName.records g.N.RunName.script g.N.RunName.settings (map k n.new.mappers.items) (map k c.args.mappers.now.items) (map k m.new.mappers.items) (z n.new.writer) (z c.args.writer.now) (z m.new.writer) c.from_residual-in_err-settle.result fault
    c.in_ok-play.ensures.counts c.in_ok-play.ensures.put is c.in_err-settle.ensures.cause

pub returns-clause-ran : goal.returns-clause-ran
returns-clause-ran g c =
    let E = g.E.Reach in let e = E.exact in let k = g.M.Store.mapper in let f = g.D.Taker.reducer in let z = g.W.SnapshotWriter.writer in let n = c.play in let m = c.settle in
    let A : World = world_of (map k c.args.mappers.now.items) (map f c.args.reducers.now.items) (z c.args.writer.now) (E.deeds c.args.reach.now) in
    let B : World = world_of (map k n.new.mappers.items) (map f n.new.reducers.items) (z n.new.writer) (E.deeds n.new.reach) in
    let D : World = world_of (map k m.new.mappers.items) (map f m.new.reducers.items) (z m.new.writer) (E.deeds m.new.reach) in
    ran-on e (Opening 0 (orders_of c.args.turns.now)) (Listed []) A B D c.requires.home c.in_ok-play.ensures.went c.in_ok-settle.ensures.ran
