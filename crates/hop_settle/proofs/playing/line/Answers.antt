use Rattle.std.proofs.Common.{◌≡◌, ◌+◌, ◌-◌, ◌^◌, ◌∷◌, [], List, map, Err, refl, ◌∙◌, subst, arith, rules}
use Rattle.hop_machine.specs.play.Play.{World, Place, Order, Went, Listed}
use Rattle.hop_machine.proofs.home.Here.{all_kept}
use Rattle.hop_machine.proofs.play.Plays.{went_self, went_both, went_same}
use Rattle.hop_machine.proofs.run.Places.{went_at_home}
use Rattle.hop_actors.specs.declared.fault.Fault.{Fault}
use Rattle.hop_settle.specs.Crews.{world_of}
use Rattle.hop_settle.specs.Playing.{order_of, repeated}
use Rattle.hop_settle.proofs.PlayLaws.{went-then, went-fault, turns-more, repeated-next, repeated-over}
use Rattle.hop_settle.proofs.playing.line.Goals as goal

pub loop-i-init : goal.loop-i-init
loop-i-init g c = let E = g.E.Reach in let f = g.M.Store.mapper in let h = g.D.Taker.reducer in let z = g.W.SnapshotWriter.writer in record {
  ends = refl;
  mappers = refl;
  reducers = refl;
  mergers = refl;
  well = c.requires.well;
  merges = c.requires.merges;
  merging = c.requires.mergers;
  writer = c.requires.writer;
  fits = c.requires.fits;
  turns = λ n below. turns-more n (n + 0) (map f c.args.mappers.now.items) (omega arith) below;
  counts = refl;
  put = refl;
  went = λ later.
      let a : World = world_of (map f c.args.mappers.now.items) (map h c.args.reducers.now.items) (z c.args.writer.now) (E.deeds c.args.reach.now) in
      let o = order_of c.args.turn.actor in let n = c.args.turn.count in
      let same : n ≡ n - 0 = omega arith in
      subst (λ k. Went E.exact (Listed (repeated n o later), a) (Listed (repeated k o later), a)) same (went_self E.exact (Listed (repeated n o later), a));
}

pub order-requires-clause-home : goal.order-requires-clause-home
order-requires-clause-home g c = let E = g.E.Reach in let f = g.M.Store.mapper in let h = g.D.Taker.reducer in let z = g.W.SnapshotWriter.writer in let l = c.loop-i in
    let a : World = world_of (map f c.args.mappers.now.items) (map h c.args.reducers.now.items) (z c.args.writer.now) (E.deeds c.args.reach.now) in
    let b : World = world_of (map f l.mappers.items) (map h l.reducers.items) (z l.writer) (E.deeds l.reach) in
    let o = order_of c.args.turn.actor in let n = c.args.turn.count in
    went_at_home E.exact (Listed (repeated n o []), a) (Listed (repeated (n - l.i) o []), b) (l.invariant.went []) c.requires.home

pub order-requires-clause-ends : goal.order-requires-clause-ends
order-requires-clause-ends g c = let E = g.E.Reach in let f = g.M.Store.mapper in let h = g.D.Taker.reducer in let z = g.W.SnapshotWriter.writer in let l = c.loop-i in
    let a : World = world_of (map f c.args.mappers.now.items) (map h c.args.reducers.now.items) (z c.args.writer.now) (E.deeds c.args.reach.now) in
    let b : World = world_of (map f l.mappers.items) (map h l.reducers.items) (z l.writer) (E.deeds l.reach) in
    let o = order_of c.args.turn.actor in let n = c.args.turn.count in
    all_kept a.deeds b.deeds (went_same E.exact (Listed (repeated n o []), a) (Listed (repeated (n - l.i) o []), b) (l.invariant.went [])) l.invariant.ends c.requires.ends

pub order-requires-clause-turns : goal.order-requires-clause-turns
order-requires-clause-turns g c = let f = g.M.Store.mapper in let l = c.loop-i in let n = c.args.turn.count in
    let few = c.requires.actor.few in let t = c.loop-i-test.true in
    turns-more ((2 ^ 56 - n) + l.i) (2 ^ 56) (map f l.mappers.items) (omega (arith, few, t)) (l.invariant.turns (2 ^ 56 - n) c.requires.turns)

pub returns-in_err-order-clause-went : goal.returns-in_err-order-clause-went
returns-in_err-order-clause-went g c = λ later. let E = g.E.Reach in let f = g.M.Store.mapper in let h = g.D.Taker.reducer in let z = g.W.SnapshotWriter.writer in let l = c.loop-i in let k = c.order in
    let a : World = world_of (map f c.args.mappers.now.items) (map h c.args.reducers.now.items) (z c.args.writer.now) (E.deeds c.args.reach.now) in
    let b : World = world_of (map f l.mappers.items) (map h l.reducers.items) (z l.writer) (E.deeds l.reach) in
    let d : World = world_of (map f k.new.mappers.items) (map h k.new.reducers.items) (z k.new.writer) (E.deeds k.new.reach) in
    let o = order_of c.args.turn.actor in let n = c.args.turn.count in
    let fault : Fault = c.in_err-order.field-0.0 in
    let is : Err fault ≡ c.from_residual.result = search rules in
    let rest : List Order = repeated (n - (l.i + 1)) o later in
    let start : Place = Listed (repeated n o later) in
    went-then E.exact (start, a) d (Listed (o ∷ rest), b) c.from_residual.result (Listed later)
    (subst (λ (os : List Order). Went E.exact (start, a) (Listed os, b)) (repeated-next o later n l.i c.loop-i-test.true) (l.invariant.went later))
    (went-fault E.exact (Listed (o ∷ rest), b) d c.from_residual.result fault (Listed rest) (Listed later) is (c.in_err-order.ensures.went rest))

pub returns-in_err-order-clause-turns : goal.returns-in_err-order-clause-turns
returns-in_err-order-clause-turns g c = λ n below. let f = g.M.Store.mapper in let l = c.loop-i in
    let t = c.loop-i-test.true in
    turns-more ((n + l.i) + 1) (n + c.args.turn.count) (map f c.order.new.mappers.items) (omega (arith, t)) (c.order.ensures.turns (n + l.i) (l.invariant.turns n below))

pub loop-i-preserved : goal.loop-i-preserved
loop-i-preserved g c = let E = g.E.Reach in let f = g.M.Store.mapper in let h = g.D.Taker.reducer in let z = g.W.SnapshotWriter.writer in let l = c.loop-i in let k = c.order in let s = c.in_ok-order.ensures in let i = l.invariant in
    record {
      ends = k.ensures.ends ∙ i.ends;
      mappers = k.ensures.mappers ∙ i.mappers;
      reducers = k.ensures.reducers ∙ i.reducers;
      mergers = k.ensures.mergers ∙ i.mergers;
      well = s.well;
      merges = k.ensures.merges;
      merging = s.merging;
      writer = s.writer;
      fits = k.ensures.fits;
      turns = λ n below. turns-more ((n + l.i) + 1) (n + (l.i + 1)) (map f k.new.mappers.items) (omega arith) (k.ensures.turns (n + l.i) (i.turns n below));
      counts = s.counts ∙ i.counts;
      put = s.put ∙ i.put;
      went = λ later.
          let a : World = world_of (map f c.args.mappers.now.items) (map h c.args.reducers.now.items) (z c.args.writer.now) (E.deeds c.args.reach.now) in
          let b : World = world_of (map f l.mappers.items) (map h l.reducers.items) (z l.writer) (E.deeds l.reach) in
          let d : World = world_of (map f k.new.mappers.items) (map h k.new.reducers.items) (z k.new.writer) (E.deeds k.new.reach) in
          let o = order_of c.args.turn.actor in let n = c.args.turn.count in
          let rest : List Order = repeated (n - (l.i + 1)) o later in
          let start : Place = Listed (repeated n o later) in
          went_both E.exact (start, a) (Listed (o ∷ rest), b) (Listed rest, d)
          (subst (λ (os : List Order). Went E.exact (start, a) (Listed os, b)) (repeated-next o later n l.i c.loop-i-test.true) (i.went later)) (s.went rest);
    }

pub returns-clause-turns : goal.returns-clause-turns
returns-clause-turns g c = λ n below. let f = g.M.Store.mapper in let l = c.loop-i in
    let t = l.auto.i-end in turns-more (n + l.i) (n + c.args.turn.count) (map f l.mappers.items) (omega (arith, t)) (l.invariant.turns n below)

pub returns-clause-went : goal.returns-clause-went
returns-clause-went g c = λ later. let E = g.E.Reach in let f = g.M.Store.mapper in let h = g.D.Taker.reducer in let z = g.W.SnapshotWriter.writer in let l = c.loop-i in
    let a : World = world_of (map f c.args.mappers.now.items) (map h c.args.reducers.now.items) (z c.args.writer.now) (E.deeds c.args.reach.now) in
    let b : World = world_of (map f l.mappers.items) (map h l.reducers.items) (z l.writer) (E.deeds l.reach) in
    let o = order_of c.args.turn.actor in let n = c.args.turn.count in
    subst (λ (os : List Order). Went E.exact (Listed (repeated n o later), a) (Listed os, b)) (repeated-over o later n l.i c.loop-i-test.false) (l.invariant.went later)
