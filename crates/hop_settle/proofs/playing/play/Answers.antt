use Rattle.std.proofs.Common.{◌≡◌, ◌+◌, ◌-◌, ◌^◌, [], List, map, drop, get_or, Err, refl, sym, ap, ◌∙◌, subst, arith, rules}
use Rattle.hop_script.specs.TurnLines.{turn_count}
use Rattle.hop_script.specs.declared.turn.Turn.{Turn as Line}
use Rattle.hop_script.specs.declared.turn.TurnOf.TheVariants as line
use Rattle.hop_machine.specs.step.Steps.{Ends}
use Rattle.hop_machine.specs.play.Play.{World, Place, Order, Went, Opening, Listed}
use Rattle.hop_machine.proofs.home.Here.{all_kept}
use Rattle.hop_machine.proofs.play.Plays.{went_both, went_same}
use Rattle.hop_machine.proofs.run.Places.{went_at_home}
use Rattle.hop_actors.specs.declared.fault.Fault.{Fault}
use Rattle.hop_settle.specs.Crews.{world_of}
use Rattle.hop_settle.specs.Playing.{order_of, orders_of, repeated}
use Rattle.hop_settle.proofs.PlayLaws.{went-on, went-then, went-fault, turns-more, well-kept, count-next, orders-next}
use Rattle.hop_settle.proofs.playing.play.Goals as goal

pub returns-in_err-open-clause-went : goal.returns-in_err-open-clause-went
returns-in_err-open-clause-went g c = let E = g.E.Reach in let f = g.M.Store.mapper in let h = g.D.Taker.reducer in let z = g.W.SnapshotWriter.writer in
    let list = orders_of c.args.turns.now in let ms = map f c.args.mappers.now.items in let x = z c.args.writer.now in
    let a : World = world_of ms (map h c.args.reducers.now.items) x (E.deeds c.args.reach.now) in
    let d : World = world_of ms (map h c.open.new.reducers.items) x (E.deeds c.open.new.reach) in
    let fault : Fault = c.in_err-open.field-0.0 in
    let is : Err fault ≡ c.from_residual.result = search rules in
    let start : Place = Opening 0 list in
    went-fault E.exact (start, a) d c.from_residual.result fault (Listed list) (Listed []) is (went-on E.exact (start, a) d (Err fault) (Listed list) (c.in_err-open.ensures.went list ms x))

pub loop-turn-init : goal.loop-turn-init
loop-turn-init g c = let E = g.E.Reach in let f = g.M.Store.mapper in let h = g.D.Taker.reducer in let z = g.W.SnapshotWriter.writer in let M = g.M.Actor in let G = g.G.Actor in let W = g.W.Actor in
    let a = E.deeds c.args.reach.now in let b = E.deeds c.open.new.reach in let items = c.turns-turn-items.result.now in let k = c.open.ensures in
    record {
      ends = k.ends;
      mappers = refl;
      reducers = k.count;
      mergers = refl;
      well = well-kept M.failed M.fits c.args.mappers.now.items a b k.ends c.requires.well;
      merges = c.requires.merges;
      merging = well-kept G.failed G.fits c.args.mergers.now.items a b k.ends c.requires.mergers;
      writer = c.requires.writer;
      fits = subst (λ (d : Ends). W.fits c.args.writer.now d.board) (sym k.ends) c.requires.fits;
      left = omega arith;
      turns = λ n below. turns-more n (n + (turn_count items - turn_count items)) (map f c.args.mappers.now.items) (omega arith) below;
      counts = refl;
      put = refl;
      went = c.in_ok-open.ensures.went (orders_of items) (map f c.args.mappers.now.items) (z c.args.writer.now);
    }

pub line-requires-clause-home : goal.line-requires-clause-home
line-requires-clause-home g c = let E = g.E.Reach in let f = g.M.Store.mapper in let h = g.D.Taker.reducer in let z = g.W.SnapshotWriter.writer in let l = c.loop-turn in let items = c.turns-turn-items.result.now in
    let a : World = world_of (map f c.args.mappers.now.items) (map h c.args.reducers.now.items) (z c.args.writer.now) (E.deeds c.args.reach.now) in
    let b : World = world_of (map f l.mappers.items) (map h l.reducers.items) (z l.writer) (E.deeds l.reach) in
    went_at_home E.exact (Opening 0 (orders_of items), a) (Listed (orders_of (drop l.turn-index items)), b) l.invariant.went c.requires.home

pub line-requires-clause-ends : goal.line-requires-clause-ends
line-requires-clause-ends g c = let E = g.E.Reach in let f = g.M.Store.mapper in let h = g.D.Taker.reducer in let z = g.W.SnapshotWriter.writer in let l = c.loop-turn in let items = c.turns-turn-items.result.now in
    let a : World = world_of (map f c.args.mappers.now.items) (map h c.args.reducers.now.items) (z c.args.writer.now) (E.deeds c.args.reach.now) in
    let b : World = world_of (map f l.mappers.items) (map h l.reducers.items) (z l.writer) (E.deeds l.reach) in
    all_kept a.deeds b.deeds (went_same E.exact (Opening 0 (orders_of items), a) (Listed (orders_of (drop l.turn-index items)), b) l.invariant.went) l.invariant.ends c.requires.ends

-- what stands where no line does
abbrev no_line : Line
no_line = record { actor = line.Mapper 0; count = 0 }

pub line-requires-clause-turns : goal.line-requires-clause-turns
line-requires-clause-turns g c = let f = g.M.Store.mapper in let l = c.loop-turn in let items = c.turns-turn-items.result.now in let k = c.turns-turn-items.ensures in
    let all = ap turn_count k.value in let few = k.few in let left = l.invariant.left in
    let next = count-next items l.turn-index no_line c.loop-turn-test.true in
    turns-more ((2 ^ 56 - turn_count c.args.turns.now) + (turn_count items - turn_count (drop l.turn-index items))) (2 ^ 56 - (get_or items l.turn-index no_line).count) (map f l.mappers.items) (omega (arith, all, few, left, next))
    (l.invariant.turns (2 ^ 56 - turn_count c.args.turns.now) c.requires.turns)

pub returns-in_err-line-clause-went : goal.returns-in_err-line-clause-went
returns-in_err-line-clause-went g c = let E = g.E.Reach in let f = g.M.Store.mapper in let h = g.D.Taker.reducer in let z = g.W.SnapshotWriter.writer in let l = c.loop-turn in let items = c.turns-turn-items.result.now in let k = c.line in
    let a : World = world_of (map f c.args.mappers.now.items) (map h c.args.reducers.now.items) (z c.args.writer.now) (E.deeds c.args.reach.now) in
    let b : World = world_of (map f l.mappers.items) (map h l.reducers.items) (z l.writer) (E.deeds l.reach) in
    let d : World = world_of (map f k.new.mappers.items) (map h k.new.reducers.items) (z k.new.writer) (E.deeds k.new.reach) in
    let fault : Fault = c.in_err-line.field-0.0 in
    let is : Err fault ≡ c.from_residual-in_err-line.result = search rules in
    let later : List Order = orders_of (drop (l.turn-index + 1) items) in
    let t : Line = get_or items l.turn-index no_line in
    let at : Place = Listed (repeated t.count (order_of t.actor) later) in
    let start : Place = Opening 0 (orders_of c.args.turns.now) in
    let value = c.turns-turn-items.ensures.value in
    went-then E.exact (start, a) d (at, b) c.from_residual-in_err-line.result (Listed [])
    (subst (λ (x : List Line × List Order). Went E.exact (Opening 0 (orders_of x.0), a) (Listed x.1, b)) (λ i. (value i, orders-next items l.turn-index no_line c.loop-turn-test.true i)) l.invariant.went)
    (went-fault E.exact (at, b) d c.from_residual-in_err-line.result fault (Listed later) (Listed []) is (c.in_err-line.ensures.went later))

pub returns-in_err-line-clause-turns : goal.returns-in_err-line-clause-turns
returns-in_err-line-clause-turns g c = λ n below. let f = g.M.Store.mapper in let l = c.loop-turn in let items = c.turns-turn-items.result.now in
    let all = ap turn_count c.turns-turn-items.ensures.value in let left = l.invariant.left in
    let next = count-next items l.turn-index no_line c.loop-turn-test.true in
    turns-more ((n + (turn_count items - turn_count (drop l.turn-index items))) + (get_or items l.turn-index no_line).count) (n + turn_count c.args.turns.now) (map f c.line.new.mappers.items) (omega (arith, all, left, next))
    (c.line.ensures.turns (n + (turn_count items - turn_count (drop l.turn-index items))) (l.invariant.turns n below))

pub loop-turn-preserved : goal.loop-turn-preserved
loop-turn-preserved g c = let E = g.E.Reach in let f = g.M.Store.mapper in let h = g.D.Taker.reducer in let z = g.W.SnapshotWriter.writer in let l = c.loop-turn in let items = c.turns-turn-items.result.now in let k = c.line in let s = c.in_ok-line.ensures in let i = l.invariant in
    let next = count-next items l.turn-index no_line c.loop-turn-test.true in let left = l.invariant.left in
    record {
      ends = k.ensures.ends ∙ i.ends;
      mappers = k.ensures.mappers ∙ i.mappers;
      reducers = k.ensures.reducers ∙ i.reducers;
      mergers = k.ensures.mergers ∙ i.mergers;
      well = s.well;
      merges = k.ensures.merges;
      merging = s.merging;
      writer = s.writer;
      fits = k.ensures.fits;
      left = omega (arith, next, left);
      turns = λ n below.
          turns-more ((n + (turn_count items - turn_count (drop l.turn-index items))) + (get_or items l.turn-index no_line).count) (n + (turn_count items - turn_count (drop (l.turn-index + 1) items))) (map f k.new.mappers.items) (omega (arith, left, next))
          (k.ensures.turns (n + (turn_count items - turn_count (drop l.turn-index items))) (i.turns n below));
      counts = s.counts ∙ i.counts;
      put = s.put ∙ i.put;
      went =
          let a : World = world_of (map f c.args.mappers.now.items) (map h c.args.reducers.now.items) (z c.args.writer.now) (E.deeds c.args.reach.now) in
          let b : World = world_of (map f l.mappers.items) (map h l.reducers.items) (z l.writer) (E.deeds l.reach) in
          let d : World = world_of (map f k.new.mappers.items) (map h k.new.reducers.items) (z k.new.writer) (E.deeds k.new.reach) in
          let later : List Order = orders_of (drop (l.turn-index + 1) items) in
          let t : Line = get_or items l.turn-index no_line in
          let at : Place = Listed (repeated t.count (order_of t.actor) later) in
          went_both E.exact (Opening 0 (orders_of items), a) (at, b) (Listed later, d)
          (subst (λ (x : List Order). Went E.exact (Opening 0 (orders_of items), a) (Listed x, b)) (orders-next items l.turn-index no_line c.loop-turn-test.true) i.went) (s.went later);
    }

pub returns-clause-turns : goal.returns-clause-turns
returns-clause-turns g c = λ n below. let f = g.M.Store.mapper in let l = c.loop-turn in let items = c.turns-turn-items.result.now in
    let all = ap turn_count c.turns-turn-items.ensures.value in
    turns-more (n + (turn_count items - turn_count (drop l.turn-index items))) (n + turn_count c.args.turns.now) (map f l.mappers.items) (omega (arith, all)) (l.invariant.turns n below)
