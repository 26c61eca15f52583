use Rattle.std.proofs.Common.{◌∷◌, map, refl, sym, ap, subst}
use Rattle.hop_machine.specs.declared.words.Who.TheVariants as whose
use Rattle.hop_machine.specs.play.Play.{World, Order, TurnOf, CatchUp, CatchingUp, Listed}
use Rattle.hop_machine.proofs.play.Plays.{went_both}
use Rattle.hop_machine.proofs.play.Going.{listed-merger, listed-catch}
use Rattle.hop_settle.specs.Crews.{AreWell, world_of}
use Rattle.hop_settle.specs.Playing.{WentOn, order_of}
use Rattle.hop_settle.specs.Stops.{place_after}
use Rattle.hop_settle.proofs.PlayLaws.{went-on, went-merging, ok-any, well-kept}
use Rattle.hop_settle.proofs.playing.order.Goals as goal

pub returns-in-Mapper-clause-went : goal.returns-in-Mapper-clause-went
returns-in-Mapper-clause-went g c = λ later. let E = g.E.Reach in let f = g.M.Store.mapper in let h = g.D.Taker.reducer in let z = g.W.SnapshotWriter.writer in let a = E.deeds c.args.reach.now in let b = E.deeds c.order_mapper.new.reach in
    let r = c.order_mapper.result in
    let from : World = world_of (map f c.args.mappers.now.items) (map h c.args.reducers.now.items) (z c.args.writer.now) a in
    let to : World = world_of (map f c.order_mapper.new.mappers.items) (map h c.args.reducers.now.items) (z c.args.writer.now) b in
    subst (λ (o : Order). WentOn E.exact (Listed (o ∷ later), from) r (Listed later) to) (sym (ap order_of c.in-Mapper.is))
    (went-on E.exact (Listed (TurnOf (whose.Mapper c.in-Mapper.w) ∷ later), from) to r (Listed later) (c.order_mapper.ensures.went later (map h c.args.reducers.now.items) (z c.args.writer.now)))

pub returns-in-Reducer-clause-went : goal.returns-in-Reducer-clause-went
returns-in-Reducer-clause-went g c = λ later. let E = g.E.Reach in let f = g.M.Store.mapper in let h = g.D.Taker.reducer in let z = g.W.SnapshotWriter.writer in let a = E.deeds c.args.reach.now in let b = E.deeds c.order_reducer.new.reach in
    let r = c.order_reducer.result in
    let from : World = world_of (map f c.args.mappers.now.items) (map h c.args.reducers.now.items) (z c.args.writer.now) a in
    let to : World = world_of (map f c.args.mappers.now.items) (map h c.order_reducer.new.reducers.items) (z c.args.writer.now) b in
    subst (λ (o : Order). WentOn E.exact (Listed (o ∷ later), from) r (Listed later) to) (sym (ap order_of c.in-Reducer.is))
    (went-on E.exact (Listed (TurnOf (whose.Reducer c.in-Reducer.p) ∷ later), from) to r (Listed later) (c.order_reducer.ensures.went later (map f c.args.mappers.now.items) (z c.args.writer.now)))

pub returns-in-Merger-clause-went : goal.returns-in-Merger-clause-went
returns-in-Merger-clause-went g c = λ later. let E = g.E.Reach in let f = g.M.Store.mapper in let h = g.D.Taker.reducer in let z = g.W.SnapshotWriter.writer in let a = E.deeds c.args.reach.now in let b = E.deeds c.order_merger.new.reach in
    let r = c.order_merger.result in
    let from : World = world_of (map f c.args.mappers.now.items) (map h c.args.reducers.now.items) (z c.args.writer.now) a in
    let to : World = world_of (map f c.args.mappers.now.items) (map h c.args.reducers.now.items) (z c.args.writer.now) b in
    subst (λ (o : Order). WentOn E.exact (Listed (o ∷ later), from) r (Listed later) to) (sym (ap order_of c.in-Merger.is))
    (went-merging E.exact (Listed (TurnOf (whose.Merger c.in-Merger.j) ∷ later), from) to r (Listed later) c.order_merger.ensures.memory (listed-merger E.exact c.in-Merger.j later from to refl c.order_merger.ensures.learns))

pub returns-in-Writer-clause-went : goal.returns-in-Writer-clause-went
returns-in-Writer-clause-went g c = λ later. let E = g.E.Reach in let f = g.M.Store.mapper in let h = g.D.Taker.reducer in let z = g.W.SnapshotWriter.writer in let a = E.deeds c.args.reach.now in let b = E.deeds c.order_writer.new.reach in
    let r = c.order_writer.result in
    let from : World = world_of (map f c.args.mappers.now.items) (map h c.args.reducers.now.items) (z c.args.writer.now) a in
    let to : World = world_of (map f c.args.mappers.now.items) (map h c.args.reducers.now.items) (z c.order_writer.new.writer) b in
    subst (λ (o : Order). WentOn E.exact (Listed (o ∷ later), from) r (Listed later) to) (sym (ap order_of c.in-Writer.is))
    (went-on E.exact (Listed (TurnOf whose.Writer ∷ later), from) to r (Listed later) (c.order_writer.ensures.went later (map f c.args.mappers.now.items) (map h c.args.reducers.now.items)))

pub returns-in-CatchUp-clause-went : goal.returns-in-CatchUp-clause-went
returns-in-CatchUp-clause-went g c = λ later. let E = g.E.Reach in let f = g.M.Store.mapper in let h = g.D.Taker.reducer in let z = g.W.SnapshotWriter.writer in let a = E.deeds c.args.reach.now in let b = E.deeds c.catch_up.new.reach in
    let r = c.catch_up.result in
    let from : World = world_of (map f c.args.mappers.now.items) (map h c.args.reducers.now.items) (z c.args.writer.now) a in
    let to : World = world_of (map f c.catch_up.new.mappers.items) (map h c.catch_up.new.reducers.items) (z c.args.writer.now) b in
    subst (λ (o : Order). WentOn E.exact (Listed (o ∷ later), from) r (Listed later) to) (sym (ap order_of c.in-CatchUp.is))
    (went-on E.exact (Listed (CatchUp ∷ later), from) to r (Listed later) (went_both E.exact (Listed (CatchUp ∷ later), from) (CatchingUp 0 later, from) (place_after r (Listed later), to) (listed-catch E.exact later from) (c.catch_up.ensures.went later (z c.args.writer.now))))

pub returns-in-Mapper-clause-merging : goal.returns-in-Mapper-clause-merging
returns-in-Mapper-clause-merging g c = let E = g.E.Reach in let M = g.G.Actor in let a = E.deeds c.args.reach.now in let b = E.deeds c.order_mapper.new.reach in
    ok-any c.order_mapper.result (AreWell M.failed M.fits b.ends.board c.args.mergers.now.items) (well-kept M.failed M.fits c.args.mergers.now.items a b c.order_mapper.ensures.ends c.requires.mergers)

pub returns-in-Reducer-clause-merging : goal.returns-in-Reducer-clause-merging
returns-in-Reducer-clause-merging g c = let E = g.E.Reach in let M = g.G.Actor in let a = E.deeds c.args.reach.now in let b = E.deeds c.order_reducer.new.reach in
    ok-any c.order_reducer.result (AreWell M.failed M.fits b.ends.board c.args.mergers.now.items) (well-kept M.failed M.fits c.args.mergers.now.items a b c.order_reducer.ensures.ends c.requires.mergers)

pub returns-in-Writer-clause-merging : goal.returns-in-Writer-clause-merging
returns-in-Writer-clause-merging g c = let E = g.E.Reach in let M = g.G.Actor in let a = E.deeds c.args.reach.now in let b = E.deeds c.order_writer.new.reach in
    ok-any c.order_writer.result (AreWell M.failed M.fits b.ends.board c.args.mergers.now.items) (well-kept M.failed M.fits c.args.mergers.now.items a b c.order_writer.ensures.ends c.requires.mergers)

pub returns-in-CatchUp-clause-merging : goal.returns-in-CatchUp-clause-merging
returns-in-CatchUp-clause-merging g c = let E = g.E.Reach in let M = g.G.Actor in let a = E.deeds c.args.reach.now in let b = E.deeds c.catch_up.new.reach in
    ok-any c.catch_up.result (AreWell M.failed M.fits b.ends.board c.args.mergers.now.items) (well-kept M.failed M.fits c.args.mergers.now.items a b c.catch_up.ensures.ends c.requires.mergers)

pub returns-in-Reducer-clause-well : goal.returns-in-Reducer-clause-well
returns-in-Reducer-clause-well g c = let E = g.E.Reach in let M = g.M.Actor in let a = E.deeds c.args.reach.now in let b = E.deeds c.order_reducer.new.reach in
    ok-any c.order_reducer.result (AreWell M.failed M.fits b.ends.board c.args.mappers.now.items) (well-kept M.failed M.fits c.args.mappers.now.items a b c.order_reducer.ensures.ends c.requires.well)

pub returns-in-Merger-clause-well : goal.returns-in-Merger-clause-well
returns-in-Merger-clause-well g c = let E = g.E.Reach in let M = g.M.Actor in let a = E.deeds c.args.reach.now in let b = E.deeds c.order_merger.new.reach in
    ok-any c.order_merger.result (AreWell M.failed M.fits b.ends.board c.args.mappers.now.items) (well-kept M.failed M.fits c.args.mappers.now.items a b c.order_merger.ensures.ends c.requires.well)

pub returns-in-Writer-clause-well : goal.returns-in-Writer-clause-well
returns-in-Writer-clause-well g c = let E = g.E.Reach in let M = g.M.Actor in let a = E.deeds c.args.reach.now in let b = E.deeds c.order_writer.new.reach in
    ok-any c.order_writer.result (AreWell M.failed M.fits b.ends.board c.args.mappers.now.items) (well-kept M.failed M.fits c.args.mappers.now.items a b c.order_writer.ensures.ends c.requires.well)
