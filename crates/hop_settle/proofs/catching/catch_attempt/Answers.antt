use Rattle.std.proofs.Common.{◌≡◌, ◌<◌, ℕ, true, false, map, Some, sym, ◌∙◌, subst, arith}
use Rattle.std.proofs.lemmas.Bool.{le-ltb}
use Rattle.hop_machine.specs.step.Steps.{Runs}
use Rattle.hop_machine.specs.actors.ReducerTurns.{Reducer, reads_wants, reads_upto}
use Rattle.hop_machine.specs.play.Play.{kept_by, pull, rows_of_split}
use Rattle.hop_actors.specs.Acting.{MayCall}
use Rattle.hop_actors.specs.Calls.{found}
use Rattle.hop_settle.specs.CaughtUp.{row_of, pull_each}
use Rattle.hop_settle.specs.Pulled.{MayPullAt}
use Rattle.hop_settle.proofs.PullLaws.{well-over}
use Rattle.hop_settle.proofs.RowLaws.{row-unwanted, row-there, row-lacks, each-one, each-none, catch-call, catch-wants, catch-upto, catch-pull}
use Rattle.hop_settle.proofs.catching.catch_attempt.Goals as goal

pub returns-then-end-eq0-clause-runs : goal.returns-then-end-eq0-clause-runs
returns-then-end-eq0-clause-runs g c = let E = g.E.Reach in let ms = map g.M.Store.mapper c.args.mappers.now.items in
    each-none E.exact ms c.args.split c.args.attempt (g.D.Taker.reducer c.args.reducer.now) (E.deeds c.args.reach.now) (sym c.keeper_of-end.ensures.end ∙ c.if-end-eq0.true)

pub wants-requires : goal.wants-requires
wants-requires g c = record { may = catch-call (map g.M.Store.mapper c.args.mappers.now.items) c.args.p (g.D.Taker.reducer c.args.reducer.now) (g.E.Reach.deeds c.args.reach.now) c.requires.may }

pub returns-then-not-wants-clause-runs : goal.returns-then-not-wants-clause-runs
returns-then-not-wants-clause-runs g c = let E = g.E.Reach in let ms = map g.M.Store.mapper c.args.mappers.now.items in
    let r = g.D.Taker.reducer c.args.reducer.now in let a = E.deeds c.args.reach.now in let b = E.deeds c.wants.new.reach in
    let some : 0 < kept_by ms c.args.split c.args.attempt = (let e = c.keeper_of-end.ensures.end in let n = c.if-end-eq0.false in omega (arith, e, n)) in
    subst (λ (y : Reducer). Runs E.exact (pull_each (rows_of_split ms c.args.split c.args.attempt 1) r) a (y, Some false) b) (sym c.if-not-wants.ensures.same)
    (each-one E.exact ms c.args.split c.args.attempt r a b r (Some false) some (row-unwanted E.exact r (row_of ms c.args.split c.args.attempt) a b c.if-not-wants.ensures.runs))

pub returns-then-not-wants-clause-well : goal.returns-then-not-wants-clause-well
returns-then-not-wants-clause-well g c = let E = g.E.Reach in let M = g.M.Actor in let r = g.D.Taker.reducer c.args.reducer.now in
    well-over M.failed M.fits c.args.mappers.now.items E.exact (reads_wants r c.args.split c.args.attempt) false (E.deeds c.args.reach.now) (E.deeds c.wants.new.reach) c.if-not-wants.ensures.runs c.requires.well

pub upto-from-requires : goal.upto-from-requires
upto-from-requires g c = let E = g.E.Reach in let ms = map g.M.Store.mapper c.args.mappers.now.items in
    let r = g.D.Taker.reducer c.args.reducer.now in let a = E.deeds c.args.reach.now in let b = E.deeds c.wants.new.reach in
    record { may = subst (λ (y : Reducer). MayCall y b) (sym c.if-not-wants.ensures.same) (catch-call ms c.args.p r b (catch-wants E.exact ms c.args.p r c.args.split c.args.attempt a b c.requires.may true c.if-not-wants.ensures.runs)) }

pub returns-then-from-end-clause-runs : goal.returns-then-from-end-clause-runs
returns-then-from-end-clause-runs g c = let E = g.E.Reach in let ms = map g.M.Store.mapper c.args.mappers.now.items in
    let r = g.D.Taker.reducer c.args.reducer.now in let a = E.deeds c.args.reach.now in let m = E.deeds c.wants.new.reach in let b = E.deeds c.upto-from.new.reach in
    let i = c.args.split in let n = c.args.attempt in
    let some : 0 < kept_by ms i n = (let e = c.keeper_of-end.ensures.end in let no = c.if-end-eq0.false in omega (arith, e, no)) in
    let was = c.if-not-wants.ensures.same in
    let up : Runs E.exact (reads_upto r i n) m c.upto-from.result b = subst (λ (y : Reducer). Runs E.exact (reads_upto y i n) m c.upto-from.result b) was c.upto-from.ensures.runs in
    let there = le-ltb c.upto-from.result (kept_by ms i n) (let e = c.keeper_of-end.ensures.end in let no = c.if-from-end.true in omega (arith, e, no)) in
    subst (λ (y : Reducer). Runs E.exact (pull_each (rows_of_split ms i n 1) r) a (y, Some false) b) (sym (c.upto-from.ensures.same ∙ was))
    (each-one E.exact ms i n r a b r (Some false) some (row-there E.exact r (row_of ms i n) a m c.upto-from.result b c.if-not-wants.ensures.runs up there))

pub returns-then-from-end-clause-well : goal.returns-then-from-end-clause-well
returns-then-from-end-clause-well g c = let E = g.E.Reach in let M = g.M.Actor in let r = g.D.Taker.reducer c.args.reducer.now in
    let m = E.deeds c.wants.new.reach in let b = E.deeds c.upto-from.new.reach in
    well-over M.failed M.fits c.args.mappers.now.items E.exact (reads_upto (g.D.Taker.reducer c.wants.new.self) c.args.split c.args.attempt) c.upto-from.result m b c.upto-from.ensures.runs
    (well-over M.failed M.fits c.args.mappers.now.items E.exact (reads_wants r c.args.split c.args.attempt) true (E.deeds c.args.reach.now) m c.if-not-wants.ensures.runs c.requires.well)

pub pull_into-requires-clause-may : goal.pull_into-requires-clause-may
pull_into-requires-clause-may g c = let E = g.E.Reach in let ms = map g.M.Store.mapper c.args.mappers.now.items in
    let r = g.D.Taker.reducer c.args.reducer.now in let a = E.deeds c.args.reach.now in let m = E.deeds c.wants.new.reach in let b = E.deeds c.upto-from.new.reach in
    let i = c.args.split in let n = c.args.attempt in
    let was = c.if-not-wants.ensures.same in
    let up : Runs E.exact (reads_upto r i n) m c.upto-from.result b = subst (λ (y : Reducer). Runs E.exact (reads_upto y i n) m c.upto-from.result b) was c.upto-from.ensures.runs in
    let less : c.upto-from.result < kept_by ms i n = (let e = c.keeper_of-end.ensures.end in let no = c.if-from-end.false in omega (arith, e, no)) in
    let same : r ≡ g.D.Taker.reducer c.upto-from.new.self = sym (c.upto-from.ensures.same ∙ was) in
    let end : kept_by ms i n ≡ c.keeper_of-end.result.end = sym c.keeper_of-end.ensures.end in
    subst (λ (z : Reducer × ℕ). MayPullAt c.args.p (record { split = i; attempt = n; from = c.upto-from.result; to = z.1 }) z.0 b) (λ t. (same t, end t))
    (catch-pull E.exact ms c.args.p r i n c.upto-from.result a m b c.requires.may c.if-not-wants.ensures.runs up less)

pub pull_into-requires-clause-mappers : goal.pull_into-requires-clause-mappers
pull_into-requires-clause-mappers g c = let E = g.E.Reach in let ms = map g.M.Store.mapper c.args.mappers.now.items in
    let r = g.D.Taker.reducer c.args.reducer.now in let a = E.deeds c.args.reach.now in let m = E.deeds c.wants.new.reach in let b = E.deeds c.upto-from.new.reach in
    let i = c.args.split in let n = c.args.attempt in
    let up : Runs E.exact (reads_upto r i n) m c.upto-from.result b = subst (λ (y : Reducer). Runs E.exact (reads_upto y i n) m c.upto-from.result b) c.if-not-wants.ensures.same c.upto-from.ensures.runs in
    (catch-upto E.exact ms c.args.p r i n m b (catch-wants E.exact ms c.args.p r i n a m c.requires.may true c.if-not-wants.ensures.runs) c.upto-from.result up).lags.mappers

pub pull_into-requires-clause-well : goal.pull_into-requires-clause-well
pull_into-requires-clause-well g c = let E = g.E.Reach in let M = g.M.Actor in let r = g.D.Taker.reducer c.args.reducer.now in
    let m = E.deeds c.wants.new.reach in let b = E.deeds c.upto-from.new.reach in
    well-over M.failed M.fits c.args.mappers.now.items E.exact (reads_upto (g.D.Taker.reducer c.wants.new.self) c.args.split c.args.attempt) c.upto-from.result m b c.upto-from.ensures.runs
    (well-over M.failed M.fits c.args.mappers.now.items E.exact (reads_wants r c.args.split c.args.attempt) true (E.deeds c.args.reach.now) m c.if-not-wants.ensures.runs c.requires.well)

pub returns-clause-runs : goal.returns-clause-runs
returns-clause-runs g c = let E = g.E.Reach in let f = g.D.Taker.reducer in let ms = map g.M.Store.mapper c.args.mappers.now.items in
    let r = f c.args.reducer.now in let a = E.deeds c.args.reach.now in let m = E.deeds c.wants.new.reach in let d = E.deeds c.upto-from.new.reach in let b = E.deeds c.pull_into.new.reach in
    let i = c.args.split in let n = c.args.attempt in let from = c.upto-from.result in
    let y = f c.pull_into.new.reducer in let t = found c.pull_into.result in
    let some : 0 < kept_by ms i n = (let e = c.keeper_of-end.ensures.end in let no = c.if-end-eq0.false in omega (arith, e, no)) in
    let was = c.if-not-wants.ensures.same in
    let up : Runs E.exact (reads_upto r i n) m from d = subst (λ (y : Reducer). Runs E.exact (reads_upto y i n) m from d) was c.upto-from.ensures.runs in
    let less : from < kept_by ms i n = (let e = c.keeper_of-end.ensures.end in let no = c.if-from-end.false in omega (arith, e, no)) in
    let same : f c.upto-from.new.self ≡ r = c.upto-from.ensures.same ∙ was in
    let end : c.keeper_of-end.result.end ≡ kept_by ms i n = c.keeper_of-end.ensures.end in
    each-one E.exact ms i n r a b y t some
    (row-lacks E.exact r (row_of ms i n) a m from d b (y, t) c.if-not-wants.ensures.runs up less
    (subst (λ (z : Reducer × ℕ). Runs E.exact (pull (record { split = i; attempt = n; from = from; to = z.1 }) z.0) d (y, t) b) (λ j. (same j, end j)) c.pull_into.ensures.runs))
