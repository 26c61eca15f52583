use Rattle.std.proofs.Common.{◌≡◌, ℕ, ◌<◌, ◌∙◌, Bool, List, map, arith, sym, ap, subst, Option, slice_index}
use Rattle.hop_machine.specs.step.Steps.{Setup, Runs}
use Rattle.hop_machine.specs.actors.ReducerTurns.{Reducer, reads_winner, reads_upto}
use Rattle.hop_actors.specs.Acting.{MayCall}
use Rattle.hop_actors.specs.Calls.{found}
use Rattle.hop_settle.specs.Pulled.{MayPullAt}
use Rattle.hop_settle.proofs.SplitLaws.{none-lacks, rest-pulled, board_kept, may-upto, may-pull, read-homes, read-setup}
use Rattle.hop_settle.proofs.pulls.pull_winner.Goals as goal

pub returns-in_default-clause-well : goal.returns-in_default-clause-well
returns-in_default-clause-well g c =
    let E = g.E.Reach in let M = g.M.Actor in
    board_kept E.exact (reads_winner (g.D.Taker.reducer c.args.reducer.now) c.args.split) (E.deeds c.args.reach.now) (E.deeds c.winner.new.reach) c.winner.result c.winner.ensures.runs M.failed M.fits c.args.mappers.now.items c.requires.well

pub upto-from-requires : goal.upto-from-requires
upto-from-requires g c =
    let E = g.E.Reach in let f = g.D.Taker.reducer in let r = f c.args.reducer.now in let ms = map g.M.Store.mapper c.args.mappers.now.items in
    let a = E.deeds c.args.reach.now in let b = E.deeds c.winner.new.reach in
    record { may = subst (λ (q : Reducer). MayCall q b) (sym c.winner.ensures.same) (may-upto E.exact ms r c.args.split c.args.p c.requires.number a b c.requires.ends c.requires.lacks c.in-Some.attempt c.in-Some.ensures.runs) }

pub returns-then-from-to-clause-runs : goal.returns-then-from-to-clause-runs
returns-then-from-to-clause-runs g c =
    let E = g.E.Reach in let e = E.exact in let f = g.D.Taker.reducer in let r = f c.args.reducer.now in let ms = map g.M.Store.mapper c.args.mappers.now.items in
    let a = E.deeds c.args.reach.now in let b = E.deeds c.winner.new.reach in let d = E.deeds c.upto-from.new.reach in let i = c.args.split in let n = c.in-Some.attempt in
    let second : Runs e (reads_upto r i n) b c.upto-from.result d = subst (λ (q : Reducer). Runs e (reads_upto q i n) b c.upto-from.result d) c.winner.ensures.same c.upto-from.ensures.runs in
    let set = read-setup e ms r i c.args.p c.requires.number a b c.requires.ends c.requires.lacks n c.in-Some.ensures.runs c.upto-from.result d second in
    let to : c.len_of-to.result ≡ slice_index r.setup.lens i = c.len_of-to.ensures ∙ ap (λ (l : List ℕ). slice_index l i) (c.lens.ensures ∙ sym (ap (λ (s : Setup). s.lens) (set ∙ g.met.E.Reach.of_run c.upto-from.new.reach))) in
    none-lacks e i r a b n c.upto-from.result d c.in-Some.ensures.runs second c.len_of-to.result to (f c.upto-from.new.self) (c.upto-from.ensures.same ∙ c.winner.ensures.same) c.if-from-to.true

pub returns-then-from-to-clause-well : goal.returns-then-from-to-clause-well
returns-then-from-to-clause-well g c =
    let E = g.E.Reach in let M = g.M.Actor in let f = g.D.Taker.reducer in let b = E.deeds c.winner.new.reach in
    board_kept E.exact (reads_upto (f c.winner.new.self) c.args.split c.in-Some.attempt) b (E.deeds c.upto-from.new.reach) c.upto-from.result c.upto-from.ensures.runs M.failed M.fits c.args.mappers.now.items
    (board_kept E.exact (reads_winner (f c.args.reducer.now) c.args.split) (E.deeds c.args.reach.now) b c.winner.result c.winner.ensures.runs M.failed M.fits c.args.mappers.now.items c.requires.well)

pub pull_into-requires-clause-may : goal.pull_into-requires-clause-may
pull_into-requires-clause-may g c =
    let E = g.E.Reach in let e = E.exact in let f = g.D.Taker.reducer in let r = f c.args.reducer.now in let ms = map g.M.Store.mapper c.args.mappers.now.items in
    let a = E.deeds c.args.reach.now in let b = E.deeds c.winner.new.reach in let d = E.deeds c.upto-from.new.reach in let i = c.args.split in let n = c.in-Some.attempt in
    let second : Runs e (reads_upto r i n) b c.upto-from.result d = subst (λ (q : Reducer). Runs e (reads_upto q i n) b c.upto-from.result d) c.winner.ensures.same c.upto-from.ensures.runs in
    let to : c.len_of-to.result ≡ slice_index d.setup.lens i = c.len_of-to.ensures ∙ ap (λ (l : List ℕ). slice_index l i) (c.lens.ensures ∙ sym (ap (λ (s : Setup). s.lens) (g.met.E.Reach.of_run c.upto-from.new.reach))) in
    let less : c.upto-from.result < c.len_of-to.result = let t = c.if-from-to.false in omega (arith, t) in
    subst (λ (q : Reducer). MayPullAt c.args.p (record { split = i; attempt = n; from = c.upto-from.result; to = c.len_of-to.result }) q d) (sym (c.upto-from.ensures.same ∙ c.winner.ensures.same))
    (may-pull e ms r i c.args.p c.requires.number a b c.requires.ends c.requires.lacks n c.in-Some.ensures.runs c.upto-from.result d second c.len_of-to.result to less)

pub pull_into-requires-clause-mappers : goal.pull_into-requires-clause-mappers
pull_into-requires-clause-mappers g c =
    let E = g.E.Reach in let e = E.exact in let f = g.D.Taker.reducer in let r = f c.args.reducer.now in let ms = map g.M.Store.mapper c.args.mappers.now.items in
    let a = E.deeds c.args.reach.now in let b = E.deeds c.winner.new.reach in let d = E.deeds c.upto-from.new.reach in let i = c.args.split in let n = c.in-Some.attempt in
    let second : Runs e (reads_upto r i n) b c.upto-from.result d = subst (λ (q : Reducer). Runs e (reads_upto q i n) b c.upto-from.result d) c.winner.ensures.same c.upto-from.ensures.runs in
    read-homes e ms r i c.args.p c.requires.number a b c.requires.ends c.requires.lacks n c.in-Some.ensures.runs c.upto-from.result d second

pub pull_into-requires-clause-well : goal.pull_into-requires-clause-well
pull_into-requires-clause-well g c =
    let E = g.E.Reach in let M = g.M.Actor in let f = g.D.Taker.reducer in let b = E.deeds c.winner.new.reach in
    board_kept E.exact (reads_upto (f c.winner.new.self) c.args.split c.in-Some.attempt) b (E.deeds c.upto-from.new.reach) c.upto-from.result c.upto-from.ensures.runs M.failed M.fits c.args.mappers.now.items
    (board_kept E.exact (reads_winner (f c.args.reducer.now) c.args.split) (E.deeds c.args.reach.now) b c.winner.result c.winner.ensures.runs M.failed M.fits c.args.mappers.now.items c.requires.well)

pub returns-clause-runs : goal.returns-clause-runs
returns-clause-runs g c =
    let E = g.E.Reach in let e = E.exact in let f = g.D.Taker.reducer in let r = f c.args.reducer.now in let ms = map g.M.Store.mapper c.args.mappers.now.items in
    let a = E.deeds c.args.reach.now in let b = E.deeds c.winner.new.reach in let d = E.deeds c.upto-from.new.reach in let i = c.args.split in let n = c.in-Some.attempt in
    let second : Runs e (reads_upto r i n) b c.upto-from.result d = subst (λ (q : Reducer). Runs e (reads_upto q i n) b c.upto-from.result d) c.winner.ensures.same c.upto-from.ensures.runs in
    let set = read-setup e ms r i c.args.p c.requires.number a b c.requires.ends c.requires.lacks n c.in-Some.ensures.runs c.upto-from.result d second in
    let to : c.len_of-to.result ≡ slice_index r.setup.lens i = c.len_of-to.ensures ∙ ap (λ (l : List ℕ). slice_index l i) (c.lens.ensures ∙ sym (ap (λ (s : Setup). s.lens) (set ∙ g.met.E.Reach.of_run c.upto-from.new.reach))) in
    let less : c.upto-from.result < c.len_of-to.result = let t = c.if-from-to.false in omega (arith, t) in
    let y : Reducer × Option Bool = (f c.pull_into.new.reducer, found c.pull_into.result) in
    rest-pulled e i r a b n c.upto-from.result d c.in-Some.ensures.runs second c.len_of-to.result to (f c.upto-from.new.self) (E.deeds c.pull_into.new.reach) y (c.upto-from.ensures.same ∙ c.winner.ensures.same) less c.pull_into.ensures.runs
