use Rattle.std.proofs.Common.{◌≡◌, Bool, true, false, List, map, Option, Some, None, sym, ap, ◌∙◌, subst, arith}
use Rattle.hop_machine.specs.step.Steps.{Runs}
use Rattle.hop_machine.specs.play.Play.{Row, rows_of_split}
use Rattle.hop_actors.specs.Calls.{found}
use Rattle.hop_settle.specs.CaughtUp.{pull_each}
use Rattle.hop_settle.proofs.Results.{found-none}
use Rattle.hop_settle.proofs.RowLaws.{attempts-on, attempts-end, catch-on, setup-on, all-attempts, not-none, not-true}
use Rattle.hop_settle.proofs.catching.catch_split.Goals as goal

pub returns-in_err-catch_attempt-clause-runs : goal.returns-in_err-catch_attempt-clause-runs
returns-in_err-catch_attempt-clause-runs g c = let E = g.E.Reach in let f = g.M.Store.mapper in let h = g.D.Taker.reducer in
    let ms = map f c.args.mappers.now.items in let l = c.loop-attempt in let i = c.args.split in
    let n = c.begun_of-attempt-end in let a = E.deeds c.args.reach.now in let b = E.deeds c.catch_attempt.new.reach in
    let r = h c.args.reducer.now in let y = h c.catch_attempt.new.reducer in let t = found c.from_residual.result in
    let none : t ≡ None = found-none c.from_residual.result c.from_residual.ensures.0 in
    let run : Runs E.exact (pull_each (rows_of_split (map f l.mappers.items) i l.attempt 1) (h l.reducer)) (E.deeds l.reach) (y, t) b =
    subst (λ (o : Option Bool). Runs E.exact (pull_each (rows_of_split (map f l.mappers.items) i l.attempt 1) (h l.reducer)) (E.deeds l.reach) (y, o) b) (sym none) c.in_err-catch_attempt.ensures.runs in
    subst (λ (rows : List Row). Runs E.exact (pull_each rows r) a (y, t) b) (sym (all-attempts ms i n.result a c.requires.may.lags.mappers n.ensures.most n.ensures.least))
    (attempts-end E.exact ms (map f l.mappers.items) l.invariant.same r (h l.reducer) a (E.deeds l.reach) b y i l.attempt l.invariant.runs n.result t c.loop-attempt-test.true (not-none none) run)

pub returns-then-branch-clause-runs : goal.returns-then-branch-clause-runs
returns-then-branch-clause-runs g c = let E = g.E.Reach in let f = g.M.Store.mapper in let h = g.D.Taker.reducer in
    let ms = map f c.args.mappers.now.items in let l = c.loop-attempt in let i = c.args.split in
    let n = c.begun_of-attempt-end in let a = E.deeds c.args.reach.now in let b = E.deeds c.catch_attempt.new.reach in
    let r = h c.args.reducer.now in let y = h c.catch_attempt.new.reducer in
    let run : Runs E.exact (pull_each (rows_of_split (map f l.mappers.items) i l.attempt 1) (h l.reducer)) (E.deeds l.reach) (y, Some true) b =
    subst (λ (o : Bool). Runs E.exact (pull_each (rows_of_split (map f l.mappers.items) i l.attempt 1) (h l.reducer)) (E.deeds l.reach) (y, Some o) b) c.if-branch.true c.in_ok-catch_attempt.ensures.runs in
    subst (λ (rows : List Row). Runs E.exact (pull_each rows r) a (y, Some true) b) (sym (all-attempts ms i n.result a c.requires.may.lags.mappers n.ensures.most n.ensures.least))
    (attempts-end E.exact ms (map f l.mappers.items) l.invariant.same r (h l.reducer) a (E.deeds l.reach) b y i l.attempt l.invariant.runs n.result (Some true) c.loop-attempt-test.true not-true run)

pub loop-attempt-preserved : goal.loop-attempt-preserved
loop-attempt-preserved g c = let E = g.E.Reach in let f = g.M.Store.mapper in let h = g.D.Taker.reducer in
    let ms = map f c.args.mappers.now.items in let l = c.loop-attempt in let i = c.args.split in
    let a = E.deeds c.args.reach.now in let b = E.deeds c.catch_attempt.new.reach in
    let r = h c.args.reducer.now in let y = h c.catch_attempt.new.reducer in let k = c.in_ok-catch_attempt.ensures in
    let run : Runs E.exact (pull_each (rows_of_split (map f l.mappers.items) i l.attempt 1) (h l.reducer)) (E.deeds l.reach) (y, Some false) b =
    subst (λ (o : Bool). Runs E.exact (pull_each (rows_of_split (map f l.mappers.items) i l.attempt 1) (h l.reducer)) (E.deeds l.reach) (y, Some o) b) c.if-branch.false k.runs in
    record {
      may = catch-on E.exact (map f l.mappers.items) (map f c.catch_attempt.new.mappers.items) c.args.p i l.attempt 1 (h l.reducer) y (E.deeds l.reach) b k.same l.invariant.may run;
      setup = setup-on E.exact (pull_each (rows_of_split (map f l.mappers.items) i l.attempt 1) (h l.reducer)) (y, Some false) (E.deeds l.reach) b run ∙ l.invariant.setup;
      same = k.same ∙ l.invariant.same;
      well = k.well;
      counts = k.counts ∙ l.invariant.counts;
      runs = attempts-on E.exact ms (map f l.mappers.items) l.invariant.same r (h l.reducer) a (E.deeds l.reach) b y i l.attempt l.invariant.runs run;
    }

pub returns-clause-runs : goal.returns-clause-runs
returns-clause-runs g c = let E = g.E.Reach in let f = g.M.Store.mapper in let h = g.D.Taker.reducer in
    let ms = map f c.args.mappers.now.items in let l = c.loop-attempt in let i = c.args.split in
    let n = c.begun_of-attempt-end in let a = E.deeds c.args.reach.now in
    let at : l.attempt ≡ n.result = (let x = l.auto.attempt-end in let z = c.loop-attempt-test.false in omega (arith, x, z)) in
    subst (λ (rows : List Row). Runs E.exact (pull_each rows (h c.args.reducer.now)) a (h l.reducer, Some false) (E.deeds l.reach))
    (ap (rows_of_split ms i 0) at ∙ sym (all-attempts ms i n.result a c.requires.may.lags.mappers n.ensures.most n.ensures.least)) l.invariant.runs
