use Rattle.std.proofs.Common.{◌≡◌, length, Bool, true, false, List, map, Option, Some, None, sym, ap, ◌∙◌, subst, arith}
use Rattle.hop_machine.specs.step.Steps.{Setup, Runs}
use Rattle.hop_machine.specs.step.Setup.{splits_of}
use Rattle.hop_machine.specs.play.Play.{Row, rows_of_split, kept_rows}
use Rattle.hop_actors.specs.Calls.{found}
use Rattle.hop_settle.specs.CaughtUp.{pull_each}
use Rattle.hop_settle.proofs.Results.{found-none}
use Rattle.hop_settle.proofs.RowLaws.{splits-on, splits-end, catch-on, setup-on, not-none, not-true}
use Rattle.hop_settle.proofs.catching.catch_splits.Goals as goal

-- as many splits as the run has
pub returns-in_err-catch_split-clause-runs : goal.returns-in_err-catch_split-clause-runs
returns-in_err-catch_split-clause-runs g c = let E = g.E.Reach in let f = g.M.Store.mapper in let h = g.D.Taker.reducer in
    let ms = map f c.args.mappers.now.items in let l = c.loop-split in
    let a = E.deeds c.args.reach.now in let b = E.deeds c.catch_split.new.reach in
    let limit = a.setup.attempts in let bound = (E.deeds l.reach).setup.attempts in
    let r = h c.args.reducer.now in let y = h c.catch_split.new.reducer in let t = found c.from_residual.result in
    let none : t ≡ None = found-none c.from_residual.result c.from_residual.ensures.0 in
    let run : Runs E.exact (pull_each (rows_of_split (map f l.mappers.items) l.split 0 bound) (h l.reducer)) (E.deeds l.reach) (y, t) b =
    subst (λ (o : Option Bool). Runs E.exact (pull_each (rows_of_split (map f l.mappers.items) l.split 0 bound) (h l.reducer)) (E.deeds l.reach) (y, o) b) (sym none) c.in_err-catch_split.ensures.runs in
    let many : length a.setup.lens ≡ length c.as_slice-splits.result.now = ap (λ (s : Setup). length s.lens) (g.met.E.Reach.of_run c.args.reach.now) ∙ ap length (sym (c.as_slice-splits.ensures.value ∙ c.lens.ensures)) in
    let less = c.loop-split-test.true in
    splits-end E.exact ms (map f l.mappers.items) l.invariant.same r (h l.reducer) a (E.deeds l.reach) b y limit bound l.split (ap (λ (s : Setup). s.attempts) l.invariant.setup) l.invariant.runs (splits_of a.setup) t (omega (arith, many, less)) (not-none none) run

pub returns-then-branch-clause-runs : goal.returns-then-branch-clause-runs
returns-then-branch-clause-runs g c = let E = g.E.Reach in let f = g.M.Store.mapper in let h = g.D.Taker.reducer in
    let ms = map f c.args.mappers.now.items in let l = c.loop-split in
    let a = E.deeds c.args.reach.now in let b = E.deeds c.catch_split.new.reach in
    let limit = a.setup.attempts in let bound = (E.deeds l.reach).setup.attempts in
    let r = h c.args.reducer.now in let y = h c.catch_split.new.reducer in
    let run : Runs E.exact (pull_each (rows_of_split (map f l.mappers.items) l.split 0 bound) (h l.reducer)) (E.deeds l.reach) (y, Some true) b =
    subst (λ (o : Bool). Runs E.exact (pull_each (rows_of_split (map f l.mappers.items) l.split 0 bound) (h l.reducer)) (E.deeds l.reach) (y, Some o) b) c.if-branch.true c.in_ok-catch_split.ensures.runs in
    let many : length a.setup.lens ≡ length c.as_slice-splits.result.now = ap (λ (s : Setup). length s.lens) (g.met.E.Reach.of_run c.args.reach.now) ∙ ap length (sym (c.as_slice-splits.ensures.value ∙ c.lens.ensures)) in
    let less = c.loop-split-test.true in
    splits-end E.exact ms (map f l.mappers.items) l.invariant.same r (h l.reducer) a (E.deeds l.reach) b y limit bound l.split (ap (λ (s : Setup). s.attempts) l.invariant.setup) l.invariant.runs (splits_of a.setup) (Some true) (omega (arith, many, less)) not-true run

pub loop-split-preserved : goal.loop-split-preserved
loop-split-preserved g c = let E = g.E.Reach in let f = g.M.Store.mapper in let h = g.D.Taker.reducer in
    let ms = map f c.args.mappers.now.items in let l = c.loop-split in
    let a = E.deeds c.args.reach.now in let b = E.deeds c.catch_split.new.reach in
    let limit = a.setup.attempts in let bound = (E.deeds l.reach).setup.attempts in
    let r = h c.args.reducer.now in let y = h c.catch_split.new.reducer in let k = c.in_ok-catch_split.ensures in
    let run : Runs E.exact (pull_each (rows_of_split (map f l.mappers.items) l.split 0 bound) (h l.reducer)) (E.deeds l.reach) (y, Some false) b =
    subst (λ (o : Bool). Runs E.exact (pull_each (rows_of_split (map f l.mappers.items) l.split 0 bound) (h l.reducer)) (E.deeds l.reach) (y, Some o) b) c.if-branch.false k.runs in
    record {
      may = catch-on E.exact (map f l.mappers.items) (map f c.catch_split.new.mappers.items) c.args.p l.split 0 bound (h l.reducer) y (E.deeds l.reach) b k.same l.invariant.may run;
      setup = setup-on E.exact (pull_each (rows_of_split (map f l.mappers.items) l.split 0 bound) (h l.reducer)) (y, Some false) (E.deeds l.reach) b run ∙ l.invariant.setup;
      same = k.same ∙ l.invariant.same;
      well = k.well;
      counts = k.counts ∙ l.invariant.counts;
      runs = splits-on E.exact ms (map f l.mappers.items) l.invariant.same r (h l.reducer) a (E.deeds l.reach) b y limit bound l.split (ap (λ (s : Setup). s.attempts) l.invariant.setup) l.invariant.runs run;
    }

pub returns-clause-runs : goal.returns-clause-runs
returns-clause-runs g c = let E = g.E.Reach in let f = g.M.Store.mapper in let h = g.D.Taker.reducer in
    let ms = map f c.args.mappers.now.items in let l = c.loop-split in let a = E.deeds c.args.reach.now in
    let many : length a.setup.lens ≡ length c.as_slice-splits.result.now = ap (λ (s : Setup). length s.lens) (g.met.E.Reach.of_run c.args.reach.now) ∙ ap length (sym (c.as_slice-splits.ensures.value ∙ c.lens.ensures)) in
    let at : l.split ≡ splits_of a.setup = (let x = l.auto.split-end in let z = c.loop-split-test.false in omega (arith, x, z, many)) in
    subst (λ (rows : List Row). Runs E.exact (pull_each rows (h c.args.reducer.now)) a (h l.reducer, Some false) (E.deeds l.reach))
    (ap (kept_rows ms a.setup.attempts 0) at) l.invariant.runs
