use Rattle.std.proofs.Common.{◌≡◌, ◌<◌, ◌≤◌, ◌∙◌, false, None, length, arith, sym, ap, subst, ⊎_elim}
use Rattle.std.specs.Prelude.{slice_index_or}
use Rattle.std.specs.List.{slice_get}
use Rattle.std.proofs.lemmas.Option.{same_Some, slice_get_within}
use Rattle.hop_machine.proofs.ending.Winners.{less_or_not}
use Rattle.hop_actors.specs.Spilled.{IsSpilled, OnlySpills}
use Rattle.hop_settle.proofs.TurnLaws.{stands_at}
use Rattle.hop_replay.proofs.driving.know_folders.Goals as goal

pub loop-w-preserved : goal.loop-w-preserved
loop-w-preserved g c =
    let N = g.N.RunName in let M = g.M.Store in
    let xs = c.args.mappers.now.items in let w = c.loop-w.w in let y = c.index.result.now in
    let inside : w < length xs = let t = c.loop-w-test.true in let b = c.loop-w.auto.w-end in omega (arith, t, b) in
    let at = stands_at xs w y y _ inside c.index.ensures in
    record {
      spilled = λ k m l e. ⊎_elim (λ (b : k < w). c.loop-w.invariant.spilled k m b e)
          (λ (b : w ≤ k).
          let same : k ≡ w = omega (arith, b, l) in
          let is : y ≡ m = same_Some y m (sym at ∙ ap (slice_get xs) (sym same) ∙ e) in
          subst (λ (x : _). g.M.Actor.failed x ≡ false → IsSpilled N.job N.records N.settings.split N.settings.reducers N.settings.spill (M.mapper x).rules.lens (M.mapper x).kept (slice_index_or N.spills (M.mapper x).number None) (M.held x)) is c.known.ensures.spilled)
          (less_or_not k w);
      only = λ k m l e. ⊎_elim (λ (b : k < w). c.loop-w.invariant.only k m b e)
          (λ (b : w ≤ k).
          let same : k ≡ w = omega (arith, b, l) in
          let is : y ≡ m = same_Some y m (sym at ∙ ap (slice_get xs) (sym same) ∙ e) in
          subst (λ (x : _). OnlySpills (slice_index_or N.spills (M.mapper x).number None) (M.held x)) is c.known.ensures.only)
          (less_or_not k w);
    }

pub returns-clause-spilled : goal.returns-clause-spilled
returns-clause-spilled g c = λ w m e.
    let l = slice_get_within c.args.mappers.now.items w m e in
    let t = c.loop-w-test.false in let b = c.loop-w.auto.w-end in
    c.loop-w.invariant.spilled w m (omega (arith, l, t, b)) e

pub returns-clause-only : goal.returns-clause-only
returns-clause-only g c = λ w m e.
    let l = slice_get_within c.args.mappers.now.items w m e in
    let t = c.loop-w-test.false in let b = c.loop-w.auto.w-end in
    c.loop-w.invariant.only w m (omega (arith, l, t, b)) e
