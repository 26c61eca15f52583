use Rattle.std.proofs.Common.{◌≡◌, ◌<◌, ◌∙◌, List, map, length, arith, sym, ap, Some, slice_set}
use Rattle.std.specs.List.{slice_get}
use Rattle.std.proofs.lemmas.List.{length-map, length-set, map-set}
use Rattle.hop_machine.specs.actors.ReducerTurns.{Reducer}
use Rattle.hop_machine.specs.play.Play.{is_late}
use Rattle.hop_settle.proofs.Lists.{map-at}
use Rattle.hop_settle.proofs.TurnLaws.{stands_at}
use Rattle.hop_settle.proofs.LateLaws.{late_first, late-next, late-more, late-all, one_more}
use Rattle.hop_settle.proofs.late.all_late.Goals as goal

pub loop-p-preserved : goal.loop-p-preserved
loop-p-preserved g c =
    let f = g.D.Taker.reducer in let l = c.loop-p in let p = l.p in let xs = l.reducers.items in let rs = map f c.args.reducers.now.items in let y = c.index_mut.result.now in
    let inside : p < length xs = let t = c.loop-p-test.true in let b = l.auto.p-end in let n = l.invariant.count in omega (arith, t, b, n) in
    let at : slice_get (map f xs) p ≡ Some (f y) = map-at f xs p y (stands_at xs p y y _ inside c.index_mut.ensures.value) in
    let was : slice_get rs p ≡ Some (f y) = sym (late-next p rs) ∙ ap (λ (ss : List Reducer). slice_get ss p) (sym l.invariant.late) ∙ at in
    record {
      count = length-set xs p c.late.new.self ∙ l.invariant.count;
      late = map-set f xs p c.late.new.self ∙ ap (slice_set (map f xs) p) c.late.ensures ∙ ap (λ (ss : List Reducer). slice_set ss p (is_late (f y))) l.invariant.late ∙ late-more p rs (f y) was ∙ ap (λ n. late_first n rs) (one_more p);
    }

pub returns-clause-late : goal.returns-clause-late
returns-clause-late g c =
    let f = g.D.Taker.reducer in let l = c.loop-p in
    l.invariant.late ∙ late-all (map f c.args.reducers.now.items) l.p (let t = c.loop-p-test.false in let b = l.auto.p-end in omega (arith, t, b, length-map c.args.reducers.now.items f))
