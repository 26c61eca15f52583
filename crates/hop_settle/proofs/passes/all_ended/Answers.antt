use Rattle.std.proofs.Common.{◌≡◌, ◌<◌, ◌≤◌, ◌∙◌, true, map, length, arith, sym, subst, ⊎_elim}
use Rattle.std.proofs.lemmas.List.{length-map}
use Rattle.hop_machine.specs.settling.Settling.{flag_at}
use Rattle.hop_machine.specs.play.Play.{has_ended}
use Rattle.hop_machine.proofs.ending.Winners.{less_or_not}
use Rattle.hop_settle.specs.Crews.{flags_of}
use Rattle.hop_settle.proofs.Lists.{map-at}
use Rattle.hop_settle.proofs.TurnLaws.{stands_at}
use Rattle.hop_settle.proofs.PassLaws.{flag_is, all_so, one_open}
use Rattle.hop_settle.proofs.passes.all_ended.Goals as goal

pub returns-then-not-has_ended : goal.returns-then-not-has_ended
returns-then-not-has_ended g c =
    let f = g.M.Store.mapper in let xs = c.args.mappers.now.items in let w = c.loop-w.w in let y = c.index.result.now in
    let inside : w < length xs = let t = c.loop-w-test.true in let b = c.loop-w.auto.w-end in omega (arith, t, b) in
    let at = map-at f xs w y (stands_at xs w y y _ inside c.index.ensures) in
    sym (one_open (flags_of (map f xs)) w (omega (arith, inside, length-map xs f, length-map (map f xs) has_ended)) (flag_is (map f xs) w (f y) at ∙ sym c.has_ended.ensures ∙ c.if-not-has_ended.true))

pub loop-w-preserved : goal.loop-w-preserved
loop-w-preserved g c =
    let f = g.M.Store.mapper in let xs = c.args.mappers.now.items in let w = c.loop-w.w in let y = c.index.result.now in
    let inside : w < length xs = let t = c.loop-w-test.true in let b = c.loop-w.auto.w-end in omega (arith, t, b) in
    let at = map-at f xs w y (stands_at xs w y y _ inside c.index.ensures) in
    let here : flag_at (flags_of (map f xs)) w ≡ true = flag_is (map f xs) w (f y) at ∙ sym c.has_ended.ensures ∙ c.if-not-has_ended.false in
    record {
      before = λ k l. ⊎_elim (λ (b : k < w). c.loop-w.invariant.before k b)
          (λ (b : w ≤ k). let same : k ≡ w = omega (arith, b, l) in subst (λ n. flag_at (flags_of (map f xs)) n ≡ true) (sym same) here) (less_or_not k w);
    }

pub returns : goal.returns
returns g c =
    let f = g.M.Store.mapper in let xs = c.args.mappers.now.items in
    let n : length (flags_of (map f xs)) ≡ length xs = length-map (map f xs) has_ended ∙ length-map xs f in
    let t = c.loop-w-test.false in let b = c.loop-w.auto.w-end in
    sym (all_so (flags_of (map f xs)) (λ k l. c.loop-w.invariant.before k (omega (arith, t, b, n, l))))
