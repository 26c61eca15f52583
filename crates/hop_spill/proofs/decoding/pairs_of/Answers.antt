use Rattle.std.proofs.Common.{◌≡◌, Option, Ok, subst, sym, ◌∙◌, ap}
use Rattle.std.proofs.lemmas.Result.{err_from_is_err_and}
use Rattle.hop_base.specs.declared.value.Pair.{Pair}
use Rattle.hop_spill.specs.Reading.{pair_at}
use Rattle.hop_spill.specs.Answers.{StopsAt}
use Rattle.hop_spill.proofs.LoopLaws.{last_pair, last_push, pairs_go_on, pairs_stop, pairs_end}
use Rattle.hop_spill.proofs.decoding.pairs_of.Goals as goal

pub returns-in_err-pair : goal.returns-in_err-pair
returns-in_err-pair c =
    let p = err_from_is_err_and c.from_residual-in_err-pair.result c.from_residual-in_err-pair.ensures.1 in
    let stops = subst (λ (before : Option Pair). StopsAt c.in_err-pair.field-0.0 (pair_at c.args.p c.args.r before c.loop.rest.now)) c.loop.invariant.last c.in_err-pair.ensures in
    rw (p.1, p.2) (pairs_stop c.in_err-pair.field-0.0 c.args.p c.args.r c.loop.pairs c.args.count c.loop.counter c.loop.rest.now _ c.loop-test.true stops c.loop.invariant.reading)

pub loop-preserved : goal.loop-preserved
loop-preserved c =
    let n = c.in_ok-pair.pair in
    let read = subst (λ (before : Option Pair). pair_at c.args.p c.args.r before c.loop.rest.now ≡ Ok (n, c.in_ok-pair.after.now)) c.loop.invariant.last c.in_ok-pair.ensures in
    record {
      last = rw c.in_ok-push_view.ensures.ok (sym (last_push c.loop.pairs n));
      reading = rw c.in_ok-push_view.ensures.ok (pairs_go_on c.args.p c.args.r c.loop.pairs c.args.count c.loop.counter c.loop.rest.now n c.in_ok-pair.after.now _ c.loop-test.true read c.loop.invariant.reading);
    }

pub returns : goal.returns
returns c = pairs_end c.args.p c.args.r c.loop.pairs c.args.count c.loop.counter c.loop.rest.now _ c.loop-test.false c.loop.invariant.reading
