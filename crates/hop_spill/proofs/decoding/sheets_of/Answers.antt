use Rattle.std.proofs.lemmas.Result.{err_from_is_err_and}
use Rattle.hop_spill.proofs.LoopLaws.{sheets_go_on, sheets_stop, sheets_end}
use Rattle.hop_spill.proofs.decoding.sheets_of.Goals as goal

pub returns-in_err-sheet : goal.returns-in_err-sheet
returns-in_err-sheet c =
    let p = err_from_is_err_and c.from_residual.result c.from_residual.ensures.1 in
    rw (p.1, p.2) (sheets_stop c.in_err-sheet.field-0.0 c.args.reducers c.loop-p.sheets c.loop-p.p c.loop-p.rest.now _ c.loop-p-test.true c.in_err-sheet.ensures c.loop-p.invariant)

pub loop-p-preserved : goal.loop-p-preserved
loop-p-preserved c =
    rw (c.in_ok-push.ensures.ok) (sheets_go_on c.args.reducers c.loop-p.sheets c.loop-p.p c.loop-p.rest.now c.in_ok-sheet.sheet c.in_ok-sheet.after.now _ c.loop-p-test.true c.in_ok-sheet.ensures c.loop-p.invariant)

pub returns : goal.returns
returns c = sheets_end c.args.reducers c.loop-p.sheets c.loop-p.p c.loop-p.rest.now _ c.loop-p-test.false c.loop-p.invariant
