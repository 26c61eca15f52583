use Rattle.std.proofs.Common.{◌∙◌, Bool, true, false, sym, subst, Option}
use Rattle.hop_machine.specs.actors.ReducerTurns.{Reducer, send_due, restart_if_due}
use Rattle.hop_machine.specs.step.Steps.{Runs}
use Rattle.hop_machine.specs.home.ReducerHome.{NoneDue}
use Rattle.hop_actors.specs.Acting.{MayCall}
use Rattle.hop_actors.specs.Calls.{found}
use Rattle.hop_settle.specs.Pulled.{records_pull}
use Rattle.hop_settle.proofs.Results.{found-none}
use Rattle.hop_settle.proofs.PullLaws.{take-on, cuts-on, pull-untaken, pull-unsent, pull-sent}
use Rattle.hop_settle.proofs.pulling.record_pull.Goals as goal

pub returns-in_err-take_pull : goal.returns-in_err-take_pull
returns-in_err-take_pull g c = let E = g.E.Reach in let f = g.D.Taker.reducer in
    let r = f c.args.reducer.now in let b = E.deeds c.take_pull.new.reach in
    let none = found-none c.from_residual.result c.from_residual.ensures.0 in
    subst (λ (y : Reducer × Option Bool). Runs E.exact (records_pull c.args.part r) (E.deeds c.args.reach.now) y b) (λ i. (sym c.in_err-take_pull.ensures.same i, sym none i))
    (pull-untaken E.exact c.args.part r (E.deeds c.args.reach.now) b c.in_err-take_pull.ensures.runs)

pub send_due-requires : goal.send_due-requires
send_due-requires g c = let E = g.E.Reach in let f = g.D.Taker.reducer in
    let r = f c.args.reducer.now in let b = E.deeds c.take_pull.new.reach in
    record { may = subst (λ (y : Reducer). MayCall y b) (sym c.in_ok-take_pull.ensures.same) (take-on E.exact r (E.deeds c.args.reach.now) b c.requires.may c.args.part c.requires.pull c.in_ok-take_pull.ensures.runs) }

pub returns-in_err-send_due : goal.returns-in_err-send_due
returns-in_err-send_due g c = let E = g.E.Reach in let f = g.D.Taker.reducer in
    let r = f c.args.reducer.now in let b = E.deeds c.take_pull.new.reach in let d = E.deeds c.send_due.new.reach in
    let was = c.in_ok-take_pull.ensures.same in
    let none = found-none c.from_residual-in_err-send_due.result c.from_residual-in_err-send_due.ensures.0 in
    subst (λ (y : Reducer × Option Bool). Runs E.exact (records_pull c.args.part r) (E.deeds c.args.reach.now) y d) (λ i. (sym (c.in_err-send_due.ensures.same ∙ was) i, sym none i))
    (pull-unsent E.exact c.args.part r (E.deeds c.args.reach.now) b d c.in_ok-take_pull.ensures.runs (subst (λ (y : Reducer). Runs E.exact (send_due y) b false d) was c.in_err-send_due.ensures.runs))

pub restart_due-requires-clause-may : goal.restart_due-requires-clause-may
restart_due-requires-clause-may g c = let E = g.E.Reach in let f = g.D.Taker.reducer in
    let r = f c.args.reducer.now in let b = E.deeds c.take_pull.new.reach in let d = E.deeds c.send_due.new.reach in
    let was = c.in_ok-take_pull.ensures.same in
    let may = take-on E.exact r (E.deeds c.args.reach.now) b c.requires.may c.args.part c.requires.pull c.in_ok-take_pull.ensures.runs in
    subst (λ (y : Reducer). MayCall y d) (sym (c.in_ok-send_due.ensures.same ∙ was)) (cuts-on E.exact r b d may (subst (λ (y : Reducer). Runs E.exact (send_due y) b true d) was c.in_ok-send_due.ensures.runs)).0

pub restart_due-requires-clause-none_due : goal.restart_due-requires-clause-none_due
restart_due-requires-clause-none_due g c = let E = g.E.Reach in let f = g.D.Taker.reducer in
    let r = f c.args.reducer.now in let b = E.deeds c.take_pull.new.reach in let d = E.deeds c.send_due.new.reach in
    let was = c.in_ok-take_pull.ensures.same in
    let may = take-on E.exact r (E.deeds c.args.reach.now) b c.requires.may c.args.part c.requires.pull c.in_ok-take_pull.ensures.runs in
    subst (λ (y : Reducer). NoneDue y.number d) (sym (c.in_ok-send_due.ensures.same ∙ was)) (cuts-on E.exact r b d may (subst (λ (y : Reducer). Runs E.exact (send_due y) b true d) was c.in_ok-send_due.ensures.runs)).1

pub returns : goal.returns
returns g c = let E = g.E.Reach in let f = g.D.Taker.reducer in
    let r = f c.args.reducer.now in let b = E.deeds c.take_pull.new.reach in let d = E.deeds c.send_due.new.reach in let z = E.deeds c.restart_due.new.reach in
    let was = c.in_ok-take_pull.ensures.same in
    pull-sent E.exact c.args.part r (E.deeds c.args.reach.now) b d z (f c.restart_due.new.self, found c.restart_due.result) c.in_ok-take_pull.ensures.runs
    (subst (λ (y : Reducer). Runs E.exact (send_due y) b true d) was c.in_ok-send_due.ensures.runs)
    (subst (λ (y : Reducer). Runs E.exact (restart_if_due y) d (f c.restart_due.new.self, found c.restart_due.result) z) (c.in_ok-send_due.ensures.same ∙ was) c.restart_due.ensures.runs)
