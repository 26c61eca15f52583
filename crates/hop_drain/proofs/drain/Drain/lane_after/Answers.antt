use Rattle.std.proofs.Common.{◌≤◌, ◌∙◌, ap, subst, arith}
use Rattle.hop_machine.specs.actors.ReducerTurns.{Reducer}
use Rattle.hop_drain.proofs.drain.Drain.lane_after.Goals as goal

pub overflow_add-w : goal.overflow_add-w
overflow_add-w g c =
    let same = c.self.invariant.workers ∙ ap (λ (r : Reducer). r.setup.workers) c.self.view_is in
    let few : c.args.self.now.setup.workers ≤ 8 = subst (λ n. n ≤ 8) same c.self.inside.settings.now.few_workers in
    omega (arith, c.requires, few)
