use Rattle.std.proofs.Common.{subst}
use Rattle.hop_inner.specs.Setups.{parts}
use Rattle.hop_actors.specs.Acting.{said_turn}
use Rattle.hop_mapper.specs.Mappers.{mapper_of}
use Rattle.hop_machine.specs.step.Steps.{Runs}
use Rattle.hop_machine.specs.actors.MapperTurns.{each_lane, offer}
use Rattle.hop_machine.specs.declared.words.Message.TheVariants.{Notice}
use Rattle.hop_press.specs.Held.{said_lanes, lanes_left}
use Rattle.hop_mapper.proofs.PartsOfTurns.{fail_safe, spent_safe, fail_on, fail_stopped}
use Rattle.hop_mapper.proofs.state.State.fail.Goals as goal

pub give_notice-requires-clause-safe : goal.give_notice-requires-clause-safe
give_notice-requires-clause-safe g c =
    let R = g.N.RunName in
    fail_safe R.records R.script R.settings g.E.Reach.exact c.args.self.now c.set_work.new.self c.args.run c.worker.result c.revoke_on-mask.result c.worker.ensures c.set_work.ensures (g.E.Reach.deeds c.args.reach.now) (g.E.Reach.deeds c.revoke_on-mask.new.reach) c.revoke_on-mask.ensures parts c.requires.safe

pub unless_spent-requires-clause-safe : goal.unless_spent-requires-clause-safe
unless_spent-requires-clause-safe g c =
    let R = g.N.RunName in let a = g.E.Reach.deeds c.args.reach.now in let mid = g.E.Reach.deeds c.revoke_on-mask.new.reach in let b = g.E.Reach.deeds c.give_notice.new.reach in
    let m1 = c.set_work.new.self in let m2 = c.give_notice.new.self in
    let h = subst (λ r. Runs g.E.Reach.exact (each_lane (offer m1.vault.worker (Notice c.args.run.split c.args.run.attempt)) 0 (said_lanes m1.held)) mid (lanes_left r (said_lanes m2.held)) b) c.in-Ok.is c.give_notice.ensures.runs in
    spent_safe R.records R.script R.settings g.E.Reach.exact c.args.self.now m1 c.args.run c.worker.result c.revoke_on-mask.result c.worker.ensures c.set_work.ensures a mid c.revoke_on-mask.ensures m2 c.give_notice.ensures.same.rest b parts c.requires.safe h

pub returns-in-Ok-clause-runs : goal.returns-in-Ok-clause-runs
returns-in-Ok-clause-runs g c =
    let R = g.N.RunName in let a = g.E.Reach.deeds c.args.reach.now in let mid = g.E.Reach.deeds c.revoke_on-mask.new.reach in let b = g.E.Reach.deeds c.give_notice.new.reach in
    let m1 = c.set_work.new.self in let m2 = c.give_notice.new.self in
    let h = subst (λ r. Runs g.E.Reach.exact (each_lane (offer m1.vault.worker (Notice c.args.run.split c.args.run.attempt)) 0 (said_lanes m1.held)) mid (lanes_left r (said_lanes m2.held)) b) c.in-Ok.is c.give_notice.ensures.runs in
    fail_on R.records R.script R.settings g.E.Reach.exact c.args.self.now m1 c.args.run c.worker.result c.revoke_on-mask.result c.worker.ensures c.set_work.ensures a mid c.revoke_on-mask.ensures m2 c.give_notice.ensures.same.rest b h (g.E.Reach.deeds c.unless_spent.new.reach) (mapper_of R.records R.script R.settings m2, said_turn c.unless_spent.result) c.unless_spent.ensures.runs

pub returns-in-Err-clause-runs : goal.returns-in-Err-clause-runs
returns-in-Err-clause-runs g c =
    let R = g.N.RunName in let a = g.E.Reach.deeds c.args.reach.now in let mid = g.E.Reach.deeds c.revoke_on-mask.new.reach in let b = g.E.Reach.deeds c.give_notice.new.reach in
    let m1 = c.set_work.new.self in let m2 = c.give_notice.new.self in
    let h = subst (λ r. Runs g.E.Reach.exact (each_lane (offer m1.vault.worker (Notice c.args.run.split c.args.run.attempt)) 0 (said_lanes m1.held)) mid (lanes_left r (said_lanes m2.held)) b) c.in-Err.is c.give_notice.ensures.runs in
    fail_stopped R.records R.script R.settings g.E.Reach.exact c.args.self.now m1 c.args.run c.worker.result c.revoke_on-mask.result c.worker.ensures c.set_work.ensures a mid c.revoke_on-mask.ensures m2 c.give_notice.ensures.same.rest b h
