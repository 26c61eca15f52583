use Rattle.std.proofs.Common.{sym, subst}
use Rattle.hop_machine.specs.actors.MapperTurns.{commits}
use Rattle.hop_machine.specs.step.Steps.{Runs}
use Rattle.hop_inner.specs.Setups.{parts}
use Rattle.hop_actors.specs.Acting.{said_turn}
use Rattle.hop_mapper.specs.Mappers.{mapper_of, running_of}
use Rattle.hop_mapper.proofs.PartsOfTurns.{commit_safe, commit_either}
use Rattle.hop_mapper.proofs.state.State.commit.Goals as goal

pub give_notice-requires-clause-safe : goal.give_notice-requires-clause-safe
give_notice-requires-clause-safe g c =
    let R = g.N.RunName in
    commit_safe R.records R.script R.settings g.E.Reach.exact c.args.self.now c.set_work.new.self c.args.run c.worker.result c.worker.ensures c.set_work.ensures (g.E.Reach.deeds c.args.reach.now) (g.E.Reach.deeds c.commit_or_revoke.new.reach) c.commit_or_revoke.ensures.runs parts c.requires.safe

pub returns-clause-runs : goal.returns-clause-runs
returns-clause-runs g c =
    let R = g.N.RunName in let a = g.E.Reach.deeds c.args.reach.now in let mid = g.E.Reach.deeds c.commit_or_revoke.new.reach in let b = g.E.Reach.deeds c.give_notice.new.reach in
    let h = commit_either R.records R.script R.settings g.E.Reach.exact c.args.self.now c.set_work.new.self c.args.run c.worker.result c.worker.ensures c.set_work.ensures a mid c.commit_or_revoke.ensures.runs c.give_notice.new.self c.give_notice.ensures.same.rest b c.give_notice.result c.give_notice.ensures.runs in
    subst (λ t. Runs g.E.Reach.exact (commits (mapper_of R.records R.script R.settings c.args.self.now) (running_of c.args.run)) a (mapper_of R.records R.script R.settings c.give_notice.new.self, said_turn t) b) (sym c.turn_of.ensures) h
