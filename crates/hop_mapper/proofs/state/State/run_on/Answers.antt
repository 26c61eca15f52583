use Rattle.std.proofs.Common.{◌==◌, Bool, sym, ◌∙◌, subst, if◌then◌else◌}
use Rattle.hop_machine.specs.declared.words.Turn.{Turn}
use Rattle.hop_machine.specs.actors.MapperTurns.{Mapper, fails, commits, spills, len_of}
use Rattle.hop_machine.specs.step.Steps.{Runs}
use Rattle.hop_actors.specs.Acting.{said_turn}
use Rattle.hop_mapper.specs.Mappers.{mapper_of, running_of}
use Rattle.hop_mapper.proofs.OnlySpilled.{only_vault}
use Rattle.hop_mapper.proofs.state.State.run_on.Goals as goal

pub returns-then-must_fail-clause-runs : goal.returns-then-must_fail-clause-runs
returns-then-must_fail-clause-runs g c =
    let R = g.N.RunName in let e = g.E.Reach.exact in let m = mapper_of R.records R.script R.settings c.args.self.now in let r = running_of c.args.run in
    let x : Mapper × Turn = (mapper_of R.records R.script R.settings c.fail.new.self, said_turn c.fail.result) in
    subst (λ (t : Bool). Runs e (if t then fails m r else (if r.done == len_of m.rules r.split then commits m r else spills m r)) (g.E.Reach.deeds c.args.reach.now) x (g.E.Reach.deeds c.fail.new.reach)) (sym (sym c.must_fail.ensures ∙ c.if-must_fail.true)) c.fail.ensures.runs

pub returns-then-must_fail-clause-only : goal.returns-then-must_fail-clause-only
returns-then-must_fail-clause-only g c = only_vault g.V.Folder.seen c.args.self.now.vault c.fail.new.self.vault c.fail.ensures.vault

pub returns-then-run-len_of-clause-only : goal.returns-then-run-len_of-clause-only
returns-then-run-len_of-clause-only g c = only_vault g.V.Folder.seen c.args.self.now.vault c.commit.new.self.vault c.commit.ensures.vault
