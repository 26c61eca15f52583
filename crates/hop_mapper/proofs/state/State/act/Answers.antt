use Rattle.hop_machine.specs.declared.words.Turn.{Turn}
use Rattle.hop_machine.specs.actors.MapperTurns.{Mapper, acts}
use Rattle.hop_machine.specs.actors.MapperTurns as machine
use Rattle.hop_actors.specs.Acting.{said_turn}
use Rattle.hop_mapper.specs.Mappers.{mapper_of}
use Rattle.hop_mapper.proofs.Fitting.{fits_same}
use Rattle.hop_mapper.proofs.TurnLaws.{runs_ends}
use Rattle.hop_mapper.proofs.OnlySpilled.{only_vault}
use Rattle.hop_mapper.proofs.state.State.act.Goals as goal

pub returns-in-Free-clause-fits : goal.returns-in-Free-clause-fits
returns-in-Free-clause-fits g c =
    let R = g.N.RunName in let a = g.E.Reach.deeds c.args.reach.now in let b = g.E.Reach.deeds c.ask.new.reach in
    let r : Mapper × Turn = (mapper_of R.records R.script R.settings c.ask.new.self, said_turn c.ask.result) in
    let ends = runs_ends g.E.Reach.exact (acts (mapper_of R.records R.script R.settings c.args.self.now) machine.Free) a b r c.ask.ensures.runs in
    fits_same R.job R.records R.settings R.tells g.K.Knowing.knows g.K.Knowing.board c.args.self.now c.ask.new.self a b c.ask.ensures.same ends c.requires.fits

pub returns-in-Retries-clause-only : goal.returns-in-Retries-clause-only
returns-in-Retries-clause-only g c = only_vault g.V.Folder.seen c.args.self.now.vault c.retry.new.self.vault c.retry.ensures.same.vault

pub returns-in-Free-clause-only : goal.returns-in-Free-clause-only
returns-in-Free-clause-only g c = only_vault g.V.Folder.seen c.args.self.now.vault c.ask.new.self.vault c.ask.ensures.same.vault
