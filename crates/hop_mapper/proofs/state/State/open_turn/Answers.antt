use Rattle.std.proofs.Common.{sym, ◌∙◌, ap}
use Rattle.hop_machine.specs.declared.words.Turn.{Turn}
use Rattle.hop_machine.specs.actors.MapperTurns.{Mapper}
use Rattle.hop_inner.specs.Setups.{parts}
use Rattle.hop_actors.specs.Acting.{said_turn}
use Rattle.hop_mapper.specs.Mappers.{mapper_of, MapperValue}
use Rattle.hop_mapper.proofs.PartsOfTurns.{opened_safe, opened_on, idled}
use Rattle.hop_mapper.proofs.OnlySpilled.{only_vault}
use Rattle.hop_mapper.proofs.state.State.open_turn.Goals as goal

pub take_turn-requires-clause-safe : goal.take_turn-requires-clause-safe
take_turn-requires-clause-safe g c =
    let R = g.N.RunName in
    opened_safe R.records R.script R.settings g.E.Reach.exact c.args.self.now c.count.new.self c.count.ensures parts (g.E.Reach.deeds c.args.reach.now) (sym c.is_delayed-delayed.ensures ∙ c.if-delayed.false) c.requires.safe

pub returns-then-delayed-clause-runs : goal.returns-then-delayed-clause-runs
returns-then-delayed-clause-runs g c =
    let R = g.N.RunName in
    idled R.records R.script R.settings g.E.Reach.exact c.args.self.now c.count.new.self c.count.ensures (g.E.Reach.deeds c.args.reach.now) (sym c.is_delayed-delayed.ensures ∙ c.if-delayed.true)

pub returns-else-delayed-clause-runs : goal.returns-else-delayed-clause-runs
returns-else-delayed-clause-runs g c =
    let R = g.N.RunName in
    let r : Mapper × Turn = (mapper_of R.records R.script R.settings c.take_turn.new.self, said_turn c.take_turn.result) in
    opened_on R.records R.script R.settings g.E.Reach.exact c.args.self.now c.count.new.self c.count.ensures (g.E.Reach.deeds c.args.reach.now) (g.E.Reach.deeds c.take_turn.new.reach) r (sym c.is_delayed-delayed.ensures ∙ c.if-delayed.false) c.take_turn.ensures.runs

pub returns-then-delayed-clause-only : goal.returns-then-delayed-clause-only
returns-then-delayed-clause-only g c = only_vault g.V.Folder.seen c.args.self.now.vault c.count.new.self.vault (ap (λ (x : MapperValue g.row.V.Denot g.row.K.Denot). x.vault) c.count.ensures)
