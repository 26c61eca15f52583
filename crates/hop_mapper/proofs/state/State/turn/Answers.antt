use Rattle.std.proofs.Common.{◌+◌, ◌*◌, ◌≤◌, sym, ◌∙◌, arith, ap}
use Rattle.hop_machine.specs.home.MapperHome.{has_failed}
use Rattle.hop_inner.specs.Setups.{parts}
use Rattle.hop_actors.specs.Acting.{said_turn}
use Rattle.hop_mapper.specs.Mappers.{mapper_of, MapperValue}
use Rattle.hop_mapper.proofs.PartsOfTurns.{open_safe, turned, over}
use Rattle.hop_mapper.proofs.Working.{works_here}
use Rattle.hop_mapper.proofs.OnlySpilled.{only_vault}
use Rattle.hop_mapper.proofs.state.State.turn.Goals as goal

pub open_turn-turn-requires-clause-here : goal.open_turn-turn-requires-clause-here
open_turn-turn-requires-clause-here g c =
    let R = g.N.RunName in let a = g.E.Reach.deeds c.args.reach.now in
    works_here R.records R.script R.settings c.args.self.now a (c.mapper_says.ensures.says (mapper_of R.records R.script R.settings c.args.self.now) a c.requires.may.home)

pub open_turn-turn-requires-clause-safe : goal.open_turn-turn-requires-clause-safe
open_turn-turn-requires-clause-safe g c =
    let R = g.N.RunName in let a = g.E.Reach.deeds c.args.reach.now in let m = mapper_of R.records R.script R.settings c.args.self.now in
    let t = c.requires.may.turns in
    let few : 2 * c.args.self.now.turns + 2 ≤ parts = omega arith in
    open_safe R.records R.script R.settings g.E.Reach.exact parts c.args.self.now a (sym c.has_ended.ensures ∙ c.if-has_ended.false) (c.mapper_is_safe.ensures parts g.E.Reach.exact m a c.requires.may.home c.requires.may.ends few)

pub returns-then-has_ended-clause-runs : goal.returns-then-has_ended-clause-runs
returns-then-has_ended-clause-runs g c =
    let R = g.N.RunName in
    over R.records R.script R.settings g.E.Reach.exact c.args.self.now c.count.new.self c.count.ensures (g.E.Reach.deeds c.args.reach.now) (sym c.has_ended.ensures ∙ c.if-has_ended.true)

pub returns-clause-runs : goal.returns-clause-runs
returns-clause-runs g c =
    let R = g.N.RunName in
    turned R.records R.script R.settings g.E.Reach.exact c.args.self.now c.open_turn-turn.new.self c.close.new.self (said_turn c.open_turn-turn.result) (has_failed (said_turn c.open_turn-turn.result)) (g.E.Reach.deeds c.args.reach.now) (g.E.Reach.deeds c.open_turn-turn.new.reach)
    (sym c.has_ended.ensures ∙ c.if-has_ended.false) c.close.ensures c.open_turn-turn.ensures.runs

pub returns-then-has_ended-clause-only : goal.returns-then-has_ended-clause-only
returns-then-has_ended-clause-only g c = only_vault g.V.Folder.seen c.args.self.now.vault c.count.new.self.vault (ap (λ (x : MapperValue g.row.V.Denot g.row.K.Denot). x.vault) c.count.ensures)
