use Rattle.std.proofs.Common.{sym, ap, ◌∙◌}
use Rattle.hop_machine.specs.actors.ReducerTurns.{Reducer}
use Rattle.hop_inner.specs.Shelved.{value_of}
use Rattle.hop_drain.proofs.Lanes.{late_safe}
use Rattle.hop_drain.proofs.drain.Drain.take_turn.Goals as goal

pub go_on-requires-clause-no_cut : goal.go_on-requires-clause-no_cut
go_on-requires-clause-no_cut g c = c.hold-shelf.ensures.step.tells.due ∙ c.requires.none_due

pub go_on-requires-clause-safe : goal.go_on-requires-clause-safe
go_on-requires-clause-safe g c =
    late_safe g.E.Reach.exact c.args.self.now (ap (λ (r : Reducer). r.late) (sym c.self.view_is) ∙ c.if-self.true) (value_of c.hold-shelf.result) (g.E.Reach.deeds c.args.reach.now) (g.E.Reach.deeds c.hold-shelf.new.reach) c.requires.safe c.hold-shelf.ensures.step
