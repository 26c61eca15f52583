use Rattle.std.proofs.Common.{◌∷◌, sym, ap, ◌∙◌, subst, Result}
use Rattle.hop_machine.specs.declared.words.Who.TheVariants as whose
use Rattle.hop_machine.specs.actors.ReducerTurns.{writer_turn}
use Rattle.hop_machine.specs.play.Play.{Place, TurnOf, Listed, Went}
use Rattle.hop_machine.proofs.step.Owners.{Runs-ends}
use Rattle.hop_machine.proofs.play.Going.{listed-turn, writer_did}
use Rattle.hop_actors.specs.Acting.{said_turn}
use Rattle.hop_actors.specs.declared.fault.Fault.{Fault}
use Rattle.hop_settle.specs.Crews.{actors_of, world_of}
use Rattle.hop_settle.specs.Stops.{place_after}
use Rattle.hop_settle.proofs.AnswerLaws.{place_is}
use Rattle.hop_settle.proofs.playing.order_writer.Goals as goal

pub returns-clause-went : goal.returns-clause-went
returns-clause-went g c = λ later ms rs.
    let e = g.E.Reach.exact in let f = g.W.SnapshotWriter.writer in let n = c.write_turn in
    let x = f c.args.writer.now in let y = f n.new.writer in let a = g.E.Reach.deeds c.args.reach.now in let b = g.E.Reach.deeds n.new.reach in
    let go : Place = Listed later in
    subst (λ (q : Place). Went e (Listed (TurnOf whose.Writer ∷ later), world_of ms rs x a) (q, world_of ms rs y b)) (sym (ap (λ (r : Result (Unit {0}) Fault). place_after r go) c.went_on.ensures ∙ place_is n.result go))
    (listed-turn e whose.Writer later (world_of ms rs x a) (world_of ms rs y b) (said_turn n.result) (writer_did e (actors_of ms rs x) a b (y, said_turn n.result) n.ensures.runs))

pub returns-clause-ends : goal.returns-clause-ends
returns-clause-ends g c = let E = g.E.Reach in let f = g.W.SnapshotWriter.writer in let n = c.write_turn in
    Runs-ends E.exact (writer_turn (f c.args.writer.now)) (E.deeds c.args.reach.now) (E.deeds n.new.reach) (f n.new.writer, said_turn n.result) n.ensures.runs
