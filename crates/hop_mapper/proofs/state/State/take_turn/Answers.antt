use Rattle.std.proofs.Common.{◌≡◌, sym, ap, ◌∙◌, subst}
use Rattle.hop_machine.specs.declared.words.Turn.{Turn}
use Rattle.hop_machine.specs.step.Steps.{Runs}
use Rattle.hop_machine.specs.actors.MapperTurns.{Mapper, each_lane, flush, acts, takes_turn}
use Rattle.hop_inner.specs.Setups.{parts}
use Rattle.hop_press.specs.Held.{said_lanes, lanes_left}
use Rattle.hop_actors.specs.Acting.{said_turn}
use Rattle.hop_mapper.specs.Mappers.{MapperValue, mapper_of, work_of}
use Rattle.hop_mapper.specs.Next.{WorksHere}
use Rattle.hop_mapper.proofs.FaultLaws.{flush_stops}
use Rattle.hop_mapper.proofs.TurnLaws.{lanes_safe}
use Rattle.hop_mapper.proofs.PartsOfTurns.{act_safe, took_turn, turn_stopped}
use Rattle.hop_mapper.proofs.OnlySpilled.{only_same}
use Rattle.hop_mapper.proofs.state.State.take_turn.Goals as goal

pub flush-requires-clause-safe : goal.flush-requires-clause-safe
flush-requires-clause-safe g c =
    let R = g.N.RunName in let m = mapper_of R.records R.script R.settings c.args.self.now in
    lanes_safe parts g.E.Reach.exact m (flush m.number) (λ x. acts x x.work) (g.E.Reach.deeds c.args.reach.now) c.requires.safe

pub act-requires-clause-here : goal.act-requires-clause-here
act-requires-clause-here g c =
    let R = g.N.RunName in let n = c.flush.new.self in let m = c.args.self.now in
    let w : work_of n.work ≡ work_of m.work = ap (λ (x : MapperValue g.row.V.Denot g.row.K.Denot). work_of x.work) c.flush.ensures.rest in
    subst (λ x. WorksHere R.records R.settings n.vault.rows x) (sym w) (subst (λ t. WorksHere R.records R.settings t (work_of m.work)) (sym c.flush.ensures.rows) c.requires.here)

pub act-requires-clause-safe : goal.act-requires-clause-safe
act-requires-clause-safe g c =
    let R = g.N.RunName in let m = c.args.self.now in let n = c.flush.new.self in let a = g.E.Reach.deeds c.args.reach.now in let b = g.E.Reach.deeds c.flush.new.reach in
    let h = subst (λ r. Runs g.E.Reach.exact (each_lane (flush m.vault.worker) 0 (said_lanes m.held)) a (lanes_left r (said_lanes n.held)) b) c.in-Ok.is c.flush.ensures.runs in
    act_safe R.records R.script R.settings g.E.Reach.exact m n c.flush.ensures.rest c.flush.ensures.rows c.flush.ensures.worker a b parts c.requires.safe h

pub returns-in-Ok-clause-runs : goal.returns-in-Ok-clause-runs
returns-in-Ok-clause-runs g c =
    let R = g.N.RunName in let m = c.args.self.now in let n = c.flush.new.self in let a = g.E.Reach.deeds c.args.reach.now in let b = g.E.Reach.deeds c.flush.new.reach in
    let h = subst (λ r. Runs g.E.Reach.exact (each_lane (flush m.vault.worker) 0 (said_lanes m.held)) a (lanes_left r (said_lanes n.held)) b) c.in-Ok.is c.flush.ensures.runs in
    let r : Mapper × Turn = (mapper_of R.records R.script R.settings c.act.new.self, said_turn c.act.result) in
    took_turn R.records R.script R.settings g.E.Reach.exact m n c.flush.ensures.rest c.flush.ensures.rows c.flush.ensures.worker a b (g.E.Reach.deeds c.act.new.reach) r h c.act.ensures.runs

pub returns-in-Err-clause-runs : goal.returns-in-Err-clause-runs
returns-in-Err-clause-runs g c =
    let R = g.N.RunName in let m = c.args.self.now in let n = c.flush.new.self in let a = g.E.Reach.deeds c.args.reach.now in let b = g.E.Reach.deeds c.flush.new.reach in
    let h = subst (λ r. Runs g.E.Reach.exact (each_lane (flush m.vault.worker) 0 (said_lanes m.held)) a (lanes_left r (said_lanes n.held)) b) c.in-Err.is c.flush.ensures.runs in
    let stopped = turn_stopped R.records R.script R.settings g.E.Reach.exact m n c.flush.ensures.rest c.flush.ensures.rows c.flush.ensures.worker a b h in
    let said = ap (λ f. Rattle.hop_actors.specs.Acting.said_fault f) c.flush_fault.ensures ∙ flush_stops c.worker-worker.result c.in-Err.fault in
    subst (λ t. Runs g.E.Reach.exact (takes_turn (mapper_of R.records R.script R.settings m)) a (mapper_of R.records R.script R.settings n, t) b) (sym said) stopped

pub returns-in-Err-clause-only : goal.returns-in-Err-clause-only
returns-in-Err-clause-only g c = only_same (g.V.Folder.seen c.args.self.now.vault.folder).held (g.V.Folder.seen c.flush.new.self.vault.folder).held c.flush.ensures.files
