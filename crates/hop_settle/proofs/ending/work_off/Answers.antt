use Rattle.std.proofs.Common.{rules, ◌≡◌, ℕ, ◌∙◌, List, [], map, length, arith, sym, ap, subst, Err}
use Rattle.hop_machine.specs.step.Steps.{Setup, Ends}
use Rattle.hop_machine.specs.play.Play.{World, Place, Listed, Passing, Emptying, Went}
use Rattle.hop_machine.proofs.play.Plays.{went_both, went_same}
use Rattle.hop_machine.proofs.run.Places.{went_at_home}
use Rattle.hop_machine.proofs.home.Here.{all_kept}
use Rattle.hop_actors.specs.declared.fault.Fault.{Fault}
use Rattle.hop_settle.specs.Crews.{world_of, actors_of, flags_of, AreWell}
use Rattle.hop_settle.specs.Drains.{AtLast}
use Rattle.hop_settle.specs.Stops.{place_after}
use Rattle.hop_settle.proofs.DrainLaws.{fault_place}
use Rattle.hop_settle.proofs.EndLaws.{late-went, told-went, still-met, same-board}
use Rattle.hop_settle.proofs.ending.work_off.Goals as goal

pub passes-requires-clause-home : goal.passes-requires-clause-home
passes-requires-clause-home g c =
    let E = g.E.Reach in let e = E.exact in let k = g.M.Store.mapper in let f = g.D.Taker.reducer in let x = c.requires.home.0 in
    let ms = map k c.args.mappers.now.items in let rs = map f c.args.reducers.now.items in let ss = map f c.all_late.new.reducers.items in let a = E.deeds c.args.reach.now in
    (x, went_at_home e (Listed [], world_of ms rs x a) (Passing (flags_of ms), world_of ms ss x a) (late-went e ms rs ss x a c.all_late.ensures.late) c.requires.home.1)

pub passes-requires-clause-turns : goal.passes-requires-clause-turns
passes-requires-clause-turns g c =
    let E = g.E.Reach in let k = g.M.Store.mapper in let f = g.D.Taker.reducer in
    c.turns_are_enough.ensures (actors_of (map k c.args.mappers.now.items) (map f c.args.reducers.now.items) c.requires.home.0) (E.deeds c.args.reach.now) c.requires.home.1 c.requires.sized c.requires.turns

pub returns-in_err-passes-clause-went : goal.returns-in_err-passes-clause-went
returns-in_err-passes-clause-went g c = λ x.
    let E = g.E.Reach in let e = E.exact in let k = g.M.Store.mapper in let f = g.D.Taker.reducer in let n = c.passes in
    let ms = map k c.args.mappers.now.items in let rs = map f c.args.reducers.now.items in let ss = map f c.all_late.new.reducers.items in let a = E.deeds c.args.reach.now in
    let D : World = world_of (map k n.new.mappers.items) (map f n.new.reducers.items) x (E.deeds n.new.reach) in
    let fault : Fault = c.in_err-passes.field-0.0 in
    let go : Place = Emptying (length c.args.reducers.now.items) in
    let place : place_after {A = Unit {0}} (Err fault) go ≡ place_after c.from_residual.result go = search rules in
    went_both e (Listed [], world_of ms rs x a) (Passing (flags_of ms), world_of ms ss x a) (place_after c.from_residual.result go, D) (late-went e ms rs ss x a c.all_late.ensures.late)
    (subst (λ (q : Place). Went e (Passing (flags_of ms), world_of ms ss x a) (q, D)) (ap (λ r. place_after r (Emptying 0)) c.in_err-passes.was ∙ fault_place fault (Emptying 0) go ∙ place) (n.ensures.went x))

pub meet_all-requires-clause-ends : goal.meet_all-requires-clause-ends
meet_all-requires-clause-ends g c =
    let E = g.E.Reach in let e = E.exact in let k = g.M.Store.mapper in let f = g.D.Taker.reducer in let n = c.passes in let x = c.requires.home.0 in
    let ms = map k c.args.mappers.now.items in let ss = map f c.all_late.new.reducers.items in let a = E.deeds c.args.reach.now in let b = E.deeds n.new.reach in
    all_kept a b (went_same e (Passing (flags_of ms), world_of ms ss x a) (Emptying 0, world_of (map k n.new.mappers.items) (map f n.new.reducers.items) x b) (c.in_ok-passes.ensures.went x)) n.ensures.ends c.requires.ends

pub drain_all-requires-clause-home : goal.drain_all-requires-clause-home
drain_all-requires-clause-home g c =
    let E = g.E.Reach in let e = E.exact in let k = g.M.Store.mapper in let f = g.D.Taker.reducer in let n = c.passes in let x = c.requires.home.0 in
    let ms = map k c.args.mappers.now.items in let rs = map f c.args.reducers.now.items in let ss = map f c.all_late.new.reducers.items in let a = E.deeds c.args.reach.now in let b = E.deeds n.new.reach in let d = E.deeds c.meet_all.new.reach in
    let ns = map k n.new.mappers.items in let us = map f n.new.reducers.items in
    let w = went_both e (Listed [], world_of ms rs x a) (Emptying 0, world_of ns us x b) (Emptying 0, world_of ns us x d)
    (went_both e (Listed [], world_of ms rs x a) (Passing (flags_of ms), world_of ms ss x a) (Emptying 0, world_of ns us x b) (late-went e ms rs ss x a c.all_late.ensures.late) (c.in_ok-passes.ensures.went x))
    (told-went e (Emptying 0) ns us x b d c.meet_all.ensures.learns) in
    (ns, x, record { stage = AtLast; home = went_at_home e (Listed [], world_of ms rs x a) (Emptying 0, world_of ns us x d) w c.requires.home.1 })

pub drain_all-requires-clause-ends : goal.drain_all-requires-clause-ends
drain_all-requires-clause-ends g c =
    let E = g.E.Reach in let e = E.exact in let k = g.M.Store.mapper in let f = g.D.Taker.reducer in let n = c.passes in let x = c.requires.home.0 in
    let ms = map k c.args.mappers.now.items in let ss = map f c.all_late.new.reducers.items in let a = E.deeds c.args.reach.now in let b = E.deeds n.new.reach in
    all_kept a (E.deeds c.meet_all.new.reach)
    (c.meet_all.ensures.learns.setup ∙ went_same e (Passing (flags_of ms), world_of ms ss x a) (Emptying 0, world_of (map k n.new.mappers.items) (map f n.new.reducers.items) x b) (c.in_ok-passes.ensures.went x))
    (c.meet_all.ensures.ends ∙ n.ensures.ends) c.requires.ends

pub returns-in_err-drain_all-clause-went : goal.returns-in_err-drain_all-clause-went
returns-in_err-drain_all-clause-went g c = λ x.
    let E = g.E.Reach in let e = E.exact in let k = g.M.Store.mapper in let f = g.D.Taker.reducer in let n = c.passes in let q = c.drain_all in
    let ms = map k c.args.mappers.now.items in let rs = map f c.args.reducers.now.items in let ss = map f c.all_late.new.reducers.items in let a = E.deeds c.args.reach.now in let b = E.deeds n.new.reach in let d = E.deeds c.meet_all.new.reach in
    let ns = map k n.new.mappers.items in let us = map f n.new.reducers.items in
    let D : World = world_of ns (map f q.new.reducers.items) x (E.deeds q.new.reach) in
    let fault : Fault = c.in_err-drain_all.field-0.0 in
    let go : Place = Emptying (length c.args.reducers.now.items) in
    let was : Place = Emptying (length n.new.reducers.items) in
    let place : place_after {A = Unit {0}} (Err fault) go ≡ place_after c.from_residual-in_err-drain_all.result go = search rules in
    went_both e (Listed [], world_of ms rs x a) (Emptying 0, world_of ns us x d) (place_after c.from_residual-in_err-drain_all.result go, D)
    (went_both e (Listed [], world_of ms rs x a) (Emptying 0, world_of ns us x b) (Emptying 0, world_of ns us x d)
    (went_both e (Listed [], world_of ms rs x a) (Passing (flags_of ms), world_of ms ss x a) (Emptying 0, world_of ns us x b) (late-went e ms rs ss x a c.all_late.ensures.late) (c.in_ok-passes.ensures.went x))
    (told-went e (Emptying 0) ns us x b d c.meet_all.ensures.learns))
    (subst (λ (p : Place). Went e (Emptying 0, world_of ns us x d) (p, D)) (ap (λ r. place_after r was) c.in_err-drain_all.was ∙ fault_place fault was go ∙ place) (q.ensures.went AtLast ns x))

pub meet_all-requires-2-clause-ends : goal.meet_all-requires-2-clause-ends
meet_all-requires-2-clause-ends g c =
    let E = g.E.Reach in let e = E.exact in let k = g.M.Store.mapper in let f = g.D.Taker.reducer in let n = c.passes in let x = c.requires.home.0 in
    let ms = map k c.args.mappers.now.items in let ss = map f c.all_late.new.reducers.items in let a = E.deeds c.args.reach.now in let b = E.deeds n.new.reach in
    all_kept a (E.deeds c.drain_all.new.reach)
    (c.in_ok-drain_all.ensures.drained.setup ∙ c.meet_all.ensures.learns.setup ∙ went_same e (Passing (flags_of ms), world_of ms ss x a) (Emptying 0, world_of (map k n.new.mappers.items) (map f n.new.reducers.items) x b) (c.in_ok-passes.ensures.went x))
    (c.drain_all.ensures.ends ∙ c.meet_all.ensures.ends ∙ n.ensures.ends) c.requires.ends

pub gather-requires : goal.gather-requires
gather-requires g c =
    let E = g.E.Reach in let e = E.exact in let k = g.M.Store.mapper in let f = g.D.Taker.reducer in let n = c.passes in let x = c.requires.home.0 in
    let ms = map k c.args.mappers.now.items in let ss = map f c.all_late.new.reducers.items in let a = E.deeds c.args.reach.now in let b = E.deeds n.new.reach in
    all_kept a (E.deeds c.meet_all-2.new.reach)
    (c.meet_all-2.ensures.learns.setup ∙ c.in_ok-drain_all.ensures.drained.setup ∙ c.meet_all.ensures.learns.setup
    ∙ went_same e (Passing (flags_of ms), world_of ms ss x a) (Emptying 0, world_of (map k n.new.mappers.items) (map f n.new.reducers.items) x b) (c.in_ok-passes.ensures.went x))
    (c.meet_all-2.ensures.ends ∙ c.drain_all.ensures.ends ∙ c.meet_all.ensures.ends ∙ n.ensures.ends) c.requires.ends

pub returns-clause-worked : goal.returns-clause-worked
returns-clause-worked g c = λ x.
    let E = g.E.Reach in let e = E.exact in let k = g.M.Store.mapper in let f = g.D.Taker.reducer in let n = c.passes in let q = c.drain_all in
    let ms = map k c.args.mappers.now.items in let rs = map f c.args.reducers.now.items in let ss = map f c.all_late.new.reducers.items in let ns = map k n.new.mappers.items in let us = map f n.new.reducers.items in let vs = map f q.new.reducers.items in
    let a = E.deeds c.args.reach.now in let b = E.deeds n.new.reach in let d = E.deeds c.meet_all.new.reach in let u = E.deeds q.new.reach in let v = E.deeds c.meet_all-2.new.reach in let z = E.deeds c.gather.new.self in
    let N = length c.args.reducers.now.items in
    let many : length n.new.reducers.items ≡ N = n.ensures.count.1 ∙ c.all_late.ensures.count in
    let drained : Went e (Emptying 0, world_of ns us x d) (Emptying N, world_of ns vs x u) = subst (λ (i : ℕ). Went e (Emptying 0, world_of ns us x d) (Emptying i, world_of ns vs x u)) many (c.in_ok-drain_all.ensures.went AtLast ns x) in
    record {
      b = world_of ns us x d;
      passes = went_both e (Listed [], world_of ms rs x a) (Emptying 0, world_of ns us x b) (Emptying 0, world_of ns us x d)
          (went_both e (Listed [], world_of ms rs x a) (Passing (flags_of ms), world_of ms ss x a) (Emptying 0, world_of ns us x b) (late-went e ms rs ss x a c.all_late.ensures.late) (c.in_ok-passes.ensures.went x))
          (told-went e (Emptying 0) ns us x b d c.meet_all.ensures.learns);
      met = c.meet_all.ensures.met;
      drains = went_both e (Emptying 0, world_of ns us x d) (Emptying N, world_of ns vs x v) (Emptying N, world_of ns vs x z)
          (went_both e (Emptying 0, world_of ns us x d) (Emptying N, world_of ns vs x u) (Emptying N, world_of ns vs x v) drained (told-went e (Emptying N) ns vs x u v c.meet_all-2.ensures.learns))
          (told-went e (Emptying N) ns vs x v z (c.ends_are_gathered.ensures.learns v z c.gather.ensures e));
      again = still-met v z c.gather.ensures c.meet_all-2.ensures.met;
      gathered = c.ends_are_gathered.ensures.gathered v z c.gather.ensures;
    }

pub returns-clause-went : goal.returns-clause-went
returns-clause-went g c = λ x.
    let E = g.E.Reach in let e = E.exact in let k = g.M.Store.mapper in let f = g.D.Taker.reducer in let n = c.passes in let q = c.drain_all in
    let ms = map k c.args.mappers.now.items in let rs = map f c.args.reducers.now.items in let ss = map f c.all_late.new.reducers.items in let ns = map k n.new.mappers.items in let us = map f n.new.reducers.items in let vs = map f q.new.reducers.items in
    let a = E.deeds c.args.reach.now in let b = E.deeds n.new.reach in let d = E.deeds c.meet_all.new.reach in let u = E.deeds q.new.reach in let v = E.deeds c.meet_all-2.new.reach in let z = E.deeds c.gather.new.self in
    let N = length c.args.reducers.now.items in
    let many : length n.new.reducers.items ≡ N = n.ensures.count.1 ∙ c.all_late.ensures.count in
    let drained : Went e (Emptying 0, world_of ns us x d) (Emptying N, world_of ns vs x u) = subst (λ (i : ℕ). Went e (Emptying 0, world_of ns us x d) (Emptying i, world_of ns vs x u)) many (c.in_ok-drain_all.ensures.went AtLast ns x) in
    went_both e (Listed [], world_of ms rs x a) (Emptying N, world_of ns vs x v) (Emptying N, world_of ns vs x z)
    (went_both e (Listed [], world_of ms rs x a) (Emptying N, world_of ns vs x u) (Emptying N, world_of ns vs x v)
    (went_both e (Listed [], world_of ms rs x a) (Emptying 0, world_of ns us x d) (Emptying N, world_of ns vs x u)
    (went_both e (Listed [], world_of ms rs x a) (Emptying 0, world_of ns us x b) (Emptying 0, world_of ns us x d)
    (went_both e (Listed [], world_of ms rs x a) (Passing (flags_of ms), world_of ms ss x a) (Emptying 0, world_of ns us x b) (late-went e ms rs ss x a c.all_late.ensures.late) (c.in_ok-passes.ensures.went x))
    (told-went e (Emptying 0) ns us x b d c.meet_all.ensures.learns))
    drained)
    (told-went e (Emptying N) ns vs x u v c.meet_all-2.ensures.learns))
    (told-went e (Emptying N) ns vs x v z (c.ends_are_gathered.ensures.learns v z c.gather.ensures e))

pub returns-clause-ends : goal.returns-clause-ends
returns-clause-ends g c =
    let E = g.E.Reach in let v = E.deeds c.meet_all-2.new.reach in let z = E.deeds c.gather.new.self in
    let k = g.M.Store.mapper in let f = g.D.Taker.reducer in let n = c.passes in let x = c.requires.home.0 in
    let ms = map k c.args.mappers.now.items in let ss = map f c.all_late.new.reducers.items in let a = E.deeds c.args.reach.now in let b = E.deeds n.new.reach in
    let has = all_kept a v
    (c.meet_all-2.ensures.learns.setup ∙ c.in_ok-drain_all.ensures.drained.setup ∙ c.meet_all.ensures.learns.setup
    ∙ went_same E.exact (Passing (flags_of ms), world_of ms ss x a) (Emptying 0, world_of (map k n.new.mappers.items) (map f n.new.reducers.items) x b) (c.in_ok-passes.ensures.went x))
    (c.meet_all-2.ensures.ends ∙ c.drain_all.ensures.ends ∙ c.meet_all.ensures.ends ∙ n.ensures.ends) c.requires.ends in
    let law = c.ends_are_gathered.ensures in (
      λ p l. law.reducer v z c.gather.ensures p (has.reducer p (let s = ap (λ (s : Setup). s.reducers) (law.learns v z c.gather.ensures E.exact).setup in omega (arith, s, l))),
      law.writer v z c.gather.ensures has.writer,
    )

pub returns-clause-well : goal.returns-clause-well
returns-clause-well g c =
    let E = g.E.Reach in let M = g.M.Actor in
    let board : (E.deeds c.gather.new.self).ends.board ≡ (E.deeds c.passes.new.reach).ends.board =
    same-board (E.deeds c.meet_all-2.new.reach) (E.deeds c.gather.new.self) c.gather.ensures ∙ ap (λ (o : Ends). o.board) (c.meet_all-2.ensures.ends ∙ c.drain_all.ensures.ends ∙ c.meet_all.ensures.ends) in
    subst (λ (o : List ℕ). AreWell M.failed M.fits o c.passes.new.mappers.items) (sym board) c.in_ok-passes.ensures.well
