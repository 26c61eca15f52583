use Rattle.std.proofs.Common.{rules, ◌≡◌, ℕ, ◌∙◌, map, length, arith, refl, sym, ap, subst, Err}
use Rattle.std.proofs.lemmas.List.{length-map}
use Rattle.hop_machine.specs.step.Steps.{Setup, Ends}
use Rattle.hop_machine.specs.play.Play.{Place, Mapping, Draining, Passing, Went, has_ended}
use Rattle.hop_machine.specs.settling.Settling.{Drained, PassFell}
use Rattle.hop_machine.proofs.play.Plays.{went_both, went_learns, went_same}
use Rattle.hop_machine.proofs.run.Places.{went_at_home}
use Rattle.hop_machine.proofs.home.Here.{all_kept}
use Rattle.hop_machine.proofs.settling.Drains.{drained-start, drained-room, drained-left}
use Rattle.hop_machine.proofs.settling.Passes.{pass-less}
use Rattle.hop_actors.specs.declared.fault.Fault.{Fault}
use Rattle.hop_settle.specs.Crews.{world_of, flags_of, AreWell}
use Rattle.hop_settle.specs.Drains.{AfterPass, after_drains}
use Rattle.hop_settle.specs.Stops.{place_after}
use Rattle.hop_settle.proofs.DrainLaws.{fault_place}
use Rattle.hop_settle.proofs.settling.pass.Goals as goal

pub returns-in_err-map_all-clause-went : goal.returns-in_err-map_all-clause-went
returns-in_err-map_all-clause-went g c = λ x.
    let E = g.E.Reach in let e = E.exact in let f = g.M.Store.mapper in let h = g.D.Taker.reducer in let n = c.map_all in
    let ms = map f c.args.mappers.now.items in let ns = map f n.new.mappers.items in let rs = map h c.args.reducers.now.items in
    let fault : Fault = c.in_err-map_all.field-0.0 in
    let go : Place = Passing (flags_of ns) in
    let place : place_after {A = Unit {0}} (Err fault) go ≡ place_after c.from_residual.result go = search rules in
    subst (λ (q : Place). Went e (Mapping 0 (flags_of ms), world_of ms rs x (E.deeds c.args.reach.now)) (q, world_of ns rs x (E.deeds n.new.reach)))
    (ap (λ r. place_after r (Draining 0 (flags_of ns))) c.in_err-map_all.was ∙ fault_place fault (Draining 0 (flags_of ns)) go ∙ place) (n.ensures.went rs x)

pub meet_all-requires-clause-ends : goal.meet_all-requires-clause-ends
meet_all-requires-clause-ends g c =
    let E = g.E.Reach in let f = g.M.Store.mapper in let h = g.D.Taker.reducer in let n = c.map_all in let x = c.requires.home.0 in
    let ms = map f c.args.mappers.now.items in let ns = map f n.new.mappers.items in let rs = map h c.args.reducers.now.items in
    let a = E.deeds c.args.reach.now in let b = E.deeds n.new.reach in
    all_kept a b (went_same E.exact (Mapping 0 (flags_of ms), world_of ms rs x a) (Draining 0 (flags_of ns), world_of ns rs x b) (c.in_ok-map_all.ensures.went rs x)) n.ensures.ends c.requires.ends

pub drain_all-requires-clause-home : goal.drain_all-requires-clause-home
drain_all-requires-clause-home g c =
    let E = g.E.Reach in let e = E.exact in let f = g.M.Store.mapper in let h = g.D.Taker.reducer in let n = c.map_all in let x = c.requires.home.0 in
    let ms = map f c.args.mappers.now.items in let ns = map f n.new.mappers.items in let rs = map h c.args.reducers.now.items in
    let a = E.deeds c.args.reach.now in let b = E.deeds n.new.reach in let d = E.deeds c.meet_all.new.reach in
    let w = went_both e (Mapping 0 (flags_of ms), world_of ms rs x a) (Draining 0 (flags_of ns), world_of ns rs x b) (Draining 0 (flags_of ns), world_of ns rs x d) (c.in_ok-map_all.ensures.went rs x)
    (went_learns e (Draining 0 (flags_of ns), world_of ns rs x b) (Draining 0 (flags_of ns), world_of ns rs x d) refl refl c.meet_all.ensures.learns) in
    (ns, x, record { stage = AfterPass (flags_of ns); home = went_at_home e (Mapping 0 (flags_of ms), world_of ms rs x a) (Draining 0 (flags_of ns), world_of ns rs x d) w c.requires.home.1 })

pub drain_all-requires-clause-ends : goal.drain_all-requires-clause-ends
drain_all-requires-clause-ends g c =
    let E = g.E.Reach in let f = g.M.Store.mapper in let h = g.D.Taker.reducer in let n = c.map_all in let x = c.requires.home.0 in
    let ms = map f c.args.mappers.now.items in let ns = map f n.new.mappers.items in let rs = map h c.args.reducers.now.items in
    let a = E.deeds c.args.reach.now in let b = E.deeds n.new.reach in let d = E.deeds c.meet_all.new.reach in
    all_kept a d (c.meet_all.ensures.learns.setup ∙ went_same E.exact (Mapping 0 (flags_of ms), world_of ms rs x a) (Draining 0 (flags_of ns), world_of ns rs x b) (c.in_ok-map_all.ensures.went rs x)) (c.meet_all.ensures.ends ∙ n.ensures.ends) c.requires.ends

pub returns-in_err-drain_all-clause-went : goal.returns-in_err-drain_all-clause-went
returns-in_err-drain_all-clause-went g c = λ x.
    let E = g.E.Reach in let e = E.exact in let f = g.M.Store.mapper in let h = g.D.Taker.reducer in let n = c.map_all in let k = c.drain_all in
    let ms = map f c.args.mappers.now.items in let ns = map f n.new.mappers.items in let rs = map h c.args.reducers.now.items in let us = map h k.new.reducers.items in
    let a = E.deeds c.args.reach.now in let b = E.deeds n.new.reach in let d = E.deeds c.meet_all.new.reach in let u = E.deeds k.new.reach in
    let s = AfterPass (flags_of ns) in let N = length c.args.reducers.now.items in
    let fault : Fault = c.in_err-drain_all.field-0.0 in
    let go : Place = Passing (flags_of ns) in
    let place : place_after {A = Unit {0}} (Err fault) go ≡ place_after c.from_residual-in_err-drain_all.result go = search rules in
    went_both e (Mapping 0 (flags_of ms), world_of ms rs x a) (Draining 0 (flags_of ns), world_of ns rs x d) (place_after c.from_residual-in_err-drain_all.result go, world_of ns us x u)
    (went_both e (Mapping 0 (flags_of ms), world_of ms rs x a) (Draining 0 (flags_of ns), world_of ns rs x b) (Draining 0 (flags_of ns), world_of ns rs x d) (c.in_ok-map_all.ensures.went rs x)
    (went_learns e (Draining 0 (flags_of ns), world_of ns rs x b) (Draining 0 (flags_of ns), world_of ns rs x d) refl refl c.meet_all.ensures.learns))
    (subst (λ (q : Place). Went e (Draining 0 (flags_of ns), world_of ns rs x d) (q, world_of ns us x u)) (ap (λ r. place_after r (after_drains s N)) c.in_err-drain_all.was ∙ place) (k.ensures.went s ns x))

pub meet_all-requires-2-clause-ends : goal.meet_all-requires-2-clause-ends
meet_all-requires-2-clause-ends g c =
    let E = g.E.Reach in let f = g.M.Store.mapper in let h = g.D.Taker.reducer in let n = c.map_all in let x = c.requires.home.0 in
    let ms = map f c.args.mappers.now.items in let ns = map f n.new.mappers.items in let rs = map h c.args.reducers.now.items in
    let a = E.deeds c.args.reach.now in let b = E.deeds n.new.reach in
    all_kept a (E.deeds c.drain_all.new.reach)
    (c.in_ok-drain_all.ensures.drained.setup ∙ c.meet_all.ensures.learns.setup ∙ went_same E.exact (Mapping 0 (flags_of ms), world_of ms rs x a) (Draining 0 (flags_of ns), world_of ns rs x b) (c.in_ok-map_all.ensures.went rs x))
    (c.drain_all.ensures.ends ∙ c.meet_all.ensures.ends ∙ n.ensures.ends) c.requires.ends

pub returns-clause-went : goal.returns-clause-went
returns-clause-went g c = λ x.
    let E = g.E.Reach in let e = E.exact in let f = g.M.Store.mapper in let h = g.D.Taker.reducer in let n = c.map_all in let k = c.drain_all in
    let ms = map f c.args.mappers.now.items in let ns = map f n.new.mappers.items in let rs = map h c.args.reducers.now.items in let us = map h k.new.reducers.items in
    let a = E.deeds c.args.reach.now in let b = E.deeds n.new.reach in let d = E.deeds c.meet_all.new.reach in let u = E.deeds k.new.reach in let z = E.deeds c.meet_all-2.new.reach in
    let F = flags_of ms in let G = flags_of ns in
    went_both e (Mapping 0 F, world_of ms rs x a) (Passing G, world_of ns us x u) (Passing G, world_of ns us x z)
    (went_both e (Mapping 0 F, world_of ms rs x a) (Draining 0 G, world_of ns rs x d) (Passing G, world_of ns us x u)
    (went_both e (Mapping 0 F, world_of ms rs x a) (Draining 0 G, world_of ns rs x b) (Draining 0 G, world_of ns rs x d) (c.in_ok-map_all.ensures.went rs x)
    (went_learns e (Draining 0 G, world_of ns rs x b) (Draining 0 G, world_of ns rs x d) refl refl c.meet_all.ensures.learns))
    (c.in_ok-drain_all.ensures.went (AfterPass G) ns x))
    (went_learns e (Passing G, world_of ns us x u) (Passing G, world_of ns us x z) refl refl c.meet_all-2.ensures.learns)

pub returns-clause-well : goal.returns-clause-well
returns-clause-well g c =
    let M = g.M.Actor in
    subst (λ (o : Ends). AreWell M.failed M.fits o.board c.map_all.new.mappers.items) (sym (c.meet_all-2.ensures.ends ∙ c.drain_all.ensures.ends ∙ c.meet_all.ensures.ends)) c.in_ok-map_all.ensures.well

pub returns-clause-room : goal.returns-clause-room
returns-clause-room g c = λ w l.
    let E = g.E.Reach in let e = E.exact in let f = g.M.Store.mapper in let h = g.D.Taker.reducer in let n = c.map_all in let x = c.requires.home.0 in
    let ms = map f c.args.mappers.now.items in let ns = map f n.new.mappers.items in let rs = map h c.args.reducers.now.items in
    let a = E.deeds c.args.reach.now in let b = E.deeds n.new.reach in let d = E.deeds c.meet_all.new.reach in let u = E.deeds c.drain_all.new.reach in let z = E.deeds c.meet_all-2.new.reach in
    let same : d.setup ≡ a.setup = c.meet_all.ensures.learns.setup ∙ went_same e (Mapping 0 (flags_of ms), world_of ms rs x a) (Draining 0 (flags_of ns), world_of ns rs x b) (c.in_ok-map_all.ensures.went rs x) in
    let home = c.requires.home.1.ready.home in
    let many : length c.args.reducers.now.items ≡ d.setup.reducers = sym (length-map c.args.reducers.now.items h) ∙ home.reducers ∙ ap (λ (s : Setup). s.reducers) (sym same) in
    let P : ℕ → Type 0 = λ k. Drained k d u in
    let cap = ap (λ (s : Setup). s.capacity) same in let wk = ap (λ (s : Setup). s.workers) same in let r = c.requires.sized.room in let m = home.workers in
    drained-room e d u z c.meet_all.ensures.met (subst P many c.in_ok-drain_all.ensures.drained) c.meet_all-2.ensures.learns c.meet_all-2.ensures.met (omega (arith, cap, r)) w
    (omega (arith, wk, m, length-map c.args.mappers.now.items f, l))

pub returns-clause-less : goal.returns-clause-less
returns-clause-less g c = λ some room.
    let E = g.E.Reach in let e = E.exact in let f = g.M.Store.mapper in let h = g.D.Taker.reducer in let n = c.map_all in
    let ms = map f c.args.mappers.now.items in let ns = map f n.new.mappers.items in
    let a = E.deeds c.args.reach.now in let b = E.deeds n.new.reach in let d = E.deeds c.meet_all.new.reach in let u = E.deeds c.drain_all.new.reach in let z = E.deeds c.meet_all-2.new.reach in
    let F = flags_of ms in let G = flags_of ns in
    let L = length-map c.args.mappers.now.items f in
    let P : ℕ → Type 0 = λ k. PassFell k ms F a ns G b in
    let less = pass-less ms ns F G a b (length-map ms has_ended) some (subst P (sym L) c.in_ok-map_all.ensures.fell) (λ v l. room v (omega (arith, L, l))) in
    let first = drained-left e 0 ns G b b d (drained-start b) c.meet_all.ensures.learns in
    let second = drained-left e (length c.args.reducers.now.items) ns G d u z c.in_ok-drain_all.ensures.drained c.meet_all-2.ensures.learns in
    omega (arith, less, first, second)
