use Rattle.std.proofs.Common.{rules, ◌≡◌, ◌+◌, ◌∙◌, false, map, arith, refl, sym, ap, subst, Err}
use Rattle.hop_machine.specs.step.Steps.{Setup}
use Rattle.hop_machine.specs.play.Play.{World, Place, Mapping, Passing, Emptying, Went, all_true}
use Rattle.hop_machine.specs.settling.Settling.{pass_left}
use Rattle.hop_machine.proofs.play.Plays.{went_self, went_both, went_same}
use Rattle.hop_machine.proofs.play.Going.{passes-again, passes-over}
use Rattle.hop_machine.proofs.run.Places.{went_at_home}
use Rattle.hop_machine.proofs.home.Here.{all_kept}
use Rattle.hop_actors.specs.declared.fault.Fault.{Fault}
use Rattle.hop_settle.specs.Crews.{world_of, actors_of, flags_of, TurnsBelow}
use Rattle.hop_settle.specs.Stops.{place_after}
use Rattle.hop_settle.proofs.DrainLaws.{fault_place}
use Rattle.hop_settle.proofs.PassLaws.{falls}
use Rattle.hop_settle.proofs.settling.passes.Goals as goal

pub loop-mappers-init : goal.loop-mappers-init
loop-mappers-init g c =
    let E = g.E.Reach in let f = g.M.Store.mapper in let ms = map f c.args.mappers.now.items in let t = c.requires.turns in record {
      count = (refl, refl);
      ends = refl;
      well = c.requires.well;
      counts = refl;
      turns = (t.taken, t.below, t.enough);
      room = λ h. cc;
      went = λ x. went_self E.exact (Passing (flags_of ms), world_of ms (map g.D.Taker.reducer c.args.reducers.now.items) x (E.deeds c.args.reach.now));
    }

pub pass-requires-clause-home : goal.pass-requires-clause-home
pass-requires-clause-home g c =
    let E = g.E.Reach in let e = E.exact in let f = g.M.Store.mapper in let h = g.D.Taker.reducer in let l = c.loop-mappers in let x = c.requires.home.0 in
    let ms = map f c.args.mappers.now.items in let ns = map f l.mappers.items in
    let A : World = world_of ms (map h c.args.reducers.now.items) x (E.deeds c.args.reach.now) in let B : World = world_of ns (map h l.reducers.items) x (E.deeds l.reach) in
    let some : all_true (flags_of ns) ≡ false = sym c.all_ended.ensures ∙ c.loop-mappers-test.true in
    (x, went_at_home e (Passing (flags_of ms), A) (Mapping 0 (flags_of ns), B) (went_both e (Passing (flags_of ms), A) (Passing (flags_of ns), B) (Mapping 0 (flags_of ns), B) (l.invariant.went x) (passes-again e (flags_of ns) B some)) c.requires.home.1)

pub pass-requires-clause-ends : goal.pass-requires-clause-ends
pass-requires-clause-ends g c =
    let E = g.E.Reach in let f = g.M.Store.mapper in let h = g.D.Taker.reducer in let l = c.loop-mappers in let x = c.requires.home.0 in
    let ms = map f c.args.mappers.now.items in let ns = map f l.mappers.items in
    all_kept (E.deeds c.args.reach.now) (E.deeds l.reach)
    (went_same E.exact (Passing (flags_of ms), world_of ms (map h c.args.reducers.now.items) x (E.deeds c.args.reach.now)) (Passing (flags_of ns), world_of ns (map h l.reducers.items) x (E.deeds l.reach)) (l.invariant.went x))
    l.invariant.ends c.requires.ends

pub pass-requires-clause-turns : goal.pass-requires-clause-turns
pass-requires-clause-turns g c = λ k m is. let t = c.loop-mappers.invariant.turns in let b = t.1 k m is in let n = t.2 in omega (arith, b, n)

pub pass-requires-clause-sized : goal.pass-requires-clause-sized
pass-requires-clause-sized g c =
    let E = g.E.Reach in let f = g.M.Store.mapper in let h = g.D.Taker.reducer in let l = c.loop-mappers in let x = c.requires.home.0 in
    let ms = map f c.args.mappers.now.items in let ns = map f l.mappers.items in
    subst (λ (s : Setup). Rattle.hop_settle.specs.Crews.IsSized s)
    (sym (went_same E.exact (Passing (flags_of ms), world_of ms (map h c.args.reducers.now.items) x (E.deeds c.args.reach.now)) (Passing (flags_of ns), world_of ns (map h l.reducers.items) x (E.deeds l.reach)) (l.invariant.went x)))
    c.requires.sized

pub returns-in_err-pass-clause-went : goal.returns-in_err-pass-clause-went
returns-in_err-pass-clause-went g c = λ x.
    let E = g.E.Reach in let e = E.exact in let f = g.M.Store.mapper in let h = g.D.Taker.reducer in let l = c.loop-mappers in let n = c.pass in
    let ms = map f c.args.mappers.now.items in let ns = map f l.mappers.items in let os = map f n.new.mappers.items in
    let A : World = world_of ms (map h c.args.reducers.now.items) x (E.deeds c.args.reach.now) in let B : World = world_of ns (map h l.reducers.items) x (E.deeds l.reach) in
    let D : World = world_of os (map h n.new.reducers.items) x (E.deeds n.new.reach) in
    let some : all_true (flags_of ns) ≡ false = sym c.all_ended.ensures ∙ c.loop-mappers-test.true in
    let fault : Fault = c.in_err-pass.field-0.0 in
    let go : Place = Emptying 0 in
    let place : place_after {A = Unit {0}} (Err fault) go ≡ place_after c.from_residual.result go = search rules in
    went_both e (Passing (flags_of ms), A) (Mapping 0 (flags_of ns), B) (place_after c.from_residual.result go, D)
    (went_both e (Passing (flags_of ms), A) (Passing (flags_of ns), B) (Mapping 0 (flags_of ns), B) (l.invariant.went x) (passes-again e (flags_of ns) B some))
    (subst (λ (q : Place). Went e (Mapping 0 (flags_of ns), B) (q, D)) (ap (λ r. place_after r (Passing (flags_of os))) c.in_err-pass.was ∙ fault_place fault (Passing (flags_of os)) go ∙ place) (n.ensures.went x))

pub loop-mappers-smaller : goal.loop-mappers-smaller
loop-mappers-smaller g c =
    let E = g.E.Reach in let f = g.M.Store.mapper in let l = c.loop-mappers in let n = c.pass in let k = c.in_ok-pass.ensures in
    let ns = map f l.mappers.items in let os = map f n.new.mappers.items in
    let some : all_true (flags_of ns) ≡ false = sym c.all_ended.ensures ∙ c.loop-mappers-test.true in
    falls l.first (pass_left os (flags_of os) (E.deeds n.new.reach)) (pass_left ns (flags_of ns) (E.deeds l.reach)) k.le (λ first. k.less some (l.invariant.room first))

pub loop-mappers-preserved : goal.loop-mappers-preserved
loop-mappers-preserved g c =
    let E = g.E.Reach in let e = E.exact in let f = g.M.Store.mapper in let h = g.D.Taker.reducer in let l = c.loop-mappers in let n = c.pass in let k = c.in_ok-pass.ensures in
    let ms = map f c.args.mappers.now.items in let ns = map f l.mappers.items in let os = map f n.new.mappers.items in
    let some : all_true (flags_of ns) ≡ false = sym c.all_ended.ensures ∙ c.loop-mappers-test.true in
    let less = falls l.first (pass_left os (flags_of os) (E.deeds n.new.reach)) (pass_left ns (flags_of ns) (E.deeds l.reach)) k.le (λ first. k.less some (l.invariant.room first)) in
    let t = l.invariant.turns in let i = l.invariant in
    record {
      count = (n.ensures.count.0 ∙ i.count.0, n.ensures.count.1 ∙ i.count.1);
      ends = n.ensures.ends ∙ i.ends;
      well = k.well;
      counts = k.counts ∙ i.counts;
      turns = let o = t.2 in (t.0 + 1, n.ensures.turns t.0 (omega (arith, o)) t.1, omega (arith, o, less));
      room = λ first w lw. k.room w (let m = n.ensures.count.0 in omega (arith, m, lw));
      went = λ x.
          let A : World = world_of ms (map h c.args.reducers.now.items) x (E.deeds c.args.reach.now) in let B : World = world_of ns (map h l.reducers.items) x (E.deeds l.reach) in
          let D : World = world_of os (map h n.new.reducers.items) x (E.deeds n.new.reach) in
          went_both e (Passing (flags_of ms), A) (Mapping 0 (flags_of ns), B) (Passing (flags_of os), D)
          (went_both e (Passing (flags_of ms), A) (Passing (flags_of ns), B) (Mapping 0 (flags_of ns), B) (i.went x) (passes-again e (flags_of ns) B some)) (k.went x);
    }

pub returns-clause-went : goal.returns-clause-went
returns-clause-went g c = λ x.
    let E = g.E.Reach in let e = E.exact in let f = g.M.Store.mapper in let h = g.D.Taker.reducer in let l = c.loop-mappers in
    let ms = map f c.args.mappers.now.items in let ns = map f l.mappers.items in
    let A : World = world_of ms (map h c.args.reducers.now.items) x (E.deeds c.args.reach.now) in let B : World = world_of ns (map h l.reducers.items) x (E.deeds l.reach) in
    went_both e (Passing (flags_of ms), A) (Passing (flags_of ns), B) (Emptying 0, B) (l.invariant.went x) (passes-over e (flags_of ns) B (sym c.all_ended.ensures ∙ c.loop-mappers-test.false))
