use Rattle.std.proofs.Common.{rules, ◌≡◌, ℕ, ◌+◌, ◌∙◌, map, length, arith, refl, ap, subst, Err}
use Rattle.std.proofs.lemmas.List.{length-map}
use Rattle.hop_machine.specs.play.Play.{Place, Went}
use Rattle.hop_machine.proofs.play.Plays.{went_self, went_both}
use Rattle.hop_machine.proofs.home.Here.{all_kept}
use Rattle.hop_machine.proofs.settling.Drains.{drained-start}
use Rattle.hop_actors.specs.declared.fault.Fault.{Fault}
use Rattle.hop_settle.specs.Crews.{world_of}
use Rattle.hop_settle.specs.Drains.{drains_at, after_drains}
use Rattle.hop_settle.specs.Stops.{place_after}
use Rattle.hop_settle.proofs.DrainLaws.{home_here, drains_done, fault_place}
use Rattle.hop_settle.proofs.drains.drain_all.Goals as goal

pub loop-p-init : goal.loop-p-init
loop-p-init g c = record {
  count = refl;
  ends = refl;
  drained = drained-start (g.E.Reach.deeds c.args.reach.now);
  went = λ s ms x. went_self g.E.Reach.exact (drains_at s 0, world_of ms (map g.D.Taker.reducer c.args.reducers.now.items) x (g.E.Reach.deeds c.args.reach.now));
}

pub drain_one-requires-clause-home : goal.drain_one-requires-clause-home
drain_one-requires-clause-home g c =
    let E = g.E.Reach in let f = g.D.Taker.reducer in let l = c.loop-p in let h = c.requires.home in
    (h.0, h.1, home_here E.exact 0 l.p (map f c.args.reducers.now.items) (E.deeds c.args.reach.now) (map f l.reducers.items) (E.deeds l.reach) h.0 h.1 h.2 (λ s. l.invariant.went s h.0 h.1))

pub drain_one-requires-clause-ends : goal.drain_one-requires-clause-ends
drain_one-requires-clause-ends g c = let E = g.E.Reach in let i = c.loop-p.invariant in all_kept (E.deeds c.args.reach.now) (E.deeds c.loop-p.reach) i.drained.setup i.ends c.requires.ends

pub returns-in_err-drain_one-clause-went : goal.returns-in_err-drain_one-clause-went
returns-in_err-drain_one-clause-went g c = λ s ms x.
    let E = g.E.Reach in let e = E.exact in let f = g.D.Taker.reducer in let l = c.loop-p in let n = c.drain_one in
    let a = E.deeds c.args.reach.now in let b = E.deeds l.reach in let d = E.deeds n.new.reach in
    let rs = map f c.args.reducers.now.items in let ss = map f l.reducers.items in let us = map f n.new.reducers.items in
    let fault : Fault = c.in_err-drain_one.field-0.0 in
    let go : Place = after_drains s (length c.args.reducers.now.items) in
    let place : place_after {A = Unit {0}} (Err fault) go ≡ place_after c.from_residual.result go = search rules in
    went_both e (drains_at s 0, world_of ms rs x a) (drains_at s l.p, world_of ms ss x b) (place_after c.from_residual.result go, world_of ms us x d) (l.invariant.went s ms x)
    (subst (λ (q : Place). Went e (drains_at s l.p, world_of ms ss x b) (q, world_of ms us x d))
    (ap (λ r. place_after r (drains_at s (l.p + 1))) c.in_err-drain_one.was ∙ fault_place fault (drains_at s (l.p + 1)) go ∙ place) (n.ensures.went s ms x))

pub loop-p-preserved : goal.loop-p-preserved
loop-p-preserved g c =
    let E = g.E.Reach in let e = E.exact in let f = g.D.Taker.reducer in let l = c.loop-p in let n = c.drain_one in
    let a = E.deeds c.args.reach.now in let b = E.deeds l.reach in let d = E.deeds n.new.reach in
    let rs = map f c.args.reducers.now.items in let ss = map f l.reducers.items in let us = map f n.new.reducers.items in
    record {
      count = n.ensures.count ∙ l.invariant.count;
      ends = n.ensures.ends ∙ l.invariant.ends;
      drained = c.in_ok-drain_one.ensures.drained a l.invariant.drained;
      went = λ s ms x. went_both e (drains_at s 0, world_of ms rs x a) (drains_at s l.p, world_of ms ss x b) (drains_at s (l.p + 1), world_of ms us x d) (l.invariant.went s ms x)
          (c.in_ok-drain_one.ensures.went s ms x);
    }

pub returns-clause-went : goal.returns-clause-went
returns-clause-went g c = λ s ms x.
    let E = g.E.Reach in let f = g.D.Taker.reducer in let l = c.loop-p in
    let many : l.p ≡ length c.args.reducers.now.items = let t = c.loop-p-test.false in let b = l.auto.p-end in omega arith in
    drains_done E.exact (map f c.args.reducers.now.items) (E.deeds c.args.reach.now) (map f l.reducers.items) (E.deeds l.reach) ms x (length c.args.reducers.now.items)
    (let n = l.invariant.count in omega (arith, n, length-map l.reducers.items f)) s
    (subst (λ (k : ℕ). Went E.exact (drains_at s 0, world_of ms (map f c.args.reducers.now.items) x (E.deeds c.args.reach.now)) (drains_at s k, world_of ms (map f l.reducers.items) x (E.deeds l.reach))) many (l.invariant.went s ms x))
