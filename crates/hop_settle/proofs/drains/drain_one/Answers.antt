use Rattle.std.proofs.Common.{rules, ◌≡◌, ◌+◌, ◌<◌, ◌∙◌, Bool, map, length, arith, refl, sym, subst, cond, Err}
use Rattle.std.proofs.lemmas.List.{length-map}
use Rattle.hop_machine.specs.step.Steps.{Setup, rules_of}
use Rattle.hop_machine.specs.play.Play.{Place, Went}
use Rattle.hop_machine.specs.settling.Settling.{most_messages, BoundsLists, drain_left}
use Rattle.hop_machine.proofs.settling.ListBounds.{bounds-lists}
use Rattle.hop_machine.proofs.play.Plays.{went_self, went_both}
use Rattle.hop_machine.proofs.home.Here.{all_kept}
use Rattle.hop_actors.specs.Acting.{said_turn}
use Rattle.hop_actors.specs.declared.fault.Fault.{Fault}
use Rattle.hop_settle.specs.Crews.{world_of, actors_of}
use Rattle.hop_settle.specs.Drains.{drains_at}
use Rattle.hop_settle.specs.Stops.{place_after}
use Rattle.hop_settle.proofs.Lists.{map-at}
use Rattle.hop_settle.proofs.DrainLaws.{may_reduce, idle_is, fault_is, halts, goes_on, smaller, still_here, home_here, ready_so, red_ends, red_setup, red_count, red_goes, red_falls, red_drained}
use Rattle.hop_settle.proofs.drains.drain_one.Goals as goal

pub loop-idle-init : goal.loop-idle-init
loop-idle-init g c = record {
  count = refl;
  setup = refl;
  ends = refl;
  drained = λ a d. (d, λ e. cc);
  went = λ s ms x. went_self g.E.Reach.exact (drains_at s c.args.p, world_of ms (map g.D.Taker.reducer c.args.reducers.now.items) x (g.E.Reach.deeds c.args.reach.now));
}

pub reduce_turn-requires-clause-may : goal.reduce_turn-requires-clause-may
reduce_turn-requires-clause-may g c = λ r is.
    let E = g.E.Reach in let e = E.exact in let f = g.D.Taker.reducer in let l = c.loop-idle in let p = c.args.p in let h = c.requires.home in
    let a = E.deeds c.args.reach.now in let b = E.deeds l.reach in let rs = map f c.args.reducers.now.items in let ss = map f l.reducers.items in
    let here = ready_so p (actors_of h.0 ss h.1) b (home_here e p p rs a ss b h.0 h.1 h.2 (λ s. still_here e p p rs a ss b h.0 h.1 l.idle c.loop-idle-test.true s (l.invariant.went s h.0 h.1))) in
    let inside : p < length ss = let n = c.requires.place in let k = l.invariant.count in omega (arith, n, k, length-map l.reducers.items f) in
    may_reduce (actors_of h.0 ss h.1) b p (f r) here.0 (all_kept a b l.invariant.setup l.invariant.ends c.requires.ends) inside (map-at f l.reducers.items p r is)

pub returns-in_err-idle-clause-went : goal.returns-in_err-idle-clause-went
returns-in_err-idle-clause-went g c = λ s ms x.
    let E = g.E.Reach in let e = E.exact in let f = g.D.Taker.reducer in let l = c.loop-idle in let p = c.args.p in let n = c.reduce_turn in
    let a = E.deeds c.args.reach.now in let b = E.deeds l.reach in let d = E.deeds n.new.reach in
    let rs = map f c.args.reducers.now.items in let ss = map f l.reducers.items in let us = map f n.new.reducers.items in
    let fault : Fault = c.in_err-idle.field-0.0 in
    let is = fault_is n.result fault (sym c.was_idle.ensures ∙ c.in_err-idle.was) n.ensures.memory in
    let go : Place = drains_at s (p + 1) in
    let place : place_after {A = Unit {0}} (Err fault) go ≡ place_after c.from_residual.result go = search rules in
    let inside : p < length ss = let n = c.requires.place in let k = l.invariant.count in omega (arith, n, k, length-map l.reducers.items f) in
    let turned = red_goes e p ss b us (said_turn n.result) d n.ensures.reduced s ms x inside in
    went_both e (drains_at s p, world_of ms rs x a) (drains_at s p, world_of ms ss x b) (place_after c.from_residual.result go, world_of ms us x d)
    (still_here e p p rs a ss b ms x l.idle c.loop-idle-test.true s (l.invariant.went s ms x))
    (subst (λ (q : Place). Went e (drains_at s p, world_of ms ss x b) (q, world_of ms us x d)) (is.1 go (drains_at s p) ∙ sym (halts fault go is.0) ∙ place) turned)

pub returns-in_err-idle-clause-ends : goal.returns-in_err-idle-clause-ends
returns-in_err-idle-clause-ends g c =
    let E = g.E.Reach in let f = g.D.Taker.reducer in let l = c.loop-idle in let n = c.reduce_turn in
    red_ends E.exact c.args.p (map f l.reducers.items) (E.deeds l.reach) (map f n.new.reducers.items) (said_turn n.result) (E.deeds n.new.reach) n.ensures.reduced ∙ l.invariant.ends

pub loop-idle-smaller : goal.loop-idle-smaller
loop-idle-smaller g c =
    let E = g.E.Reach in let e = E.exact in let f = g.D.Taker.reducer in let l = c.loop-idle in let p = c.args.p in let h = c.requires.home in let n = c.reduce_turn in
    let a = E.deeds c.args.reach.now in let b = E.deeds l.reach in let d = E.deeds n.new.reach in
    let rs = map f c.args.reducers.now.items in let ss = map f l.reducers.items in let us = map f n.new.reducers.items in
    let here = ready_so p (actors_of h.0 ss h.1) b (home_here e p p rs a ss b h.0 h.1 h.2 (λ s. still_here e p p rs a ss b h.0 h.1 l.idle c.loop-idle-test.true s (l.invariant.went s h.0 h.1))) in
    let most = most_messages (rules_of a.setup) in
    let bounds : BoundsLists (rules_of b.setup) most = subst (λ (s : Setup). BoundsLists (rules_of s) most) (sym l.invariant.setup) (bounds-lists (rules_of a.setup)) in
    let falls = red_falls e p ss b us (said_turn n.result) d n.ensures.reduced (actors_of h.0 ss h.1) refl here.0 here.1 most bounds in
    smaller c.in_ok-idle.idle l.idle (drain_left most p d) (drain_left most p b) c.loop-idle-test.true
    (λ off. goes_on n.result c.in_ok-idle.idle (drain_left most p d < drain_left most p b) (sym c.was_idle.ensures ∙ c.in_ok-idle.was) off falls)

pub loop-idle-preserved : goal.loop-idle-preserved
loop-idle-preserved g c =
    let E = g.E.Reach in let e = E.exact in let f = g.D.Taker.reducer in let l = c.loop-idle in let p = c.args.p in let h = c.requires.home in let n = c.reduce_turn in
    let a = E.deeds c.args.reach.now in let b = E.deeds l.reach in let d = E.deeds n.new.reach in
    let rs = map f c.args.reducers.now.items in let ss = map f l.reducers.items in let us = map f n.new.reducers.items in
    let t = said_turn n.result in let z = n.ensures.reduced in
    let here = ready_so p (actors_of h.0 ss h.1) b (home_here e p p rs a ss b h.0 h.1 h.2 (λ s. still_here e p p rs a ss b h.0 h.1 l.idle c.loop-idle-test.true s (l.invariant.went s h.0 h.1))) in
    let is = idle_is n.result c.in_ok-idle.idle (sym c.was_idle.ensures ∙ c.in_ok-idle.was) in
    let inside : p < length ss = let n = c.requires.place in let k = l.invariant.count in omega (arith, n, k, length-map l.reducers.items f) in
    record {
      count = let k = red_count e p ss b us t d z in let o = l.invariant.count in omega (arith, k, o, length-map l.reducers.items f, length-map n.new.reducers.items f);
      setup = red_setup e p ss b us t d z ∙ l.invariant.setup;
      ends = red_ends e p ss b us t d z ∙ l.invariant.ends;
      drained = λ o k. let m = red_drained e p ss b us t d z (actors_of h.0 ss h.1) refl here.0 here.1 o (l.invariant.drained o k).0 in (m.0, λ i. m.1 (is.0 i));
      went = λ s ms x. went_both e (drains_at s p, world_of ms rs x a) (drains_at s p, world_of ms ss x b) (cond c.in_ok-idle.idle (drains_at s (p + 1)) (drains_at s p), world_of ms us x d)
          (still_here e p p rs a ss b ms x l.idle c.loop-idle-test.true s (l.invariant.went s ms x))
          (subst (λ (q : Place). Went e (drains_at s p, world_of ms ss x b) (q, world_of ms us x d)) (is.1 (drains_at s (p + 1)) (drains_at s p)) (red_goes e p ss b us t d z s ms x inside));
    }

pub returns-clause-went : goal.returns-clause-went
returns-clause-went g c = λ s ms x.
    let E = g.E.Reach in let f = g.D.Taker.reducer in let l = c.loop-idle in let p = c.args.p in
    subst (λ (t : Bool). Went E.exact (drains_at s p, world_of ms (map f c.args.reducers.now.items) x (E.deeds c.args.reach.now)) (cond t (drains_at s (p + 1)) (drains_at s p), world_of ms (map f l.reducers.items) x (E.deeds l.reach)))
    c.loop-idle-test.false (l.invariant.went s ms x)
