use Rattle.std.proofs.Common.{rules, ◌≡◌, ◌+◌, ◌^◌, ◌<◌, ◌∙◌, map, length, arith, refl, ap, subst, Err}
use Rattle.std.proofs.lemmas.List.{length-map}
use Rattle.hop_machine.specs.play.Play.{Place, Went, Mapping, Draining}
use Rattle.hop_machine.proofs.play.Plays.{went_self, went_both, went_same}
use Rattle.hop_machine.proofs.play.Going.{maps-over}
use Rattle.hop_machine.proofs.run.Places.{went_at_home}
use Rattle.hop_machine.proofs.home.Here.{all_kept}
use Rattle.hop_machine.proofs.settling.Passes.{pass-start}
use Rattle.hop_actors.specs.declared.fault.Fault.{Fault}
use Rattle.hop_settle.specs.Crews.{world_of, flags_of}
use Rattle.hop_settle.specs.Stops.{place_after}
use Rattle.hop_settle.proofs.DrainLaws.{fault_place, not_below}
use Rattle.hop_settle.proofs.PassLaws.{turns_begin, turns_end}
use Rattle.hop_settle.proofs.passes.map_all.Goals as goal

pub loop-w-init : goal.loop-w-init
loop-w-init g c =
    let E = g.E.Reach in let f = g.M.Store.mapper in let ms = map f c.args.mappers.now.items in let a = E.deeds c.args.reach.now in record {
      count = refl;
      ends = refl;
      well = c.requires.well;
      turns = λ n h. h;
      counts = refl;
      fell = pass-start ms (flags_of ms) a;
      went = λ rs x. went_self E.exact (Mapping 0 (flags_of ms), world_of ms rs x a);
    }

pub map_one-requires-clause-home : goal.map_one-requires-clause-home
map_one-requires-clause-home g c =
    let E = g.E.Reach in let f = g.M.Store.mapper in let l = c.loop-w in let h = c.requires.home in
    let ms = map f c.args.mappers.now.items in let ns = map f l.mappers.items in let a = E.deeds c.args.reach.now in let b = E.deeds l.reach in
    (h.0, h.1, went_at_home E.exact (Mapping 0 (flags_of ms), world_of ms h.0 h.1 a) (Mapping l.w (flags_of ns), world_of ns h.0 h.1 b) (l.invariant.went h.0 h.1) h.2)

pub map_one-requires-clause-ends : goal.map_one-requires-clause-ends
map_one-requires-clause-ends g c =
    let E = g.E.Reach in let f = g.M.Store.mapper in let l = c.loop-w in let h = c.requires.home in
    let ms = map f c.args.mappers.now.items in let ns = map f l.mappers.items in let a = E.deeds c.args.reach.now in let b = E.deeds l.reach in
    all_kept a b (went_same E.exact (Mapping 0 (flags_of ms), world_of ms h.0 h.1 a) (Mapping l.w (flags_of ns), world_of ns h.0 h.1 b) (l.invariant.went h.0 h.1)) l.invariant.ends c.requires.ends

pub map_one-requires-clause-turns : goal.map_one-requires-clause-turns
map_one-requires-clause-turns g c = c.loop-w.invariant.turns (2 ^ 56) (turns_begin (2 ^ 56) (map g.M.Store.mapper c.args.mappers.now.items) c.requires.turns)

pub returns-in_err-map_one-clause-went : goal.returns-in_err-map_one-clause-went
returns-in_err-map_one-clause-went g c = λ rs x.
    let E = g.E.Reach in let e = E.exact in let f = g.M.Store.mapper in let l = c.loop-w in let n = c.map_one in
    let a = E.deeds c.args.reach.now in let b = E.deeds l.reach in let d = E.deeds n.new.reach in
    let ms = map f c.args.mappers.now.items in let ns = map f l.mappers.items in let os = map f n.new.mappers.items in
    let fault : Fault = c.in_err-map_one.field-0.0 in
    let go : Place = Draining 0 (flags_of os) in
    let place : place_after {A = Unit {0}} (Err fault) go ≡ place_after c.from_residual.result go = search rules in
    went_both e (Mapping 0 (flags_of ms), world_of ms rs x a) (Mapping l.w (flags_of ns), world_of ns rs x b) (place_after c.from_residual.result go, world_of os rs x d) (l.invariant.went rs x)
    (subst (λ (q : Place). Went e (Mapping l.w (flags_of ns), world_of ns rs x b) (q, world_of os rs x d))
    (ap (λ r. place_after r (Mapping (l.w + 1) (flags_of os))) c.in_err-map_one.was ∙ fault_place fault (Mapping (l.w + 1) (flags_of os)) go ∙ place) (n.ensures.went rs x))

pub returns-in_err-map_one-clause-turns : goal.returns-in_err-map_one-clause-turns
returns-in_err-map_one-clause-turns g c = λ n few h.
    let f = g.M.Store.mapper in
    turns_end (c.loop-w.w + 1) n (map f c.map_one.new.mappers.items) (c.map_one.ensures.turns n (c.loop-w.invariant.turns n (turns_begin n (map f c.args.mappers.now.items) h)))

pub loop-w-preserved : goal.loop-w-preserved
loop-w-preserved g c =
    let E = g.E.Reach in let e = E.exact in let f = g.M.Store.mapper in let l = c.loop-w in let n = c.map_one in let i = l.invariant in let k = c.in_ok-map_one.ensures in
    let a = E.deeds c.args.reach.now in let b = E.deeds l.reach in let d = E.deeds n.new.reach in
    let ms = map f c.args.mappers.now.items in let ns = map f l.mappers.items in let os = map f n.new.mappers.items in
    let inside : l.w < length ms = let t = c.loop-w-test.true in let b = c.loop-w.auto.w-end in omega (arith, length-map c.args.mappers.now.items f, t, b) in
    record {
      count = n.ensures.count ∙ i.count;
      ends = n.ensures.ends ∙ i.ends;
      well = k.well;
      turns = λ m h. n.ensures.turns m (i.turns m h);
      counts = k.counts ∙ i.counts;
      fell = k.fell ms a inside i.fell;
      went = λ rs x. went_both e (Mapping 0 (flags_of ms), world_of ms rs x a) (Mapping l.w (flags_of ns), world_of ns rs x b) (Mapping (l.w + 1) (flags_of os), world_of os rs x d) (i.went rs x) (k.went rs x);
    }

pub returns-clause-went : goal.returns-clause-went
returns-clause-went g c = λ rs x.
    let E = g.E.Reach in let e = E.exact in let f = g.M.Store.mapper in let l = c.loop-w in
    let a = E.deeds c.args.reach.now in let b = E.deeds l.reach in
    let ms = map f c.args.mappers.now.items in let ns = map f l.mappers.items in
    let past = let t = c.loop-w-test.false in let n = l.invariant.count in not_below l.w (length ns) (let b = l.auto.w-end in omega (arith, length-map l.mappers.items f, n, t, b)) in
    went_both e (Mapping 0 (flags_of ms), world_of ms rs x a) (Mapping l.w (flags_of ns), world_of ns rs x b) (Draining 0 (flags_of ns), world_of ns rs x b) (l.invariant.went rs x) (maps-over e l.w (flags_of ns) (world_of ns rs x b) past)

pub returns-clause-turns : goal.returns-clause-turns
returns-clause-turns g c = λ n few h.
    let f = g.M.Store.mapper in
    turns_end c.loop-w.w n (map f c.loop-w.mappers.items) (c.loop-w.invariant.turns n (turns_begin n (map f c.args.mappers.now.items) h))
