use Rattle.std.proofs.Common.{◌+◌, ◌<◌, ◌∙◌, List, map, length, arith, sym, ap, subst, OnOk, Result}
use Rattle.std.proofs.lemmas.List.{length-map}
use Rattle.hop_machine.specs.step.Steps.{Deeds}
use Rattle.hop_machine.specs.actors.MapperTurns.{Mapper}
use Rattle.hop_machine.specs.play.Play.{Place, Mapping, Went}
use Rattle.hop_machine.specs.settling.Settling.{PassFell}
use Rattle.hop_machine.proofs.play.Going.{skips}
use Rattle.hop_machine.proofs.settling.Passes.{pass-skip}
use Rattle.hop_actors.specs.Acting.{said_turn}
use Rattle.hop_actors.specs.declared.fault.Fault.{Fault}
use Rattle.hop_settle.specs.Crews.{AreWell, actors_of, world_of, flags_of}
use Rattle.hop_settle.specs.Stops.{place_after}
use Rattle.hop_settle.proofs.Lists.{map-at}
use Rattle.hop_settle.proofs.TurnLaws.{stands_at}
use Rattle.hop_settle.proofs.AnswerLaws.{place_is, ok_when}
use Rattle.hop_settle.proofs.PassLaws.{may_map, are_of_run, flag_is, map_ends, map_goes, map_turns, map_fell, went_not_stopped}
use Rattle.hop_settle.proofs.passes.map_one.Goals as goal

pub returns-then-has_ended-clause-went : goal.returns-then-has_ended-clause-went
returns-then-has_ended-clause-went g c = λ rs x.
    let f = g.M.Store.mapper in let xs = c.args.mappers.now.items in let w = c.args.w in let l = c.requires.place in
    let y = c.index.result.now in
    let at = stands_at xs w y y _ l c.index.ensures in
    skips g.E.Reach.exact w (flags_of (map f xs)) (world_of (map f xs) rs x (g.E.Reach.deeds c.args.reach.now)) (omega (arith, l, length-map xs f))
    (flag_is (map f xs) w (f y) (map-at f xs w y at) ∙ sym c.has_ended.ensures ∙ c.if-has_ended.true)

pub returns-then-has_ended-clause-fell : goal.returns-then-has_ended-clause-fell
returns-then-has_ended-clause-fell g c = λ os d l p.
    let f = g.M.Store.mapper in let xs = c.args.mappers.now.items in let w = c.args.w in
    let y = c.index.result.now in
    let at = stands_at xs w y y _ c.requires.place c.index.ensures in
    pass-skip w os (map f xs) (flags_of os) (flags_of (map f xs)) d (g.E.Reach.deeds c.args.reach.now) (flag_is (map f xs) w (f y) (map-at f xs w y at) ∙ sym c.has_ended.ensures ∙ c.if-has_ended.true) p

pub map_turn-requires-clause-may : goal.map_turn-requires-clause-may
map_turn-requires-clause-may g c = λ m is.
    let f = g.M.Store.mapper in let h = c.requires.home in let xs = c.args.mappers.now.items in
    let at = map-at f xs c.args.w m is in let l = c.requires.place in
    may_map (actors_of (map f xs) h.0 h.1) (g.E.Reach.deeds c.args.reach.now) c.args.w (f m) h.2.ready c.requires.ends (omega (arith, l, length-map xs f)) at ((c.requires.turns c.args.w (f m) at).1 (omega arith))

pub returns-clause-went : goal.returns-clause-went
returns-clause-went g c = λ rs x.
    let e = g.E.Reach.exact in let f = g.M.Store.mapper in let n = c.map_turn in let xs = c.args.mappers.now.items in let w = c.args.w in let l = c.requires.place in
    let ms = map f xs in let ns = map f n.new.mappers.items in let a = g.E.Reach.deeds c.args.reach.now in let b = g.E.Reach.deeds n.new.reach in
    let y = c.index.result.now in
    let still = flag_is ms w (f y) (map-at f xs w y (stands_at xs w y y _ l c.index.ensures)) ∙ sym c.has_ended.ensures ∙ c.if-has_ended.false in
    let go : Place = Mapping (w + 1) (flags_of ns) in
    subst (λ (p : Place). Went e (Mapping w (flags_of ms), world_of ms rs x a) (p, world_of ns rs x b)) (sym (ap (λ (r : Result (Unit {0}) Fault). place_after r go) c.went_on.ensures ∙ place_is n.result go))
    (map_goes e w ms a ns (said_turn n.result) b n.ensures.mapped (omega (arith, l, length-map xs f)) still rs x)

pub returns-clause-ends : goal.returns-clause-ends
returns-clause-ends g c =
    let f = g.M.Store.mapper in let n = c.map_turn in
    map_ends g.E.Reach.exact c.args.w (map f c.args.mappers.now.items) (g.E.Reach.deeds c.args.reach.now) (map f n.new.mappers.items) (said_turn n.result) (g.E.Reach.deeds n.new.reach) n.ensures.mapped

pub returns-clause-well : goal.returns-clause-well
returns-clause-well g c =
    let M = g.M.Actor in let n = c.map_turn in
    let P : Type 0 = AreWell M.failed M.fits (g.E.Reach.deeds n.new.reach).ends.board n.new.mappers.items in
    subst (λ (r : Result (Unit {0}) Fault). OnOk r P) (sym c.went_on.ensures) (ok_when n.result P n.ensures.well)

pub returns-clause-turns : goal.returns-clause-turns
returns-clause-turns g c =
    let f = g.M.Store.mapper in let n = c.map_turn in
    map_turns g.E.Reach.exact c.args.w (map f c.args.mappers.now.items) (g.E.Reach.deeds c.args.reach.now) (map f n.new.mappers.items) (said_turn n.result) (g.E.Reach.deeds n.new.reach) n.ensures.mapped

pub returns-clause-fell : goal.returns-clause-fell
returns-clause-fell g c =
    let e = g.E.Reach.exact in let f = g.M.Store.mapper in let n = c.map_turn in let xs = c.args.mappers.now.items in let w = c.args.w in let l = c.requires.place in let h = c.requires.home in
    let ms = map f xs in let ns = map f n.new.mappers.items in let a = g.E.Reach.deeds c.args.reach.now in let b = g.E.Reach.deeds n.new.reach in
    let y = c.index.result.now in
    let still = flag_is ms w (f y) (map-at f xs w y (stands_at xs w y y _ l c.index.ensures)) ∙ sym c.has_ended.ensures ∙ c.if-has_ended.false in
    let P : Type 0 = (os : List Mapper) (d : Deeds) → w < length os → PassFell w os (flags_of os) d ms (flags_of ms) a → PassFell (w + 1) os (flags_of os) d ns (flags_of ns) b in
    subst (λ (r : Result (Unit {0}) Fault). OnOk r P) (sym c.went_on.ensures)
    (ok_when n.result P (λ on. went_not_stopped (said_turn n.result) P on (map_fell e w ms a ns (said_turn n.result) b n.ensures.mapped (are_of_run (actors_of ms h.0 h.1) a h.2.ready) still)))
