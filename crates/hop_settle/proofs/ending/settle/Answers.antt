use Rattle.std.proofs.Common.{rules, ◌≡◌, ◌<◌, ◌∙◌, [], map, length, arith, sym, ap, subst, Err}
use Rattle.std.proofs.lemmas.List.{length-map}
use Rattle.hop_machine.specs.step.Steps.{Setup, Ends}
use Rattle.hop_machine.specs.play.Play.{World, Place, Listed, Emptying, Pulling, Writing, Over, Went}
use Rattle.hop_machine.proofs.play.Plays.{went_both, went_same}
use Rattle.hop_machine.proofs.run.Ending.{went_pulling}
use Rattle.hop_machine.proofs.home.Here.{reducer_kept}
use Rattle.hop_actors.specs.declared.fault.Fault.{Fault}
use Rattle.hop_ending.specs.Cuts.{HasPut}
use Rattle.hop_settle.specs.Crews.{world_of, AreWell, IsSized}
use Rattle.hop_settle.specs.Stops.{place_after}
use Rattle.hop_settle.proofs.DrainLaws.{fault_place, not_below}
use Rattle.hop_settle.proofs.EndLaws.{told-went, begins-pulls, worked-went, ran-whole}
use Rattle.hop_settle.proofs.ending.settle.Goals as goal

pub returns-in_err-work_off-clause-went : goal.returns-in_err-work_off-clause-went
returns-in_err-work_off-clause-went g c =
    let E = g.E.Reach in let e = E.exact in let k = g.M.Store.mapper in let f = g.D.Taker.reducer in let z = g.W.SnapshotWriter.writer in let n = c.work_off in let x = z c.args.writer.now in
    let A : World = world_of (map k c.args.mappers.now.items) (map f c.args.reducers.now.items) x (E.deeds c.args.reach.now) in let B : World = world_of (map k n.new.mappers.items) (map f n.new.reducers.items) x (E.deeds n.new.reach) in
    let fault : Fault = c.in_err-work_off.field-0.0 in
    let was : Place = Emptying (length c.args.reducers.now.items) in
    let go : Place = Over in
    let place : place_after {A = Unit {0}} (Err fault) go ≡ place_after c.from_residual.result go = search rules in
    subst (λ (q : Place). Went e (Listed [], A) (q, B)) (ap (λ r. place_after r was) c.in_err-work_off.was ∙ fault_place fault was go ∙ place) (n.ensures.went x)

pub finish_all-requires-clause-home : goal.finish_all-requires-clause-home
finish_all-requires-clause-home g c =
    let E = g.E.Reach in let e = E.exact in let k = g.M.Store.mapper in let f = g.D.Taker.reducer in let z = g.W.SnapshotWriter.writer in let n = c.work_off in let x = z c.args.writer.now in
    let A : World = world_of (map k c.args.mappers.now.items) (map f c.args.reducers.now.items) x (E.deeds c.args.reach.now) in let B : World = world_of (map k n.new.mappers.items) (map f n.new.reducers.items) x (E.deeds n.new.reach) in
    let N = length c.args.reducers.now.items in
    let last = not_below N (length (map f n.new.reducers.items)) (let m = n.ensures.count.1 in omega (arith, m, length-map n.new.reducers.items f)) in
    (x, begins-pulls e N A B c.requires.home (c.in_ok-work_off.ensures.worked x) last)

pub finish_all-requires-clause-sized : goal.finish_all-requires-clause-sized
finish_all-requires-clause-sized g c =
    let E = g.E.Reach in let e = E.exact in let k = g.M.Store.mapper in let f = g.D.Taker.reducer in let z = g.W.SnapshotWriter.writer in let n = c.work_off in let x = z c.args.writer.now in
    let A : World = world_of (map k c.args.mappers.now.items) (map f c.args.reducers.now.items) x (E.deeds c.args.reach.now) in let B : World = world_of (map k n.new.mappers.items) (map f n.new.reducers.items) x (E.deeds n.new.reach) in
    subst IsSized (sym (went_same e (Listed [], A) (Emptying (length c.args.reducers.now.items), B) (c.in_ok-work_off.ensures.went x))) c.requires.sized

pub returns-in_err-finish_all-clause-went : goal.returns-in_err-finish_all-clause-went
returns-in_err-finish_all-clause-went g c =
    let E = g.E.Reach in let e = E.exact in let k = g.M.Store.mapper in let f = g.D.Taker.reducer in let z = g.W.SnapshotWriter.writer in let n = c.work_off in let m = c.finish_all in let x = z c.args.writer.now in
    let A : World = world_of (map k c.args.mappers.now.items) (map f c.args.reducers.now.items) x (E.deeds c.args.reach.now) in let B : World = world_of (map k n.new.mappers.items) (map f n.new.reducers.items) x (E.deeds n.new.reach) in
    let D : World = world_of (map k m.new.mappers.items) (map f m.new.reducers.items) x (E.deeds m.new.reach) in
    let N = length c.args.reducers.now.items in
    let last = not_below N (length (map f n.new.reducers.items)) (let o = n.ensures.count.1 in omega (arith, o, length-map n.new.reducers.items f)) in
    let fault : Fault = c.in_err-finish_all.field-0.0 in
    let go : Place = Over in
    let place : place_after {A = Unit {0}} (Err fault) go ≡ place_after c.from_residual-in_err-finish_all.result go = search rules in
    went_both e (Listed [], A) (Pulling 0 0, B) (place_after c.from_residual-in_err-finish_all.result go, D) (worked-went e N A B c.requires.home (c.in_ok-work_off.ensures.worked x) last)
    (subst (λ (q : Place). Went e (Pulling 0 0, B) (q, D)) (ap (λ r. place_after r Writing) c.in_err-finish_all.was ∙ fault_place fault Writing go ∙ place) (m.ensures.went x))

pub write_all-requires-clause-home : goal.write_all-requires-clause-home
write_all-requires-clause-home g c =
    let E = g.E.Reach in let e = E.exact in let k = g.M.Store.mapper in let f = g.D.Taker.reducer in let z = g.W.SnapshotWriter.writer in let n = c.work_off in let m = c.finish_all in let x = z c.args.writer.now in
    let A : World = world_of (map k c.args.mappers.now.items) (map f c.args.reducers.now.items) x (E.deeds c.args.reach.now) in let B : World = world_of (map k n.new.mappers.items) (map f n.new.reducers.items) x (E.deeds n.new.reach) in
    let ns = map k m.new.mappers.items in let us = map f m.new.reducers.items in
    let D : World = world_of ns us x (E.deeds m.new.reach) in let F : World = world_of ns us x (E.deeds c.meet_cuts.new.reach) in
    let N = length c.args.reducers.now.items in
    let last = not_below N (length (map f n.new.reducers.items)) (let o = n.ensures.count.1 in omega (arith, o, length-map n.new.reducers.items f)) in
    let pulls = begins-pulls e N A B c.requires.home (c.in_ok-work_off.ensures.worked x) last in
    (ns, us, went_pulling e (Pulling 0 0, B) (Writing, F) (went_both e (Pulling 0 0, B) (Writing, D) (Writing, F) (c.in_ok-finish_all.ensures.went x) (told-went e Writing ns us x (E.deeds m.new.reach) (E.deeds c.meet_cuts.new.reach) c.meet_cuts.ensures.learns)) pulls)

pub returns-in_err-write_all-clause-went : goal.returns-in_err-write_all-clause-went
returns-in_err-write_all-clause-went g c =
    let E = g.E.Reach in let e = E.exact in let k = g.M.Store.mapper in let f = g.D.Taker.reducer in let z = g.W.SnapshotWriter.writer in let n = c.work_off in let m = c.finish_all in let q = c.write_all in let x = z c.args.writer.now in
    let A : World = world_of (map k c.args.mappers.now.items) (map f c.args.reducers.now.items) x (E.deeds c.args.reach.now) in let B : World = world_of (map k n.new.mappers.items) (map f n.new.reducers.items) x (E.deeds n.new.reach) in
    let ns = map k m.new.mappers.items in let us = map f m.new.reducers.items in
    let D : World = world_of ns us x (E.deeds m.new.reach) in let F : World = world_of ns us x (E.deeds c.meet_cuts.new.reach) in let G : World = world_of ns us (z q.new.writer) (E.deeds q.new.reach) in
    let N = length c.args.reducers.now.items in
    let last = not_below N (length (map f n.new.reducers.items)) (let o = n.ensures.count.1 in omega (arith, o, length-map n.new.reducers.items f)) in
    let fault : Fault = c.in_err-write_all.field-0.0 in
    let place : place_after {A = Unit {0}} (Err fault) Over ≡ place_after c.from_residual-in_err-write_all.result Over = search rules in
    went_both e (Listed [], A) (Writing, F) (place_after c.from_residual-in_err-write_all.result Over, G)
    (went_both e (Listed [], A) (Pulling 0 0, B) (Writing, F) (worked-went e N A B c.requires.home (c.in_ok-work_off.ensures.worked x) last)
    (went_both e (Pulling 0 0, B) (Writing, D) (Writing, F) (c.in_ok-finish_all.ensures.went x) (told-went e Writing ns us x (E.deeds m.new.reach) (E.deeds c.meet_cuts.new.reach) c.meet_cuts.ensures.learns)))
    (subst (λ (p : Place). Went e (Writing, F) (p, G)) (ap (λ r. place_after r Over) c.in_err-write_all.was ∙ place) (q.ensures.went ns us))

pub returns-clause-ran : goal.returns-clause-ran
returns-clause-ran g c =
    let E = g.E.Reach in let e = E.exact in let k = g.M.Store.mapper in let f = g.D.Taker.reducer in let z = g.W.SnapshotWriter.writer in let n = c.work_off in let m = c.finish_all in let q = c.write_all in let x = z c.args.writer.now in
    let A : World = world_of (map k c.args.mappers.now.items) (map f c.args.reducers.now.items) x (E.deeds c.args.reach.now) in let B : World = world_of (map k n.new.mappers.items) (map f n.new.reducers.items) x (E.deeds n.new.reach) in
    let ns = map k m.new.mappers.items in let us = map f m.new.reducers.items in let y = z q.new.writer in
    let D : World = world_of ns us x (E.deeds m.new.reach) in let F : World = world_of ns us x (E.deeds c.meet_cuts.new.reach) in let G : World = world_of ns us y (E.deeds q.new.reach) in let H : World = world_of ns us y (E.deeds c.meet_cuts-2.new.reach) in
    let N = length c.args.reducers.now.items in
    let last = not_below N (length (map f n.new.reducers.items)) (let o = n.ensures.count.1 in omega (arith, o, length-map n.new.reducers.items f)) in
    ran-whole e N A B c.requires.home (c.in_ok-work_off.ensures.worked x) last H
    (went_both e (Pulling 0 0, B) (Over, G) (Over, H)
    (went_both e (Pulling 0 0, B) (Writing, F) (Over, G)
    (went_both e (Pulling 0 0, B) (Writing, D) (Writing, F) (c.in_ok-finish_all.ensures.went x) (told-went e Writing ns us x (E.deeds m.new.reach) (E.deeds c.meet_cuts.new.reach) c.meet_cuts.ensures.learns))
    (c.in_ok-write_all.ensures.went ns us))
    (told-went e Over ns us y (E.deeds q.new.reach) (E.deeds c.meet_cuts-2.new.reach) c.meet_cuts-2.ensures.learns))

pub returns-clause-went : goal.returns-clause-went
returns-clause-went g c =
    let E = g.E.Reach in let e = E.exact in let k = g.M.Store.mapper in let f = g.D.Taker.reducer in let z = g.W.SnapshotWriter.writer in let n = c.work_off in let m = c.finish_all in let q = c.write_all in let x = z c.args.writer.now in
    let A : World = world_of (map k c.args.mappers.now.items) (map f c.args.reducers.now.items) x (E.deeds c.args.reach.now) in let B : World = world_of (map k n.new.mappers.items) (map f n.new.reducers.items) x (E.deeds n.new.reach) in
    let ns = map k m.new.mappers.items in let us = map f m.new.reducers.items in let y = z q.new.writer in
    let D : World = world_of ns us x (E.deeds m.new.reach) in let F : World = world_of ns us x (E.deeds c.meet_cuts.new.reach) in let G : World = world_of ns us y (E.deeds q.new.reach) in let H : World = world_of ns us y (E.deeds c.meet_cuts-2.new.reach) in
    let N = length c.args.reducers.now.items in
    let last = not_below N (length (map f n.new.reducers.items)) (let o = n.ensures.count.1 in omega (arith, o, length-map n.new.reducers.items f)) in
    went_both e (Listed [], A) (Pulling 0 0, B) (Over, H) (worked-went e N A B c.requires.home (c.in_ok-work_off.ensures.worked x) last)
    (went_both e (Pulling 0 0, B) (Over, G) (Over, H)
    (went_both e (Pulling 0 0, B) (Writing, F) (Over, G)
    (went_both e (Pulling 0 0, B) (Writing, D) (Writing, F) (c.in_ok-finish_all.ensures.went x) (told-went e Writing ns us x (E.deeds m.new.reach) (E.deeds c.meet_cuts.new.reach) c.meet_cuts.ensures.learns))
    (c.in_ok-write_all.ensures.went ns us))
    (told-went e Over ns us y (E.deeds q.new.reach) (E.deeds c.meet_cuts-2.new.reach) c.meet_cuts-2.ensures.learns))

pub returns-clause-well : goal.returns-clause-well
returns-clause-well g c =
    let M = g.M.Actor in
    subst (λ (o : Ends). AreWell M.failed M.fits o.board c.finish_all.new.mappers.items) (sym (c.meet_cuts-2.ensures.ends ∙ c.write_all.ensures.ends ∙ c.meet_cuts.ensures.ends)) c.finish_all.ensures.well

pub returns-clause-ends : goal.returns-clause-ends
returns-clause-ends g c = λ p inside.
    let E = g.E.Reach in let e = E.exact in let k = g.M.Store.mapper in let f = g.D.Taker.reducer in let z = g.W.SnapshotWriter.writer in let n = c.work_off in let m = c.finish_all in let q = c.write_all in let x = z c.args.writer.now in
    let B : World = world_of (map k n.new.mappers.items) (map f n.new.reducers.items) x (E.deeds n.new.reach) in
    let ns = map k m.new.mappers.items in let us = map f m.new.reducers.items in
    let D : World = world_of ns us x (E.deeds m.new.reach) in let F : World = world_of ns us x (E.deeds c.meet_cuts.new.reach) in let G : World = world_of ns us (z q.new.writer) (E.deeds q.new.reach) in
    let same : (E.deeds c.meet_cuts-2.new.reach).setup ≡ (E.deeds n.new.reach).setup =
    c.meet_cuts-2.ensures.learns.setup ∙ went_same e (Writing, F) (Over, G) (c.in_ok-write_all.ensures.went ns us) ∙ c.meet_cuts.ensures.learns.setup ∙ went_same e (Pulling 0 0, B) (Writing, D) (c.in_ok-finish_all.ensures.went x) in
    reducer_kept p (E.deeds n.new.reach) (E.deeds c.meet_cuts-2.new.reach) same (c.meet_cuts-2.ensures.ends ∙ q.ensures.ends ∙ c.meet_cuts.ensures.ends ∙ m.ensures.ends)
    (c.in_ok-work_off.ensures.ends.0 p (subst (λ (s : Setup). p < s.reducers) same inside))

pub returns-clause-cuts : goal.returns-clause-cuts
returns-clause-cuts g c = λ put p inside.
    let E = g.E.Reach in let e = E.exact in let k = g.M.Store.mapper in let f = g.D.Taker.reducer in let z = g.W.SnapshotWriter.writer in let n = c.work_off in let m = c.finish_all in let q = c.write_all in let x = z c.args.writer.now in
    let A : World = world_of (map k c.args.mappers.now.items) (map f c.args.reducers.now.items) x (E.deeds c.args.reach.now) in let B : World = world_of (map k n.new.mappers.items) (map f n.new.reducers.items) x (E.deeds n.new.reach) in
    let ns = map k m.new.mappers.items in let us = map f m.new.reducers.items in let y = z q.new.writer in
    let D : World = world_of ns us x (E.deeds m.new.reach) in let F : World = world_of ns us x (E.deeds c.meet_cuts.new.reach) in let G : World = world_of ns us y (E.deeds q.new.reach) in let H : World = world_of ns us y (E.deeds c.meet_cuts-2.new.reach) in
    let before : F.deeds.setup ≡ A.deeds.setup =
    c.meet_cuts.ensures.learns.setup ∙ went_same e (Pulling 0 0, B) (Writing, D) (c.in_ok-finish_all.ensures.went x) ∙ went_same e (Listed [], A) (Emptying (length c.args.reducers.now.items), B) (c.in_ok-work_off.ensures.went x) in
    let last : Went e (Writing, F) (Over, H) = went_both e (Writing, F) (Over, G) (Over, H) (c.in_ok-write_all.ensures.went ns us) (told-went e Over ns us y (E.deeds q.new.reach) (E.deeds c.meet_cuts-2.new.reach) c.meet_cuts-2.ensures.learns) in
    let after : H.deeds.setup ≡ F.deeds.setup = went_same e (Writing, F) (Over, H) last in
    let own = subst (λ (s : Setup). p < s.reducers) (after ∙ before) inside in
    let few : p < c.len-partitions.result = let all = c.requires.home.home.reducers in let n = length-map c.args.reducers.now.items f in let len = c.len-partitions.ensures in omega (arith, own, all, n, len) in
    c.cut_lanes_are_emptied.ensures.met e F H (subst (λ (s : Setup). HasPut x s) (sym before) put) last p inside (c.meet_cuts.ensures.met p few) (c.meet_cuts-2.ensures.met p few)
