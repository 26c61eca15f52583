use Rattle.std.proofs.Common.{sym, subst}
use Rattle.hop_shelf.specs.Names.{rules_of, pairs_of}
use Rattle.hop_event.specs.Legal.{IsWorker}
use Rattle.hop_shelf.specs.Journal.{AddsEvent}
use Rattle.hop_machine.specs.actors.ReducerTurns.{range_event, lane_via}
use Rattle.hop_inner.specs.Setups.{setup_of}
use Rattle.hop_drain.specs.Answers.{said_answer}
use Rattle.hop_drain.proofs.Growing.{of_sound, notes_follow, may_grow, range_plain, range_rules, arrived_adds, added_safe, added_ran}
use Rattle.hop_drain.proofs.drain.Drain.read_parcel.Goals as goal

pub arrive-requires-clause-grows : goal.arrive-requires-clause-grows
arrive-requires-clause-grows g c =
    let N = g.N.RunName in let e = g.E.Reach.exact in let r = c.args.self.now in let s = c.args.shelf in let a = g.E.Reach.deeds c.args.reach.now in let st = setup_of N.records N.script N.settings in
    let of = of_sound N.records N.script N.settings N.tells N.job.reduced (pairs_of N.job N.records N.settings s.p) s c.known.ensures.sound in
    let part = c.args.parcel.part in let ev = range_event s.journal.events (lane_via r.late c.args.w) part in
    let follows = notes_follow e st r s ev a (g.met.E.Reach.of_run c.args.reach.now) c.requires.held c.requires.safe in
    may_grow st s ev of c.requires.ready (range_plain s.journal.events (lane_via r.late c.args.w) part) follows

pub arrive-requires-clause-range : goal.arrive-requires-clause-range
arrive-requires-clause-range g c =
    let N = g.N.RunName in let e = g.E.Reach.exact in let r = c.args.self.now in let s = c.args.shelf in let a = g.E.Reach.deeds c.args.reach.now in let st = setup_of N.records N.script N.settings in
    let of = of_sound N.records N.script N.settings N.tells N.job.reduced (pairs_of N.job N.records N.settings s.p) s c.known.ensures.sound in
    let part = c.args.parcel.part in let ev = range_event s.journal.events (lane_via r.late c.args.w) part in
    let follows = notes_follow e st r s ev a (g.met.E.Reach.of_run c.args.reach.now) c.requires.held c.requires.safe in
    (range_rules (rules_of N.records N.script N.settings) (λ i. N.settings.attempts) s.journal.events (lane_via r.late c.args.w) part follows.rule).0

pub arrive-requires-clause-worker : goal.arrive-requires-clause-worker
arrive-requires-clause-worker g c =
    let N = g.N.RunName in let e = g.E.Reach.exact in let r = c.args.self.now in let s = c.args.shelf in let a = g.E.Reach.deeds c.args.reach.now in let st = setup_of N.records N.script N.settings in
    let of = of_sound N.records N.script N.settings N.tells N.job.reduced (pairs_of N.job N.records N.settings s.p) s c.known.ensures.sound in
    let part = c.args.parcel.part in let ev = range_event s.journal.events (lane_via r.late c.args.w) part in
    let follows = notes_follow e st r s ev a (g.met.E.Reach.of_run c.args.reach.now) c.requires.held c.requires.safe in
    subst (IsWorker (rules_of N.records N.script N.settings)) (sym c.via-via.ensures) (range_rules (rules_of N.records N.script N.settings) (λ i. N.settings.attempts) s.journal.events (lane_via r.late c.args.w) part follows.rule).1

pub close-requires-clause-safe : goal.close-requires-clause-safe
close-requires-clause-safe g c =
    let N = g.N.RunName in let e = g.E.Reach.exact in let r = c.args.self.now in let s = c.args.shelf in let a = g.E.Reach.deeds c.args.reach.now in let st = setup_of N.records N.script N.settings in
    let of = of_sound N.records N.script N.settings N.tells N.job.reduced (pairs_of N.job N.records N.settings s.p) s c.known.ensures.sound in
    let part = c.args.parcel.part in let ev = range_event s.journal.events (lane_via r.late c.args.w) part in let now = c.arrive.new.self in
    let adds : AddsEvent s.journal ev now.journal = subst (λ v. AddsEvent s.journal (range_event s.journal.events v part) now.journal) c.via-via.ensures (arrived_adds s part c.via-via.result c.args.parcel.run c.arrive.result now c.arrive.ensures).0 in
    added_safe e r s now.journal ev a adds c.requires.safe

pub returns : goal.returns
returns g c =
    let N = g.N.RunName in let e = g.E.Reach.exact in let r = c.args.self.now in let s = c.args.shelf in let a = g.E.Reach.deeds c.args.reach.now in let st = setup_of N.records N.script N.settings in
    let of = of_sound N.records N.script N.settings N.tells N.job.reduced (pairs_of N.job N.records N.settings s.p) s c.known.ensures.sound in
    let part = c.args.parcel.part in let ev = range_event s.journal.events (lane_via r.late c.args.w) part in let now = c.arrive.new.self in
    let adds : AddsEvent s.journal ev now.journal = subst (λ v. AddsEvent s.journal (range_event s.journal.events v part) now.journal) c.via-via.ensures (arrived_adds s part c.via-via.result c.args.parcel.run c.arrive.result now c.arrive.ensures).0 in
    added_ran e r s now.journal ev (said_answer c.close.result) a (g.E.Reach.deeds c.close.new.reach) adds c.close.ensures
