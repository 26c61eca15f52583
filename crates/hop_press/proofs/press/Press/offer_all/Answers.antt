use Rattle.std.proofs.Common.{◌≡◌, ◌<◌, ◌≤◌, ◌∙◌, Bool, false, ap, sym, length, get_or, List, subst, arith}
use Rattle.std.specs.Prelude.{is_ok}
use Rattle.std.proofs.lemmas.List.{length_push}
use Rattle.std.proofs.lemmas.Iterator.Adapters.{YieldsList-from_vec}
use Rattle.std.proofs.lemmas.Iterator.Consumers.{YieldsList-turn, YieldsList-end}
use Rattle.hop_machine.specs.declared.words.Message.TheVariants.{Range}
use Rattle.hop_machine.specs.step.Steps.{Runs}
use Rattle.hop_machine.specs.actors.MapperTurns.{offer, each_lane}
use Rattle.hop_inner.specs.Setups.{parts}
use Rattle.hop_run.specs.Runs.{RunValue, empty_run}
use Rattle.hop_shelf.specs.Names.{pairs_of}
use Rattle.hop_press.specs.Held.{LaneValue, said_lanes}
use Rattle.hop_shelf.specs.Sound.{IsParcel}
use Rattle.hop_run.specs.Runs.{RunStands}
use Rattle.hop_press.proofs.FetchedLaws.{fits_offered}
use Rattle.hop_press.proofs.LaneLaws.{not_ok}
use Rattle.hop_press.proofs.AllLanes.{any_default, between_may, between_goes_on, between_stops, between_ends}
use Rattle.hop_press.proofs.press.Press.offer_all.Goals as goal

pub offer-requires-clause-fits : goal.offer-requires-clause-fits
offer-requires-clause-fits g c =
    let N = g.N.RunName in let i = c.loop-run.invariant in
    let all : List RunValue = c.args.runs in
    let pairs = pairs_of N.job N.records N.settings c.loop-run.p in
    let gives = c.into_iter-run-iterator.ensures.into_iter_gives in
    let len : c.into_iter-run-iterator.result.rest.len ≡ length all = gives.1 ∙ c.into_vec-run-items.result.ok.0 ∙ ap (λ (rs : List RunValue). length rs) c.into_vec-run-items.ensures in
    let t = YieldsList-turn (YieldsList-from_vec {s = c.into_iter-run-iterator.result} all (gives.0 ∙ c.into_vec-run-items.ensures) len) c.loop-run.yielded c.loop-run.run-iterator c.loop-run.yielded_by c.next.result c.next.new.self c.in-Some.run' c.in-Some.is c.next.ensures.steps in
    let lt : c.loop-run.p < length all = omega (arith, t.0, i.place) in
    let run : get_or all c.loop-run.p empty_run ≡ c.in-Some.run' = any_default all c.loop-run.p empty_run c.in-Some.run' lt ∙ ap (λ n. get_or all n c.in-Some.run') i.place ∙ sym t.1 in
    fits_offered N.tells N.job.reduced pairs c.args.part c.in-Some.run' (subst (λ (r : RunValue). IsParcel c.args.part r) run (c.requires.own c.loop-run.p lt))
    (λ told. subst (λ (r : RunValue). RunStands N.job.reduced pairs r) run (c.requires.stands told c.loop-run.p lt)) c.flat-known.ensures.sheet.valid

pub offer-requires-clause-safe : goal.offer-requires-clause-safe
offer-requires-clause-safe g c =
    let E = g.E.Reach in let i = c.loop-run.invariant in
    let all : List RunValue = c.args.runs in
    let gives = c.into_iter-run-iterator.ensures.into_iter_gives in
    let len : c.into_iter-run-iterator.result.rest.len ≡ length all = gives.1 ∙ c.into_vec-run-items.result.ok.0 ∙ ap (λ (rs : List RunValue). length rs) c.into_vec-run-items.ensures in
    let t = YieldsList-turn (YieldsList-from_vec {s = c.into_iter-run-iterator.result} all (gives.0 ∙ c.into_vec-run-items.ensures) len) c.loop-run.yielded c.loop-run.run-iterator c.loop-run.yielded_by c.next.result c.next.new.self c.in-Some.run' c.in-Some.is c.next.ensures.steps in
    let lt : c.loop-run.p < length c.loop-run.self = omega (arith, t.0, i.place, i.at.len, c.requires.lanes) in
    between_may parts E.exact (offer c.args.w (Range c.args.part)) c.args.self.now (E.deeds c.args.reach.now) c.loop-run.p c.loop-run.self (E.deeds c.loop-run.reach) i.at lt

pub returns-in_err-offer-clause-runs : goal.returns-in_err-offer-clause-runs
returns-in_err-offer-clause-runs g c =
    let E = g.E.Reach in let i = c.loop-run.invariant in
    let now = E.deeds c.loop-run.reach in let b = E.deeds c.offer.new.reach in
    let all : List RunValue = c.args.runs in
    let gives = c.into_iter-run-iterator.ensures.into_iter_gives in
    let len : c.into_iter-run-iterator.result.rest.len ≡ length all = gives.1 ∙ c.into_vec-run-items.result.ok.0 ∙ ap (λ (rs : List RunValue). length rs) c.into_vec-run-items.ensures in
    let t = YieldsList-turn (YieldsList-from_vec {s = c.into_iter-run-iterator.result} all (gives.0 ∙ c.into_vec-run-items.ensures) len) c.loop-run.yielded c.loop-run.run-iterator c.loop-run.yielded_by c.next.result c.next.new.self c.in-Some.run' c.in-Some.is c.next.ensures.steps in
    let lt : c.loop-run.p < length c.loop-run.self = omega (arith, t.0, i.place, i.at.len, c.requires.lanes) in
    let went : is_ok c.from_residual.result ≡ false = not_ok c.from_residual.result c.from_residual.ensures.0 in
    let Stops : Bool → Type 0 = λ z. Runs E.exact (each_lane (offer c.args.w (Range c.args.part)) 0 (said_lanes c.args.self.now)) (E.deeds c.args.reach.now) (record { went = z; held = said_lanes c.offer.new.self }) b in
    subst Stops (sym went)
    (between_stops parts E.exact (offer c.args.w (Range c.args.part)) c.args.self.now (E.deeds c.args.reach.now) c.loop-run.p c.loop-run.self now i.at lt c.offer.new.self c.in_err-offer.ensures.only b c.in_err-offer.ensures.runs)

pub returns-in_err-offer-clause-fits : goal.returns-in_err-offer-clause-fits
returns-in_err-offer-clause-fits g c = λ table h chain whole. c.in_err-offer.ensures.fits table (c.loop-run.invariant.fits table h chain whole) chain whole

pub overflow_add-p : goal.overflow_add-p
overflow_add-p g c =
    let i = c.loop-run.invariant in
    let all : List RunValue = c.args.runs in
    let gives = c.into_iter-run-iterator.ensures.into_iter_gives in
    let len : c.into_iter-run-iterator.result.rest.len ≡ length all = gives.1 ∙ c.into_vec-run-items.result.ok.0 ∙ ap (λ (rs : List RunValue). length rs) c.into_vec-run-items.ensures in
    let t = YieldsList-turn (YieldsList-from_vec {s = c.into_iter-run-iterator.result} all (gives.0 ∙ c.into_vec-run-items.ensures) len) c.loop-run.yielded c.loop-run.run-iterator c.loop-run.yielded_by c.next.result c.next.new.self c.in-Some.run' c.in-Some.is c.next.ensures.steps in
    let lt : c.loop-run.p < length c.loop-run.self = omega (arith, t.0, i.place, i.at.len, c.requires.lanes) in
    let few : length c.args.self.now ≤ 255 = subst (λ (ls : List (LaneValue _)). length ls ≤ 255) c.self.view_is c.self.invariant in
    omega (arith, few, lt, i.at.len)

pub loop-run-preserved : goal.loop-run-preserved
loop-run-preserved g c =
    let E = g.E.Reach in let N = g.N.RunName in let K = g.K.Knowing in let i = c.loop-run.invariant in
    let now = E.deeds c.loop-run.reach in let b = E.deeds c.offer.new.reach in
    let all : List RunValue = c.args.runs in
    let gives = c.into_iter-run-iterator.ensures.into_iter_gives in
    let len : c.into_iter-run-iterator.result.rest.len ≡ length all = gives.1 ∙ c.into_vec-run-items.result.ok.0 ∙ ap (λ (rs : List RunValue). length rs) c.into_vec-run-items.ensures in
    let t = YieldsList-turn (YieldsList-from_vec {s = c.into_iter-run-iterator.result} all (gives.0 ∙ c.into_vec-run-items.ensures) len) c.loop-run.yielded c.loop-run.run-iterator c.loop-run.yielded_by c.next.result c.next.new.self c.in-Some.run' c.in-Some.is c.next.ensures.steps in
    let lt : c.loop-run.p < length c.loop-run.self = omega (arith, t.0, i.place, i.at.len, c.requires.lanes) in
    let ensures = c.in_ok-offer.ensures in
    record {
      place = let n = length_push c.loop-run.yielded c.in-Some.run' in omega (arith, n, i.place);
      at = between_goes_on parts E.exact (offer c.args.w (Range c.args.part)) c.args.self.now (E.deeds c.args.reach.now) c.loop-run.p c.loop-run.self now i.at lt c.offer.new.self ensures.only b ensures.runs;
      ready = ensures.ready;
      fits = λ table h chain whole. ensures.fits table (i.fits table h chain whole) chain whole;
    }

pub returns-clause-runs : goal.returns-clause-runs
returns-clause-runs g c =
    let E = g.E.Reach in let i = c.loop-run.invariant in
    let all : List RunValue = c.args.runs in
    let gives = c.into_iter-run-iterator.ensures.into_iter_gives in
    let len : c.into_iter-run-iterator.result.rest.len ≡ length all = gives.1 ∙ c.into_vec-run-items.result.ok.0 ∙ ap (λ (rs : List RunValue). length rs) c.into_vec-run-items.ensures in
    let t = YieldsList-end (YieldsList-from_vec {s = c.into_iter-run-iterator.result} all (gives.0 ∙ c.into_vec-run-items.ensures) len) c.loop-run.yielded c.loop-run.run-iterator c.loop-run.yielded_by c.next.result c.next.new.self c.in-None.is c.next.ensures.steps in
    let last : c.loop-run.p ≡ length c.loop-run.self = omega (arith, t.1, i.place, i.at.len, c.requires.lanes) in
    between_ends parts E.exact (offer c.args.w (Range c.args.part)) c.args.self.now (E.deeds c.args.reach.now) c.loop-run.p c.loop-run.self (E.deeds c.loop-run.reach) i.at last
