use Rattle.std.proofs.Common.{◌≡◌, ◌+◌, ◌≤◌, ℕ, List, length, map, get_or, sym, ap, subst, ◌∙◌, arith}
use Rattle.std.specs.List.{flat_map, range_with_len}
use Rattle.std.proofs.lemmas.List.Elements.{All-weaker}
use Rattle.std.proofs.lemmas.List.FromFn.{get_or-map-range_with_len}
use Rattle.hop_base.specs.declared.value.Val.{Val}
use Rattle.hop_laws.specs.Taking.{TakesIn}
use Rattle.hop_laws.specs.Blocking.{part_pairs, part_records}
use Rattle.hop_records.specs.Records.{IsShort}
use Rattle.hop_run.specs.Runs.{RunValue, RunStands, combined_run, empty_run}
use Rattle.hop_run.proofs.MakingLaws.{scattered_lists, runs_scattered, combined_stands}
use Rattle.hop_run.proofs.run.Run.make_all.Goals as goal

pub returns-clause-runs : goal.returns-clause-runs
returns-clause-runs g c =
    let meaning = g.J.Job.meaning c.args.job.now in
    let book = c.args.book.now in
    c.in_ok-runs.ensures
    ∙ runs_scattered meaning book.records book.split c.args.r c.args.part c.map_part.new.sink.lists.items
    (scattered_lists meaning.combined c.in_ok-scattered.scattered.lists.items c.map_part.new.sink.lists.items c.args.r (flat_map meaning.emits (part_records book.records book.split c.args.part)) c.in_ok-scattered.ensures.empty
    (subst (λ (f : List ℕ → List Val → List Val). TakesIn f c.in_ok-scattered.scattered.lists.items (flat_map meaning.emits (part_records book.records book.split c.args.part)) c.map_part.new.sink.lists.items) (ap (λ j. (g.J.Job.meaning j).combined) c.in_ok-scattered.ensures.job) c.in_ok-map_part.ensures.1))

pub returns-clause-stands : goal.returns-clause-stands
returns-clause-stands g c = λ p lt.
    let meaning = g.J.Job.meaning c.args.job.now in
    let book = c.args.book.now in
    let made : ℕ → RunValue = combined_run meaning book.records book.split c.args.r c.args.part in
    let from : 0 + p ≡ p = omega arith in
    let runs : c.in_ok-runs.runs ≡ map made (range_with_len 0 c.args.r) = returns-clause-runs g c in
    let is : get_or c.in_ok-runs.runs p empty_run ≡ made p = ap (λ (rs : List RunValue). get_or rs p empty_run) runs ∙ get_or-map-range_with_len made 0 c.args.r p p empty_run lt from in
    subst (RunStands meaning.reduced (part_pairs meaning book.records book.split p c.args.r)) (sym is)
    (combined_stands meaning book.records book.split c.args.r c.args.part p (g.met.J.Job.lawful c.args.job.now) (All-weaker IsShort (λ line. length line ≤ 131050) (λ line h. omega (arith, h)) book.records c.records-known.ensures.known.short))
