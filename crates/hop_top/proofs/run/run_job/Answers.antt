use Rattle.std.proofs.Common.{◌≡◌, ◌≤◌, List, length, map, refl, sym, ap, subst, arith}
use Rattle.std.proofs.lemmas.List.{length-map}
use Rattle.hop_base.specs.Run.{ScriptLines, delay_of}
use Rattle.hop_jobs.specs.Known.{known_meaning}
use Rattle.hop_ports.specs.Views.{FolderView}
use Rattle.hop_records.specs.Records.{BookValue, lens_of}
use Rattle.hop_replay.specs.Driven.{Traced}
use Rattle.hop_replay.specs.Folders.{Spilling}
use Rattle.hop_replay.specs.Given.{Given}
use Rattle.hop_replay.proofs.Delays.{short_delay}
use Rattle.hop_words.specs.Options.{options_of, settings_of}
use Rattle.hop_top.specs.Plans.{given_by, given_by_plan}
use Rattle.hop_top.specs.Reading.{RunTexts, run_reads}
use Rattle.hop_top.proofs.FinishLaws.{lens-count}
use Rattle.hop_top.proofs.RunLaws.{ended-meets, ends-none, leaves-after, reads-none, refusal-none, runs-job, stopped-meets}
use Rattle.hop_top.proofs.SpillLaws.{untouched}
use Rattle.hop_top.proofs.run.run_job.Goals as goal

pub returns-in-Err-clause-leaves : goal.returns-in-Err-clause-leaves
returns-in-Err-clause-leaves g c =
    let options = c.args.options.now in let workers = options.settings.workers in let views : List FolderView = map g.V.Folder.seen c.args.spills.now.items in
    let n = length-map c.args.spills.now.items g.V.Folder.seen in let own = c.args.spills.now.ok in let all = c.requires.spills in let few = options.settings.few_workers in
    let enough : workers ≤ length views = omega (arith, n, own, all, few) in
    leaves-after workers (record { before = views; after = views }) (untouched workers views enough) c.in-Err.outcome
    (reads-none (g.F.Folder.seen c.args.folder) (g.F.Folder.seen c.read_run.new.folder) (run_reads c.args.input.now options.script options.turns) c.in-Err.outcome c.in-Err.ensures.fault)

pub returns-in-Err-planned-clause-leaves : goal.returns-in-Err-planned-clause-leaves
returns-in-Err-planned-clause-leaves g c =
    let options = c.args.options.now in let workers = options.settings.workers in let views : List FolderView = map g.V.Folder.seen c.args.spills.now.items in
    let n = length-map c.args.spills.now.items g.V.Folder.seen in let own = c.args.spills.now.ok in let all = c.requires.spills in let few = options.settings.few_workers in
    let enough : workers ≤ length views = omega (arith, n, own, all, few) in
    leaves-after workers (record { before = views; after = views }) (untouched workers views enough) c.in-Err-planned.outcome (refusal-none _ c.in-Err-planned.outcome c.in-Err-planned.ensures.refused)

pub run_plan-end-requires-clause-delays : goal.run_plan-end-requires-clause-delays
run_plan-end-requires-clause-delays g c = λ w. subst (λ (s : ScriptLines). delay_of s w ≤ 10000) (sym c.in-Ok-planned.ensures.script) (short_delay c.in-Ok.texts.script.items w)

pub finish-outcome-requires-clause-splits : goal.finish-outcome-requires-clause-splits
finish-outcome-requires-clause-splits g c =
    let book = c.in-Ok-planned.plan.book in let settings = c.args.options.now.settings in
    let begun = (rw c.in-Ok-end.is at c.run_plan-end.ensures.ran).play.begun.count in
    let split : book.split ≡ settings.split = ap (λ (b : BookValue). b.split) c.in-Ok-planned.ensures.book in
    let same : length (lens_of (record { records = book.records; split = settings.split })) ≡ length (lens_of book) = ap (λ (b : BookValue). length (lens_of b)) (λ i. record { records = book.records; split = sym split i }) in
    let count = lens-count book in let few = c.in-Ok-planned.ensures.known.splits in let own = c.in-Ok-end.end.begun.ok in
    omega (arith, begun, same, count, few, own)

pub returns-in-Ok-end-clause-meets : goal.returns-in-Ok-end-clause-meets
returns-in-Ok-end-clause-meets g c =
    let F = g.F.Folder.seen in let O = g.O.Sink.seen in
    let own = c.args.options.now in let options = options_of own in let meaning = known_meaning c.args.job.now in let plan = c.in-Ok-planned.plan in let settings = settings_of own.settings in
    let texts : RunTexts = record { input = c.in-Ok.texts.input.items; script = c.in-Ok.texts.script.items; turns = c.in-Ok.texts.turns.items } in
    let G : Given = given_by_plan meaning settings plan in
    let e = c.in-Ok-planned.ensures in
    let is : G ≡ given_by meaning settings texts = λ i. record { job = meaning; records = (e.book i).records; script = e.script i; settings = settings; turns = e.turns i } in
    let t : Traced = record { begun = c.in-Ok-end.end.begun.items; histories = map (λ h. h.events) c.in-Ok-end.end.histories.items } in
    let s : Spilling = record { before = map g.V.Folder.seen c.args.spills.now.items; after = map g.V.Folder.seen c.run_plan-end.new.spills.items } in
    ended-meets options meaning (map known_meaning c.args.later.now) c.args.input.now (runs-job own meaning (map known_meaning c.args.later.now) c.args.input.now c.requires.asked) (F c.args.folder) (F c.finish-outcome.new.folder) (O c.args.out.now) (O c.finish-outcome.new.out) s
    (F c.read_run.new.folder) (F c.run_plan-end.result.folder) texts c.in-Ok.ensures.read e.accepted G is t c.in-Ok-end.end.texts (rw c.in-Ok-end.is at c.run_plan-end.ensures.ran) c.in-Ok.ensures.left (rw c.in-Ok-end.is at c.run_plan-end.ensures.snaps) c.finish-outcome.result c.finish-outcome.ensures.ends

pub returns-in-Ok-end-clause-leaves : goal.returns-in-Ok-end-clause-leaves
returns-in-Ok-end-clause-leaves g c =
    let F = g.F.Folder.seen in let O = g.O.Sink.seen in
    let own = c.args.options.now in let meaning = known_meaning c.args.job.now in let settings = settings_of own.settings in
    let G : Given = given_by_plan meaning settings c.in-Ok-planned.plan in
    let t : Traced = record { begun = c.in-Ok-end.end.begun.items; histories = map (λ h. h.events) c.in-Ok-end.end.histories.items } in
    let s : Spilling = record { before = map g.V.Folder.seen c.args.spills.now.items; after = map g.V.Folder.seen c.run_plan-end.new.spills.items } in
    leaves-after own.settings.workers s (rw c.in-Ok-end.is at c.run_plan-end.ensures.left) c.finish-outcome.result (ends-none (F c.run_plan-end.result.folder) (F c.finish-outcome.new.folder) (O c.args.out.now) (O c.finish-outcome.new.out) G (map known_meaning c.args.later.now) t c.in-Ok-end.end.texts c.finish-outcome.result c.finish-outcome.ensures.ends)

pub returns-clause-meets : goal.returns-clause-meets
returns-clause-meets g c =
    let F = g.F.Folder.seen in let O = g.O.Sink.seen in
    let own = c.args.options.now in let options = options_of own in let meaning = known_meaning c.args.job.now in let plan = c.in-Ok-planned.plan in let settings = settings_of own.settings in
    let texts : RunTexts = record { input = c.in-Ok.texts.input.items; script = c.in-Ok.texts.script.items; turns = c.in-Ok.texts.turns.items } in
    let G : Given = given_by_plan meaning settings plan in
    let e = c.in-Ok-planned.ensures in
    let is : G ≡ given_by meaning settings texts = λ i. record { job = meaning; records = (e.book i).records; script = e.script i; settings = settings; turns = e.turns i } in
    let s : Spilling = record { before = map g.V.Folder.seen c.args.spills.now.items; after = map g.V.Folder.seen c.run_plan-end.new.spills.items } in
    let fault = rw c.in-Err-end.is at c.run_plan-end.ensures.fault in
    stopped-meets options meaning (map known_meaning c.args.later.now) c.args.input.now (runs-job own meaning (map known_meaning c.args.later.now) c.args.input.now c.requires.asked) (F c.args.folder) (F c.run_plan-end.result.folder) (O c.args.out.now) (O c.args.out.now) s
    texts c.in-Ok.ensures.read e.accepted G is (F c.read_run.new.folder) c.in-Ok.ensures.left refl c.in-Err-end.outcome fault.early fault.may fault.held fault.counts fault.why
