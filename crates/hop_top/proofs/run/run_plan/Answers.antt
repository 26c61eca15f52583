use Rattle.std.proofs.Common.{◌≡◌, ◌≤◌, Bool, List, length, map, refl, sym, subst, arith}
use Rattle.std.proofs.lemmas.List.{length-map}
use Rattle.hop_jobs.specs.declared.known.Known.{Known}
use Rattle.hop_jobs.specs.Known.{known_meaning}
use Rattle.hop_jobs.specs.KnownLaws.{known_lawful}
use Rattle.hop_ports.specs.Views.{FolderView}
use Rattle.hop_replay.specs.Driven.{Traced}
use Rattle.hop_replay.specs.Folders.{Spilling}
use Rattle.hop_replay.specs.Given.{Given}
use Rattle.hop_words.specs.Options.{settings_of}
use Rattle.hop_top.specs.Ends.{RunFails, RunSnaps}
use Rattle.hop_top.specs.Plans.{given_by_plan}
use Rattle.hop_top.specs.Spilling.{RunLeaves, all_tell}
use Rattle.hop_top.specs.Stops.{outcome_of}
use Rattle.hop_top.specs.declared.outcome.Outcome.{Outcome}
use Rattle.hop_top.specs.declared.outcome.Outcome.TheVariants as outcome
use Rattle.hop_top.proofs.RunLaws.{leaves-after}
use Rattle.hop_top.proofs.SnapLaws.{fails-so, fails-unput, snaps-so}
use Rattle.hop_top.proofs.SpillLaws.{first-folders, ran-whole, leaves-whole, stops-whole, tells-same, untouched}
use Rattle.hop_top.proofs.run.run_plan.Goals as goal

pub returns-in_default-clause-leaves : goal.returns-in_default-clause-leaves
returns-in_default-clause-leaves g c =
    let views : List FolderView = map g.V.Folder.seen c.args.spills.now.items in let workers = c.args.settings.now.workers in
    let n = length-map c.args.spills.now.items g.V.Folder.seen in let own = c.args.spills.now.ok in let all = c.requires.spills in let few = c.args.settings.now.few_workers in
    let enough : workers ≤ length views = omega (arith, n, own, all, few) in
    leaves-after workers (record { before = views; after = views }) (untouched workers views enough) outcome.NoMemory tt

pub returns-in_default-with_capacity-clause-leaves : goal.returns-in_default-with_capacity-clause-leaves
returns-in_default-with_capacity-clause-leaves g c =
    let views : List FolderView = map g.V.Folder.seen c.args.spills.now.items in let workers = c.args.settings.now.workers in
    let n = length-map c.args.spills.now.items g.V.Folder.seen in let own = c.args.spills.now.ok in let all = c.requires.spills in let few = c.args.settings.now.few_workers in
    let enough : workers ≤ length views = omega (arith, n, own, all, few) in
    leaves-after workers (record { before = views; after = views }) (untouched workers views enough) outcome.NoMemory tt

pub replay-end-requires-clause-given : goal.replay-end-requires-clause-given
replay-end-requires-clause-given g c = record {
  run = record { lawful = known_lawful c.args.job.now; short = λ k d l. let s = c.requires.book.short k d l in omega (arith, s); limit = c.args.settings.now.few_attempts };
  job_is = refl;
  book_is = λ i. record { records = c.args.plan.now.book.records; split = c.requires.split i };
  script_is = refl;
  settings_are = refl;
}

pub replay-end-requires-clause-turns : goal.replay-end-requires-clause-turns
replay-end-requires-clause-turns g c = c.requires.turns

pub replay-end-requires-clause-folders : goal.replay-end-requires-clause-folders
replay-end-requires-clause-folders g c =
    let n = c.set_apart.ensures.count in let own = c.set_apart.new.spills.ok in
    first-folders g.V.Folder.seen c.args.settings.now.workers c.set_apart.new.spills.items (omega (arith, n, own))

pub returns-in-Ok-end-clause-ran : goal.returns-in-Ok-end-clause-ran
returns-in-Ok-end-clause-ran g c =
    let n = c.set_apart.ensures.count in let own = c.set_apart.new.spills.ok in let workers = c.args.settings.now.workers in
    let kept = c.set_apart.new.spills.items in let others = c.set_apart.new.others.items in let later = c.replay-end.new.folders.items in
    let count : length kept ≡ workers = omega (arith, n, own) in
    let G : Given = given_by_plan (known_meaning c.args.job.now) (settings_of c.args.settings.now) c.args.plan.now in
    let t : Traced = record { begun = c.in-Ok-end.end.begun.items; histories = map (λ h. h.events) c.in-Ok-end.end.histories.items } in
    ran-whole g.V.Folder.seen workers c.args.spills.now.items kept others c.set_apart.ensures.all count later c.append.new.self.items (sym c.in-Ok-append.ensures.items) c.replay-end.ensures.count
    G t c.in-Ok-end.end.texts refl (rw c.in-Ok-end.is at c.replay-end.ensures.ran)

pub returns-in-Ok-end-clause-left : goal.returns-in-Ok-end-clause-left
returns-in-Ok-end-clause-left g c =
    let n = c.set_apart.ensures.count in let own = c.set_apart.new.spills.ok in let workers = c.args.settings.now.workers in
    let kept = c.set_apart.new.spills.items in let others = c.set_apart.new.others.items in let later = c.replay-end.new.folders.items in
    let count : length kept ≡ workers = omega (arith, n, own) in
    leaves-whole g.V.Folder.seen workers c.args.spills.now.items kept others c.set_apart.ensures.all count later c.append.new.self.items (sym c.in-Ok-append.ensures.items) c.replay-end.ensures.count
    c.replay-end.ensures.only (rw c.in-Ok-end.is at c.replay-end.ensures.none)

pub returns-clause-fault : goal.returns-clause-fault
returns-clause-fault g c =
    let F = g.F.Folder.seen in let seen = g.V.Folder.seen in
    let n = c.set_apart.ensures.count in let own = c.set_apart.new.spills.ok in let workers = c.args.settings.now.workers in
    let kept = c.set_apart.new.spills.items in let others = c.set_apart.new.others.items in
    let count : length kept ≡ workers = omega (arith, n, own) in
    let G : Given = given_by_plan (known_meaning c.args.job.now) (settings_of c.args.settings.now) c.args.plan.now in
    let old = F c.args.folder in let new = F c.replay-end.result.folder in
    subst (RunFails G (map known_meaning c.args.later.now) (all_tell workers (map seen c.args.spills.now.items)) old new) (sym c.outcome_of.ensures)
    (subst (λ (b : Bool). RunFails G (map known_meaning c.args.later.now) b old new (outcome_of c.in-Err-end.fault)) (tells-same seen workers c.args.spills.now.items kept others c.set_apart.ensures.all count)
    (subst (λ (jobs : List Known). RunFails G (map known_meaning jobs) (all_tell workers (map seen kept)) old new (outcome_of c.in-Err-end.fault)) c.in-Ok.ensures.items
    (fails-so G (map known_meaning c.in-Ok.later.items) (all_tell workers (map seen kept)) c.in-Err-end.fault old new (rw c.in-Err-end.is at c.replay-end.ensures.until) (rw c.in-Err-end.is at c.replay-end.ensures.named))))

pub returns-in-Ok-end-clause-snaps : goal.returns-in-Ok-end-clause-snaps
returns-in-Ok-end-clause-snaps g c =
    let F = g.F.Folder.seen in let seen = g.V.Folder.seen in
    let n = c.set_apart.ensures.count in let own = c.set_apart.new.spills.ok in let workers = c.args.settings.now.workers in
    let kept = c.set_apart.new.spills.items in let others = c.set_apart.new.others.items in
    let count : length kept ≡ workers = omega (arith, n, own) in
    let G : Given = given_by_plan (known_meaning c.args.job.now) (settings_of c.args.settings.now) c.args.plan.now in
    let t : Traced = record { begun = c.in-Ok-end.end.begun.items; histories = map (λ h. h.events) c.in-Ok-end.end.histories.items } in
    let old = F c.args.folder in let new = F c.replay-end.result.folder in
    subst (λ (b : Bool). RunSnaps G (map known_meaning c.args.later.now) b t old new) (tells-same seen workers c.args.spills.now.items kept others c.set_apart.ensures.all count)
    (subst (λ (jobs : List Known). RunSnaps G (map known_meaning jobs) (all_tell workers (map seen kept)) t old new) c.in-Ok.ensures.items
    (snaps-so G (map known_meaning c.in-Ok.later.items) (all_tell workers (map seen kept)) t old new (rw c.in-Ok-end.is at c.replay-end.ensures.snapped)))

pub returns-in_default-clause-fault : goal.returns-in_default-clause-fault
returns-in_default-clause-fault g c =
    let workers = c.args.settings.now.workers in
    fails-unput (given_by_plan (known_meaning c.args.job.now) (settings_of c.args.settings.now) c.args.plan.now) (map known_meaning c.args.later.now) (all_tell workers (map g.V.Folder.seen c.args.spills.now.items)) (g.F.Folder.seen c.args.folder)

pub returns-in_default-with_capacity-clause-fault : goal.returns-in_default-with_capacity-clause-fault
returns-in_default-with_capacity-clause-fault g c =
    let workers = c.args.settings.now.workers in
    fails-unput (given_by_plan (known_meaning c.args.job.now) (settings_of c.args.settings.now) c.args.plan.now) (map known_meaning c.args.later.now) (all_tell workers (map g.V.Folder.seen c.args.spills.now.items)) (g.F.Folder.seen c.args.folder)

pub replay-end-requires-clause-folder : goal.replay-end-requires-clause-folder
replay-end-requires-clause-folder g c = refl

pub returns-clause-leaves : goal.returns-clause-leaves
returns-clause-leaves g c =
    let n = c.set_apart.ensures.count in let own = c.set_apart.new.spills.ok in let workers = c.args.settings.now.workers in
    let all = c.args.spills.now.items in let last = c.append.new.self.items in
    let kept = c.set_apart.new.spills.items in let others = c.set_apart.new.others.items in let later = c.replay-end.new.folders.items in
    let count : length kept ≡ workers = omega (arith, n, own) in
    let s : Spilling = record { before = map g.V.Folder.seen all; after = map g.V.Folder.seen last } in
    subst (λ (o : Outcome). RunLeaves workers s o) (sym c.outcome_of.ensures)
    (stops-whole g.V.Folder.seen workers all kept others c.set_apart.ensures.all count later last (sym c.in-Ok-append.ensures.items) c.replay-end.ensures.count
    c.in-Err-end.fault c.replay-end.ensures.only (rw c.in-Err-end.is at c.replay-end.ensures.stopped))
