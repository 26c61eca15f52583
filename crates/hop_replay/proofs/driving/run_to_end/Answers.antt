use Rattle.std.proofs.Common.{◌≡◌, ◌<◌, ℕ, Bool, true, List, length, map, arith, inl, inr, refl, sym, ap, ◌∙◌, subst}
use Rattle.std.proofs.lemmas.List.{length-map}
use Rattle.hop_event.specs.declared.event.Event.{Event}
use Rattle.hop_event.specs.Legal.{AllWon}
use Rattle.hop_laws.specs.Blocking.{blocking_texts}
use Rattle.hop_machine.specs.step.Steps.{Setup}
use Rattle.hop_machine.specs.home.Said.{history_of}
use Rattle.hop_machine.specs.play.Play.{World, Opening, Over}
use Rattle.hop_machine.specs.run.AllHome.{RanToItsEnd}
use Rattle.hop_machine.proofs.run.Starting.{start_at_home}
use Rattle.hop_machine.proofs.run.WholeRun.{ends_settled, run_went}
use Rattle.hop_actors.specs.declared.fault.Fault.TheVariants as fault
use Rattle.hop_ending.proofs.Numbers.{start_numbers}
use Rattle.hop_settle.specs.Crews.{actors_of, world_of}
use Rattle.hop_settle.specs.Playing.{orders_of}
use Rattle.hop_settle.proofs.BegunLaws.{counted-begun}
use Rattle.hop_settle.proofs.Lists.{map-at}
use Rattle.hop_replay.specs.Given.{Given}
use Rattle.hop_replay.proofs.ByPlace.{only-by-place}
use Rattle.hop_replay.proofs.Drove.{DroveIn, drove-in, drove-so}
use Rattle.hop_replay.proofs.GoingOn.{Ended}
use Rattle.hop_replay.proofs.Stopping.{none-taken}
use Rattle.hop_replay.proofs.Whole.{free-then, all-won, are-histories, all-alone}
use Rattle.hop_replay.proofs.driving.run_to_end.Goals as goal

pub drive-requires-clause-home : goal.drive-requires-clause-home
drive-requires-clause-home g c =
    let E = g.E.Reach in
    start_at_home g.N.RunName.settings.backup (actors_of (map g.M.Store.mapper c.args.mappers.now.items) (map g.D.Taker.reducer c.args.reducers.now.items) (g.W.SnapshotWriter.writer c.args.writer.now)) (E.deeds c.args.reach.now) c.requires.start

pub drive-requires-clause-turns : goal.drive-requires-clause-turns
drive-requires-clause-turns g c =
    let E = g.E.Reach in
    none-taken g.N.RunName.settings.backup (actors_of (map g.M.Store.mapper c.args.mappers.now.items) (map g.D.Taker.reducer c.args.reducers.now.items) (g.W.SnapshotWriter.writer c.args.writer.now)) (E.deeds c.args.reach.now) c.requires.start

pub returns-in-Err-clause-until : goal.returns-in-Err-clause-until
returns-in-Err-clause-until g c =
    let E = g.E.Reach in let N = g.N.RunName in let k = g.M.Store.mapper in let f = g.D.Taker.reducer in let z = g.W.SnapshotWriter.writer in let n = c.drive in
    let A : World = world_of (map k c.args.mappers.now.items) (map f c.args.reducers.now.items) (z c.args.writer.now) (E.deeds c.args.reach.now) in
    let D : World = world_of (map k n.new.mappers.items) (map f n.new.reducers.items) (z n.new.writer) (E.deeds n.new.reach) in
    let G : Given = record { job = N.job; records = N.records; script = N.script; settings = N.settings; turns = c.args.turns.now } in
    let list = orders_of c.args.turns.now in
    let ended : Ended true (Opening 0 list, A) D c.in-Err.fault = subst (λ (b : Bool). Ended b (Opening 0 list, A) D c.in-Err.fault) c.requires.exact c.in-Err.ensures.stopped in
    c.writers_write_cuts.ensures.until G A D (g.met.E.Reach.of_run c.args.reach.now) (g.met.E.Reach.of_run n.new.reach) c.requires.new c.requires.start c.in-Err.fault ended.0 ended.1 ended.2

pub returns-in-Err-clause-only : goal.returns-in-Err-clause-only
returns-in-Err-clause-only g c =
    let E = g.E.Reach in let N = g.N.RunName in let k = g.M.Store.mapper in let f = g.D.Taker.reducer in let z = g.W.SnapshotWriter.writer in let n = c.drive in
    let A : World = world_of (map k c.args.mappers.now.items) (map f c.args.reducers.now.items) (z c.args.writer.now) (E.deeds c.args.reach.now) in
    let D : World = world_of (map k n.new.mappers.items) (map f n.new.reducers.items) (z n.new.writer) (E.deeds n.new.reach) in
    let s = c.in-Err.ensures.stopped in
    only-by-place k g.M.Store.held N.spills n.new.mappers.items (start_numbers E.exact N.settings.backup (Opening 0 (orders_of c.args.turns.now)) s.0 A D c.requires.start s.1) c.know_folders.ensures.only

pub run_end-requires-clause-free : goal.run_end-requires-clause-free
run_end-requires-clause-free g c = λ p l.
    let E = g.E.Reach in let k = g.M.Store.mapper in let f = g.D.Taker.reducer in let z = g.W.SnapshotWriter.writer in let n = c.drive in
    let A : World = world_of (map k c.args.mappers.now.items) (map f c.args.reducers.now.items) (z c.args.writer.now) (E.deeds c.args.reach.now) in
    let D : World = world_of (map k n.new.mappers.items) (map f n.new.reducers.items) (z n.new.writer) (E.deeds n.new.reach) in
    let list = orders_of c.args.turns.now in
    let ran : RanToItsEnd true (Opening 0 list) A D = subst (λ (b : Bool). RanToItsEnd b (Opening 0 list) A D) c.requires.exact c.in-Ok.ensures.ran in
    let many = c.len-partitions.ensures in let before = c.requires.start.reducers in let mapped = length-map c.args.reducers.now.items f in
    let sa = ap (λ (s : Setup). s.reducers) (g.met.E.Reach.of_run c.args.reach.now) in let sd = ap (λ (s : Setup). s.reducers) (g.met.E.Reach.of_run n.new.reach) in
    let inside : p < D.deeds.setup.reducers = omega (arith, l, many, before, mapped, sa, sd) in
    free-then (Opening 0 list) A D ran p inside (c.in-Ok.ensures.locks p inside)

pub run_end-requires-clause-won : goal.run_end-requires-clause-won
run_end-requires-clause-won g c = λ p l.
    let E = g.E.Reach in let k = g.M.Store.mapper in let f = g.D.Taker.reducer in let z = g.W.SnapshotWriter.writer in let n = c.drive in
    let A : World = world_of (map k c.args.mappers.now.items) (map f c.args.reducers.now.items) (z c.args.writer.now) (E.deeds c.args.reach.now) in
    let D : World = world_of (map k n.new.mappers.items) (map f n.new.reducers.items) (z n.new.writer) (E.deeds n.new.reach) in
    let list = orders_of c.args.turns.now in
    let ran : RanToItsEnd true (Opening 0 list) A D = subst (λ (b : Bool). RanToItsEnd b (Opening 0 list) A D) c.requires.exact c.in-Ok.ensures.ran in
    let many = c.len-partitions.ensures in let before = c.requires.start.reducers in let mapped = length-map c.args.reducers.now.items f in
    let sa = ap (λ (s : Setup). s.reducers) (g.met.E.Reach.of_run c.args.reach.now) in let sd = ap (λ (s : Setup). s.reducers) (g.met.E.Reach.of_run n.new.reach) in
    let inside : p < D.deeds.setup.reducers = omega (arith, l, many, before, mapped, sa, sd) in
    subst (λ (lens : List ℕ). AllWon lens (history_of D.deeds p)) (ap (λ (s : Setup). s.lens) (g.met.E.Reach.of_run n.new.reach)) (all-won (Opening 0 list) A D ran p inside)

pub returns-in-Ok-run_end-clause-drove : goal.returns-in-Ok-run_end-clause-drove
returns-in-Ok-run_end-clause-drove g c =
    let E = g.E.Reach in let N = g.N.RunName in let k = g.M.Store.mapper in let f = g.D.Taker.reducer in let z = g.W.SnapshotWriter.writer in let n = c.drive in
    let A : World = world_of (map k c.args.mappers.now.items) (map f c.args.reducers.now.items) (z c.args.writer.now) (E.deeds c.args.reach.now) in
    let D : World = world_of (map k n.new.mappers.items) (map f n.new.reducers.items) (z n.new.writer) (E.deeds n.new.reach) in
    let G : Given = record { job = N.job; records = N.records; script = N.script; settings = N.settings; turns = c.args.turns.now } in
    let list = orders_of c.args.turns.now in
    let ran : RanToItsEnd true (Opening 0 list) A D = subst (λ (b : Bool). RanToItsEnd b (Opening 0 list) A D) c.requires.exact c.in-Ok.ensures.ran in
    let many = c.len-partitions.ensures in let before = c.requires.start.reducers in let mapped = length-map c.args.reducers.now.items f in
    let oa = g.met.E.Reach.of_run c.args.reach.now in let od = g.met.E.Reach.of_run n.new.reach in
    let sa = ap (λ (s : Setup). s.reducers) oa in let sd = ap (λ (s : Setup). s.reducers) od in
    let all : c.len-partitions.result ≡ N.settings.reducers = omega (arith, many, before, mapped, sa) in
    let here : c.len-partitions.result ≡ D.deeds.setup.reducers = omega (arith, all, sd) in
    let begun : List ℕ = c.in-Ok-run_end.end.begun.items in
    let hs : List (List Event) = map (λ (h : _). h.events) c.in-Ok-run_end.end.histories.items in
    let counted = counted-begun D.actors D.deeds.setup (ends_settled true (Opening 0 list) A D ran).ends.home.workers begun
    (c.in-Ok-run_end.ensures.count ∙ ap (λ (l : List ℕ). length l) (c.as_slice.ensures.value ∙ c.requires.lens ∙ sym (ap (λ (s : Setup). s.lens) od))) c.in-Ok-run_end.ensures.begun in
    let drove = drove-in N.settings.backup list A D c.requires.start.set c.requires.new (od ∙ sym oa) ran (all-alone k n.new.mappers.items c.requires.alone) begun counted hs (are-histories D.deeds c.len-partitions.result hs here c.in-Ok-run_end.ensures.histories) in
    drove-so G N.tells D begun hs c.in-Ok-run_end.end.texts (subst (λ (s : Setup). DroveIn s N.settings.backup list D begun hs) od drove)
    (c.in-Ok-run_end.ensures.parts ∙ all) (λ t. c.in-Ok-run_end.ensures.texts t ∙ ap (blocking_texts N.job N.records) all)

pub returns-in-Ok-run_end-clause-wrote : goal.returns-in-Ok-run_end-clause-wrote
returns-in-Ok-run_end-clause-wrote g c =
    let E = g.E.Reach in let N = g.N.RunName in let k = g.M.Store.mapper in let f = g.D.Taker.reducer in let z = g.W.SnapshotWriter.writer in let n = c.drive in
    let A : World = world_of (map k c.args.mappers.now.items) (map f c.args.reducers.now.items) (z c.args.writer.now) (E.deeds c.args.reach.now) in
    let D : World = world_of (map k n.new.mappers.items) (map f n.new.reducers.items) (z n.new.writer) (E.deeds n.new.reach) in
    let G : Given = record { job = N.job; records = N.records; script = N.script; settings = N.settings; turns = c.args.turns.now } in
    let list = orders_of c.args.turns.now in
    let ran : RanToItsEnd true (Opening 0 list) A D = subst (λ (b : Bool). RanToItsEnd b (Opening 0 list) A D) c.requires.exact c.in-Ok.ensures.ran in
    let many = c.len-partitions.ensures in let before = c.requires.start.reducers in let mapped = length-map c.args.reducers.now.items f in
    let oa = g.met.E.Reach.of_run c.args.reach.now in let od = g.met.E.Reach.of_run n.new.reach in
    let sa = ap (λ (s : Setup). s.reducers) oa in let sd = ap (λ (s : Setup). s.reducers) od in
    let here : c.len-partitions.result ≡ D.deeds.setup.reducers = omega (arith, many, before, mapped, sa, sd) in
    let hs : List (List Event) = map (λ (h : _). h.events) c.in-Ok-run_end.end.histories.items in
    c.writers_write_cuts.ensures.wrote G A D od c.requires.start ran c.in-Ok-run_end.end.begun.items hs (are-histories D.deeds c.len-partitions.result hs here c.in-Ok-run_end.ensures.histories)

pub returns-in-Err-run_end-clause-until : goal.returns-in-Err-run_end-clause-until
returns-in-Err-run_end-clause-until g c =
    let E = g.E.Reach in let N = g.N.RunName in let k = g.M.Store.mapper in let f = g.D.Taker.reducer in let z = g.W.SnapshotWriter.writer in let n = c.drive in
    let A : World = world_of (map k c.args.mappers.now.items) (map f c.args.reducers.now.items) (z c.args.writer.now) (E.deeds c.args.reach.now) in
    let D : World = world_of (map k n.new.mappers.items) (map f n.new.reducers.items) (z n.new.writer) (E.deeds n.new.reach) in
    let G : Given = record { job = N.job; records = N.records; script = N.script; settings = N.settings; turns = c.args.turns.now } in
    let list = orders_of c.args.turns.now in
    let ran : RanToItsEnd true (Opening 0 list) A D = subst (λ (b : Bool). RanToItsEnd b (Opening 0 list) A D) c.requires.exact c.in-Ok.ensures.ran in
    c.writers_write_cuts.ensures.until G A D (g.met.E.Reach.of_run c.args.reach.now) (g.met.E.Reach.of_run n.new.reach) c.requires.new c.requires.start fault.NoMemory Over (run_went true (Opening 0 list) A D ran) tt

pub returns-in-Ok-run_end-clause-numbers : goal.returns-in-Ok-run_end-clause-numbers
returns-in-Ok-run_end-clause-numbers g c = λ w m e.
    let E = g.E.Reach in let k = g.M.Store.mapper in let f = g.D.Taker.reducer in let z = g.W.SnapshotWriter.writer in let n = c.drive in
    let A : World = world_of (map k c.args.mappers.now.items) (map f c.args.reducers.now.items) (z c.args.writer.now) (E.deeds c.args.reach.now) in
    let D : World = world_of (map k n.new.mappers.items) (map f n.new.reducers.items) (z n.new.writer) (E.deeds n.new.reach) in
    let list = orders_of c.args.turns.now in
    let ran : RanToItsEnd true (Opening 0 list) A D = subst (λ (b : Bool). RanToItsEnd b (Opening 0 list) A D) c.requires.exact c.in-Ok.ensures.ran in
    ((ends_settled true (Opening 0 list) A D ran).ends.home.mapper w (k m) (map-at k n.new.mappers.items w m e)).number

pub returns-in-Ok-run_end-clause-well : goal.returns-in-Ok-run_end-clause-well
returns-in-Ok-run_end-clause-well g c = λ w m e. (c.in-Ok.ensures.well w m e).0

pub returns-in-Err-run_end-clause-cause : goal.returns-in-Err-run_end-clause-cause
returns-in-Err-run_end-clause-cause g c = inl (inr (refl, c.in-Ok.ensures.counts), c.in-Ok.ensures.put)

pub returns-in-Ok-run_end-clause-only : goal.returns-in-Ok-run_end-clause-only
returns-in-Ok-run_end-clause-only g c =
    let E = g.E.Reach in let N = g.N.RunName in let k = g.M.Store.mapper in let f = g.D.Taker.reducer in let z = g.W.SnapshotWriter.writer in let n = c.drive in
    let A : World = world_of (map k c.args.mappers.now.items) (map f c.args.reducers.now.items) (z c.args.writer.now) (E.deeds c.args.reach.now) in
    let D : World = world_of (map k n.new.mappers.items) (map f n.new.reducers.items) (z n.new.writer) (E.deeds n.new.reach) in
    let start = Opening 0 (orders_of c.args.turns.now) in
    only-by-place k g.M.Store.held N.spills n.new.mappers.items (start_numbers E.exact N.settings.backup start Over A D c.requires.start (run_went E.exact start A D c.in-Ok.ensures.ran)) c.run_end.ensures.only

pub returns-in-Err-run_end-clause-only : goal.returns-in-Err-run_end-clause-only
returns-in-Err-run_end-clause-only g c =
    let E = g.E.Reach in let N = g.N.RunName in let k = g.M.Store.mapper in let f = g.D.Taker.reducer in let z = g.W.SnapshotWriter.writer in let n = c.drive in
    let A : World = world_of (map k c.args.mappers.now.items) (map f c.args.reducers.now.items) (z c.args.writer.now) (E.deeds c.args.reach.now) in
    let D : World = world_of (map k n.new.mappers.items) (map f n.new.reducers.items) (z n.new.writer) (E.deeds n.new.reach) in
    let start = Opening 0 (orders_of c.args.turns.now) in
    only-by-place k g.M.Store.held N.spills n.new.mappers.items (start_numbers E.exact N.settings.backup start Over A D c.requires.start (run_went E.exact start A D c.in-Ok.ensures.ran)) c.run_end.ensures.only
