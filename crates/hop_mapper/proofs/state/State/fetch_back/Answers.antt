use Rattle.std.proofs.Common.{ℕ, ◌≤◌, sym, ap, ◌∙◌, subst, arith}
use Rattle.hop_base.specs.Run.{RunSettings}
use Rattle.hop_actors.specs.Spilled.{MayFetch}
use Rattle.hop_actors.specs.Counting.{StoreCause}
use Rattle.hop_press.proofs.FetchedLaws.{have_sheets}
use Rattle.hop_mapper.specs.Mappers.{MapperValue, mapper_of, counts_of}
use Rattle.hop_mapper.specs.Faults.{fetch_fault}
use Rattle.hop_mapper.proofs.FetchLaws.{whole_range, fetched_stands, fetch_cause}
use Rattle.hop_mapper.proofs.state.State.fetch_back.Goals as goal

pub fetch_flat-requires : goal.fetch_flat-requires
fetch_flat-requires g c =
    let R = g.N.RunName in have_sheets R.job R.records R.settings c.self.invariant.of_run.run (g.V.Folder.seen c.self.inside.vault.folder).held c.self.inside.vault.rows c.args.part.split c.args.part.attempt c.args.p c.requires.partition c.self.invariant.keeps

pub returns-clause-stands : goal.returns-clause-stands
returns-clause-stands g c = λ tells.
    let R = g.N.RunName in let inv = c.self.invariant in
    let may = subst (λ (m : MapperValue g.row.V.Denot g.row.K.Denot). MayFetch (mapper_of R.records R.script R.settings m) c.args.part) (sym c.self.view_is) c.requires.range in
    let some : 1 ≤ R.settings.spill = subst (λ (x : ℕ). 1 ≤ x) (ap (λ (x : RunSettings). x.spill) inv.of_run.settings_are) c.self.inside.settings.now.some_spill in
    let held = (g.V.Folder.seen c.self.inside.vault.folder).held in
    let whole = whole_range R.job R.records R.settings held c.self.inside.vault.rows c.args.part (omega arith) inv.keeps may.some may.begins may.ends may.within in
    fetched_stands R.job R.records R.settings inv.of_run.run held c.self.inside.vault.rows c.args.part c.args.p c.in-Ok.sheets c.requires.partition inv.keeps whole c.in-Ok.ensures.held (inv.told tells) c.all_known.ensures

pub returns-in-Err-clause-cause : goal.returns-in-Err-clause-cause
returns-in-Err-clause-cause g c =
    let R = g.N.RunName in let inv = c.self.invariant in
    let may = subst (λ (m : MapperValue g.row.V.Denot g.row.K.Denot). MayFetch (mapper_of R.records R.script R.settings m) c.args.part) (sym c.self.view_is) c.requires.range in
    let some : 1 ≤ R.settings.spill = subst (λ (x : ℕ). 1 ≤ x) (ap (λ (x : RunSettings). x.spill) inv.of_run.settings_are) c.self.inside.settings.now.some_spill in
    let whole = whole_range R.job R.records R.settings (g.V.Folder.seen c.self.inside.vault.folder).held c.self.inside.vault.rows c.args.part (omega arith) inv.keeps may.some may.begins may.ends may.within in
    let h = fetch_cause g.V.Folder.seen c.self.inside.vault c.fetch_flat.new.self c.fetch_flat.ensures.left c.args.part whole R.job R.records R.script R.settings some inv.keeps inv.ends c.worker-worker.result c.args.p c.in-Err.fault c.in-Err.ensures.answered c.in-Err.ensures.cause in
    subst (λ f. StoreCause R.job R.records R.script R.settings c.args.self.now.vault.worker (counts_of g.V.Folder.seen c.args.self.now.vault) (counts_of g.V.Folder.seen c.fetch_flat.new.self) f) (sym c.fetch_fault.ensures)
    (subst (λ w. StoreCause R.job R.records R.script R.settings w (counts_of g.V.Folder.seen c.args.self.now.vault) (counts_of g.V.Folder.seen c.fetch_flat.new.self) (fetch_fault c.worker-worker.result c.in-Err.fault)) (c.worker-worker.ensures ∙ ap (λ (m : MapperValue g.row.V.Denot g.row.K.Denot). m.vault.worker) c.self.view_is)
    (subst (λ (m : MapperValue g.row.V.Denot g.row.K.Denot). StoreCause R.job R.records R.script R.settings c.worker-worker.result (counts_of g.V.Folder.seen m.vault) (counts_of g.V.Folder.seen c.fetch_flat.new.self) (fetch_fault c.worker-worker.result c.in-Err.fault)) c.self.view_is h))
