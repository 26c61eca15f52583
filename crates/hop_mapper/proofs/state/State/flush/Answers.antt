use Rattle.std.proofs.Common.{ℕ, ◌≤◌, ap, subst}
use Rattle.hop_base.specs.Run.{RunSettings}
use Rattle.hop_actors.specs.Counting.{StoreCause}
use Rattle.hop_mapper.specs.Mappers.{MapperValue, counts_of}
use Rattle.hop_mapper.specs.Faults.{flush_fault}
use Rattle.hop_mapper.proofs.FaultLaws.{flush_cause}
use Rattle.hop_mapper.proofs.state.State.flush.Goals as goal

pub returns-in-Err-clause-cause : goal.returns-in-Err-clause-cause
returns-in-Err-clause-cause g c =
    let R = g.N.RunName in let inv = c.self.invariant in let seen = g.V.Folder.seen in let stop = c.in-Err.ensures in
    let some : 1 ≤ R.settings.spill = subst (λ (x : ℕ). 1 ≤ x) (ap (λ (x : RunSettings). x.spill) inv.of_run.settings_are) c.self.inside.settings.now.some_spill in
    let h = flush_cause seen c.self.inside.vault c.flush_all.new.vault stop.left R.job R.records R.script R.settings some inv.keeps inv.ends c.self.inside.vault.worker stop.cause.0 c.in-Err.fault stop.answered stop.cause.2 in
    subst (λ (m : MapperValue g.row.V.Denot g.row.K.Denot). StoreCause R.job R.records R.script R.settings m.vault.worker (counts_of seen m.vault) (counts_of seen c.flush_all.new.vault) (flush_fault m.vault.worker c.in-Err.fault)) c.self.view_is h
