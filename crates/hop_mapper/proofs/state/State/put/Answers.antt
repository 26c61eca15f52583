use Rattle.std.proofs.Common.{sym, subst}
use Rattle.hop_mapper.specs.Mappers.{MapperValue}
use Rattle.hop_mapper.specs.Next.{IsNext}
use Rattle.hop_mapper.proofs.Keeping.{keeps_made, still_told}
use Rattle.hop_mapper.proofs.NamedLaws.{within_after, next_within}
use Rattle.hop_shelf.specs.Names.{rules_of}
use Rattle.hop_spill.specs.Spelling.{spill_in}
use Rattle.hop_actors.specs.Spilled.{OnlySpills}
use Rattle.hop_mapper.proofs.OnlySpilled.{only_kept}
use Rattle.hop_mapper.proofs.state.State.put.Goals as goal

pub invariant_of-self : goal.invariant_of-self
invariant_of-self g c =
    let R = g.N.RunName in let inv = c.self.invariant in
    let old = g.V.Folder.seen c.self.inside.vault.folder in let new = g.V.Folder.seen c.keep_flat.new.self.folder in
    let next = subst (λ (m : MapperValue g.row.V.Denot g.row.K.Denot). IsNext R.records R.settings m.vault.rows c.args.part) (sym c.self.view_is) c.requires.next in
    record {
      of_run = inv.of_run;
      keeps = keeps_made R.job R.records R.settings c.args.part c.requires.spill old new c.self.inside.vault.rows c.keep_flat.new.self.rows c.keep_flat.result (spill_in c.args.spill.now) c.requires.value next c.keep_flat.ensures.kept c.keep_flat.ensures.cause inv.keeps;
      ends = within_after (rules_of R.records R.script R.settings) old new c.self.inside.vault.rows c.keep_flat.new.self.rows c.keep_flat.result (spill_in c.args.spill.now) c.keep_flat.ensures.kept c.keep_flat.ensures.cause (next_within R.job R.records R.script R.settings c.self.inside.vault.rows c.args.part (spill_in c.args.spill.now) next c.requires.within c.requires.value) inv.ends;
      told = λ t. still_told R.job R.records R.settings c.args.part c.requires.spill old new c.self.inside.vault.rows c.keep_flat.new.self.rows c.keep_flat.result (spill_in c.args.spill.now) c.requires.value next c.keep_flat.ensures.kept c.keep_flat.ensures.cause (inv.told t);
      lanes = inv.lanes;
      counts = inv.counts;
      ready = inv.ready;
    }

pub invariant_of-self-in-Err-StoreFailed : goal.invariant_of-self-in-Err-StoreFailed
invariant_of-self-in-Err-StoreFailed g c =
    let R = g.N.RunName in let inv = c.self.invariant in
    let old = g.V.Folder.seen c.self.inside.vault.folder in let new = g.V.Folder.seen c.keep_flat.new.self.folder in
    let next = subst (λ (m : MapperValue g.row.V.Denot g.row.K.Denot). IsNext R.records R.settings m.vault.rows c.args.part) (sym c.self.view_is) c.requires.next in
    record {
      of_run = inv.of_run;
      keeps = keeps_made R.job R.records R.settings c.args.part c.requires.spill old new c.self.inside.vault.rows c.keep_flat.new.self.rows c.keep_flat.result (spill_in c.args.spill.now) c.requires.value next c.keep_flat.ensures.kept c.keep_flat.ensures.cause inv.keeps;
      ends = within_after (rules_of R.records R.script R.settings) old new c.self.inside.vault.rows c.keep_flat.new.self.rows c.keep_flat.result (spill_in c.args.spill.now) c.keep_flat.ensures.kept c.keep_flat.ensures.cause (next_within R.job R.records R.script R.settings c.self.inside.vault.rows c.args.part (spill_in c.args.spill.now) next c.requires.within c.requires.value) inv.ends;
      told = λ t. still_told R.job R.records R.settings c.args.part c.requires.spill old new c.self.inside.vault.rows c.keep_flat.new.self.rows c.keep_flat.result (spill_in c.args.spill.now) c.requires.value next c.keep_flat.ensures.kept c.keep_flat.ensures.cause (inv.told t);
      lanes = inv.lanes;
      counts = inv.counts;
      ready = inv.ready;
    }

pub invariant_of-self-in-Err-NoMemory : goal.invariant_of-self-in-Err-NoMemory
invariant_of-self-in-Err-NoMemory g c =
    let R = g.N.RunName in let inv = c.self.invariant in
    let old = g.V.Folder.seen c.self.inside.vault.folder in let new = g.V.Folder.seen c.keep_flat.new.self.folder in
    let next = subst (λ (m : MapperValue g.row.V.Denot g.row.K.Denot). IsNext R.records R.settings m.vault.rows c.args.part) (sym c.self.view_is) c.requires.next in
    record {
      of_run = inv.of_run;
      keeps = keeps_made R.job R.records R.settings c.args.part c.requires.spill old new c.self.inside.vault.rows c.keep_flat.new.self.rows c.keep_flat.result (spill_in c.args.spill.now) c.requires.value next c.keep_flat.ensures.kept c.keep_flat.ensures.cause inv.keeps;
      ends = within_after (rules_of R.records R.script R.settings) old new c.self.inside.vault.rows c.keep_flat.new.self.rows c.keep_flat.result (spill_in c.args.spill.now) c.keep_flat.ensures.kept c.keep_flat.ensures.cause (next_within R.job R.records R.script R.settings c.self.inside.vault.rows c.args.part (spill_in c.args.spill.now) next c.requires.within c.requires.value) inv.ends;
      told = λ t. still_told R.job R.records R.settings c.args.part c.requires.spill old new c.self.inside.vault.rows c.keep_flat.new.self.rows c.keep_flat.result (spill_in c.args.spill.now) c.requires.value next c.keep_flat.ensures.kept c.keep_flat.ensures.cause (inv.told t);
      lanes = inv.lanes;
      counts = inv.counts;
      ready = inv.ready;
    }

pub returns-in-Ok-clause-only : goal.returns-in-Ok-clause-only
returns-in-Ok-clause-only g c =
    let old = g.V.Folder.seen c.self.inside.vault.folder in let new = g.V.Folder.seen c.keep_flat.new.self.folder in
    subst (λ (m : MapperValue g.row.V.Denot g.row.K.Denot). OnlySpills (g.V.Folder.seen m.vault.folder).held new.held) c.self.view_is
    (only_kept old new c.self.inside.vault.rows c.keep_flat.new.self.rows (spill_in c.args.spill.now) c.keep_flat.result c.keep_flat.ensures.kept c.keep_flat.ensures.cause)

pub returns-in-Err-StoreFailed-clause-only : goal.returns-in-Err-StoreFailed-clause-only
returns-in-Err-StoreFailed-clause-only g c =
    let old = g.V.Folder.seen c.self.inside.vault.folder in let new = g.V.Folder.seen c.keep_flat.new.self.folder in
    subst (λ (m : MapperValue g.row.V.Denot g.row.K.Denot). OnlySpills (g.V.Folder.seen m.vault.folder).held new.held) c.self.view_is
    (only_kept old new c.self.inside.vault.rows c.keep_flat.new.self.rows (spill_in c.args.spill.now) c.keep_flat.result c.keep_flat.ensures.kept c.keep_flat.ensures.cause)

pub returns-in-Err-NoMemory-clause-only : goal.returns-in-Err-NoMemory-clause-only
returns-in-Err-NoMemory-clause-only g c =
    let old = g.V.Folder.seen c.self.inside.vault.folder in let new = g.V.Folder.seen c.keep_flat.new.self.folder in
    subst (λ (m : MapperValue g.row.V.Denot g.row.K.Denot). OnlySpills (g.V.Folder.seen m.vault.folder).held new.held) c.self.view_is
    (only_kept old new c.self.inside.vault.rows c.keep_flat.new.self.rows (spill_in c.args.spill.now) c.keep_flat.result c.keep_flat.ensures.kept c.keep_flat.ensures.cause)
