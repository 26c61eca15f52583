use Rattle.std.proofs.Common.{◌≡◌, ◌⊎◌, ℕ, ◌+◌, ◌%◌, ◌<◌, ◌≤◌, inl, inr, refl, sym, ap, ◌∙◌, subst, arith}
use Rattle.std.specs.Prelude.{min}
use Rattle.hop_base.specs.Run.{fails_at}
use Rattle.hop_shelf.specs.Names.{rules_of}
use Rattle.hop_machine.specs.actors.MapperTurns.{spills, spill_end}
use Rattle.hop_machine.specs.step.Pushing.{kept_end as last_end}
use Rattle.hop_machine.proofs.mapper.Spills.{spills_within}
use Rattle.hop_machine.specs.step.Steps.{Runs}
use Rattle.hop_inner.specs.Setups.{parts}
use Rattle.hop_press.specs.Fits.{IsWhole}
use Rattle.hop_actors.specs.Acting.{said_turn}
use Rattle.hop_mapper.specs.Mappers.{MapperValue, mapper_of, running_of, FitsBoard}
use Rattle.hop_mapper.specs.Next.{split_len}
use Rattle.hop_mapper.specs.declared.work.Work.TheVariants as work
use Rattle.hop_mapper.proofs.Fitting.{whole_now, held_more}
use Rattle.hop_mapper.proofs.PartsOfTurns.{spill_safe, spill_either, unspilled}
use Rattle.hop_mapper.proofs.state.State.spill.Goals as goal

begins_whole : (done spill len : ℕ) → (done % spill ≡ 0) ⊎ (done ≡ len) → (done ≡ len → ⊥) → done % spill ≡ 0
begins_whole done spill len (inl e) n = e
begins_whole done spill len (inr e) n = absurd (n e)

more_there : (done spill len end : ℕ) → done ≤ len → (done ≡ len → ⊥) → 1 ≤ spill → end ≡ min (done + spill) len → done < end
more_there done spill len end h n s e = grind arith

pub keep-requires : goal.keep-requires
keep-requires g c =
    let R = g.N.RunName in let here = c.requires.here in record {
      next = record {
        split = here.split;
        attempt = here.attempt;
        kept = here.kept;
        begins = begins_whole c.args.run.done R.settings.spill (split_len R.records R.settings c.args.run.split) here.whole c.requires.more;
        some = more_there c.args.run.done R.settings.spill (split_len R.records R.settings c.args.run.split) c.spill_end-end.result here.within c.requires.more c.known.ensures.some_spill c.spill_end-end.ensures;
        to = c.spill_end-end.ensures;
      };
      within =
          let rules = rules_of R.records R.script R.settings in let r = running_of c.args.run in let size = c.known.ensures.some_spill in
          subst (λ (n : ℕ). n ≤ last_end rules c.args.run.split c.args.run.attempt) (sym c.spill_end-end.ensures)
          (spills_within R.settings.spill (split_len R.records R.settings c.args.run.split) c.args.run.done (spill_end rules r) (omega arith) refl (fails_at R.script c.args.run.split c.args.run.attempt) c.requires.goes_on here.whole);
    }

pub give_parts-requires-clause-whole : goal.give_parts-requires-clause-whole
give_parts-requires-clause-whole g c =
    let R = g.N.RunName in let e = g.E.Reach.exact in let m = c.args.self.now in let run = c.args.run in let end = c.spill_end-end.result in let a = g.E.Reach.deeds c.args.reach.now in
    let adds = c.in-Ok.ensures.adds in let v = c.keep.new.self.vault in
    subst (λ t. IsWhole t (record { split = run.split; attempt = run.attempt; from = run.done; to = end })) (sym (ap (λ (x : MapperValue g.row.V.Denot g.row.K.Denot). x.vault.rows) c.set_work.ensures))
    (whole_now m.vault.rows v.rows run.split run.attempt adds.kept adds.rows (record { split = run.split; attempt = run.attempt; from = run.done; to = end }) refl refl adds.kept_is.from_is adds.kept_is.to_is adds.next.some)

pub give_parts-requires-clause-safe : goal.give_parts-requires-clause-safe
give_parts-requires-clause-safe g c =
    let R = g.N.RunName in let e = g.E.Reach.exact in let m = c.args.self.now in let run = c.args.run in let end = c.spill_end-end.result in let a = g.E.Reach.deeds c.args.reach.now in
    let adds = c.in-Ok.ensures.adds in let v = c.keep.new.self.vault in
    let now = c.set_work.ensures ∙ ap (λ (x : MapperValue g.row.V.Denot g.row.K.Denot). record x { work = work.Runs (record { split = run.split; attempt = run.attempt; done = end }) }) c.keep.ensures.rest.rest in
    spill_safe R.records R.script R.settings e m c.set_work.new.self run end v adds.kept now c.keep.ensures.rest.worker adds.rows adds.kept_is.to_is parts a c.spill_end-end.ensures c.requires.safe

pub give_parts-requires-clause-fits : goal.give_parts-requires-clause-fits
give_parts-requires-clause-fits g c =
    let R = g.N.RunName in let e = g.E.Reach.exact in let m = c.args.self.now in let run = c.args.run in let end = c.spill_end-end.result in let a = g.E.Reach.deeds c.args.reach.now in
    let adds = c.in-Ok.ensures.adds in let v = c.keep.new.self.vault in
    let now = c.set_work.ensures ∙ ap (λ (x : MapperValue g.row.V.Denot g.row.K.Denot). record x { work = work.Runs (record { split = run.split; attempt = run.attempt; done = end }) }) c.keep.ensures.rest.rest in
    subst (λ (x : MapperValue g.row.V.Denot g.row.K.Denot). FitsBoard R.job R.records R.settings R.tells g.K.Knowing.knows g.K.Knowing.board x a) (sym now)
    (held_more m.vault.rows v.rows run.split run.attempt adds.kept adds.rows g.K.Knowing.knows g.K.Knowing.board a.ends.board R.job R.records R.settings R.tells m.held c.requires.fits)

pub returns-in-Ok-clause-runs : goal.returns-in-Ok-clause-runs
returns-in-Ok-clause-runs g c =
    let R = g.N.RunName in let e = g.E.Reach.exact in let m = c.args.self.now in let run = c.args.run in let end = c.spill_end-end.result in let a = g.E.Reach.deeds c.args.reach.now in
    let adds = c.in-Ok.ensures.adds in let v = c.keep.new.self.vault in
    let now = c.set_work.ensures ∙ ap (λ (x : MapperValue g.row.V.Denot g.row.K.Denot). record x { work = work.Runs (record { split = run.split; attempt = run.attempt; done = end }) }) c.keep.ensures.rest.rest in
    let b = g.E.Reach.deeds c.give_parts.new.reach in let m2 = c.give_parts.new.self in
    let h = spill_either R.records R.script R.settings e m c.set_work.new.self run end v adds.kept now c.keep.ensures.rest.worker adds.rows adds.kept_is.to_is c.spill_end-end.ensures a b m2 c.give_parts.ensures.same.rest c.give_parts.result c.give_parts.ensures.runs in
    subst (λ t. Runs e (spills (mapper_of R.records R.script R.settings m) (running_of run)) a (mapper_of R.records R.script R.settings m2, said_turn t) b) (sym c.turn_of.ensures) h

pub returns-in-Err-clause-runs : goal.returns-in-Err-clause-runs
returns-in-Err-clause-runs g c =
    let R = g.N.RunName in let e = g.E.Reach.exact in let m = c.args.self.now in let a = g.E.Reach.deeds c.args.reach.now in
    let h = unspilled R.records R.script R.settings e m c.keep.new.self c.args.run c.keep.new.self.vault a c.keep.ensures.rest.rest c.keep.ensures.rest.worker c.in-Err.ensures.rows in
    subst (λ t. Runs e (spills (mapper_of R.records R.script R.settings m) (running_of c.args.run)) a (mapper_of R.records R.script R.settings c.keep.new.self, t) a) (sym c.in-Err.ensures.stops) h
