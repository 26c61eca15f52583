use Rattle.std.proofs.Common.{[], ◌++◌, ap, ◌∙◌}
use Rattle.hop_base.specs.Fields.{pair_of}
use Rattle.hop_laws.specs.Stands.{combined_pairs, pairs_at}
use Rattle.hop_laws.proofs.FlatGroupLaws.{values_sorted, group_combined}
use Rattle.hop_laws.proofs.flat_groups.combine_groups.Goals as goal

pub combine-requires-clause-sorted : goal.combine-requires-clause-sorted
combine-requires-clause-sorted g c = values_sorted c.args.sheet.now c.loop-at.at c.group_end-end.result c.set_values.new.vals.items c.known.ensures.sorted c.group_end-end.ensures.group c.in_ok-set_values.ensures

pub loop-at-preserved : goal.loop-at-preserved
loop-at-preserved g c =
    let combine = (g.J.Job.meaning c.args.job.now).combined in
    record {
      within = c.group_end-end.ensures.within;
      told = group_combined combine c.args.sheet.now c.loop-at.at c.group_end-end.result (pair_of [] 0 []) c.set_key.new.key c.set_values.new.vals.items c.in_ok-vals.vals.items c.loop-at.fewer c.append_at.new.to (combined_pairs combine c.args.sheet.now) c.known.ensures.sorted c.group_end-end.ensures.some c.group_end-end.ensures.within c.group_end-end.ensures.group
          (c.in_ok-set_key.ensures (pair_of [] 0 [])) c.in_ok-set_values.ensures c.in_ok-vals.ensures (c.in_ok-append_at.ensures ∙ ap (λ vs. c.loop-at.fewer ++ pairs_at c.set_key.new.key vs) c.deref.ensures.value) c.loop-at.invariant.told;
    }
