use Rattle.std.proofs.Common.{[], ◌∙◌}
use Rattle.hop_base.specs.Fields.{pair_of}
use Rattle.hop_laws.specs.Groups.{red}
use Rattle.hop_laws.proofs.FlatGroupLaws.{values_sorted, group_told}
use Rattle.hop_laws.proofs.flat_groups.reduce_flat.Goals as goal

pub reduce-requires-clause-sorted : goal.reduce-requires-clause-sorted
reduce-requires-clause-sorted g c =
    values_sorted c.args.sheet.now c.loop-at.at c.group_end-end.result c.deref.result.now c.known.ensures.sorted c.group_end-end.ensures.group (c.deref.ensures.value ∙ c.in_ok-set_values.ensures)

pub loop-at-preserved : goal.loop-at-preserved
loop-at-preserved g c =
    let reduce = (g.J.Job.meaning c.args.job.now).reduced in
    record {
      within = c.group_end-end.ensures.within;
      told = group_told reduce c.args.sheet.now c.loop-at.at c.group_end-end.result (pair_of [] 0 []) c.set_key.new.key c.deref.result.now c.loop-at.text.items c.reduce.new.out.items (red reduce c.args.sheet.now) c.known.ensures.sorted c.group_end-end.ensures.some c.group_end-end.ensures.within c.group_end-end.ensures.group
          (c.in_ok-set_key.ensures (pair_of [] 0 [])) (c.deref.ensures.value ∙ c.in_ok-set_values.ensures) c.in_ok-reduce.ensures.ok c.loop-at.invariant.told;
    }
