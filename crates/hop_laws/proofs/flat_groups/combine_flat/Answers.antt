use Rattle.std.proofs.Common.{List, sym, subst}
use Rattle.std.specs.Prelude.{IsSorted}
use Rattle.hop_base.specs.declared.value.Pair.{Pair}
use Rattle.hop_base.specs.Order.{pair_cmp}
use Rattle.hop_laws.proofs.Combined.{combined_sorted}
use Rattle.hop_laws.proofs.flat_groups.combine_flat.Goals as goal

-- combined values are in order
pub finish-requires : goal.finish-requires
finish-requires g c =
    let combine = (g.J.Job.meaning c.args.job.now).combined in
    subst (λ (ps : List Pair). IsSorted pair_cmp ps) (sym c.in_ok-fewer.ensures)
    (combined_sorted combine c.args.sheet.now (g.met.J.Job.lawful c.args.job.now).combines_well c.known.ensures.valid)
