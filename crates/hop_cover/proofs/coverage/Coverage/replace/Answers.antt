use Rattle.std.proofs.Common.{subst, sym, arith, ◌<◌, length, slice_index}
use Rattle.hop_cover.specs.Table.{Table, FitsSplit}
use Rattle.hop_cover.proofs.TableLaws.{total_within, before_below, replaced_summed}
use Rattle.hop_cover.proofs.coverage.Coverage.replace.Goals as goal

pub overflow_sub-self : goal.overflow_sub-self
overflow_sub-self c =
    before_below c.self.inside.lens.items c.self.inside.tentative c.self.inside.rows.items c.self.inside.total c.self.invariant c.args.i c.args.row c.index-old.result.now c.index-len.result.now c.score-before.result c.score-after.result
    (subst (λ (t : Table). c.args.i < length t.lens) (sym c.self.view_is) c.requires.split)
    c.index-len.ensures c.index-old.ensures c.score-before.ensures.value c.score-after.ensures.value

pub overflow_add-self : goal.overflow_add-self
overflow_add-self c = omega (arith, total_within c.self.inside.lens.items c.self.inside.tentative c.self.inside.rows.items c.self.inside.total c.self.invariant, c.self.invariant.ranges.few, c.score-after.ensures.bound)

pub invariant_of-self : goal.invariant_of-self
invariant_of-self c =
    replaced_summed c.self.inside.lens.items c.self.inside.tentative c.self.inside.rows.items c.self.inside.total c.self.invariant c.args.i c.args.row c.index-old.result.now c.index-len.result.now c.score-before.result c.score-after.result
    (subst (λ (t : Table). c.args.i < length t.lens) (sym c.self.view_is) c.requires.split)
    c.index-len.ensures c.index-old.ensures c.score-before.ensures.value c.score-after.ensures.value
    (subst (λ (t : Table). FitsSplit c.args.row (slice_index t.lens c.args.i)) (sym c.self.view_is) c.requires.fits)
