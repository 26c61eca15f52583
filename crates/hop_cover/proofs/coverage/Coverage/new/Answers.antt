use Rattle.hop_cover.proofs.TableLaws.{empty_summed}
use Rattle.hop_cover.proofs.coverage.Coverage.new.Goals as goal

pub invariant_of-result : goal.invariant_of-result
invariant_of-result c = rw (c.in_ok-lens.ensures.items, c.in_ok-rows.ensures.items_if_clones_equal (λ y e. e), c.as_slice-lens.ensures.value) (empty_summed c.args.lens.now c.args.tentative c.as_slice-lens.ensures.ranges)
