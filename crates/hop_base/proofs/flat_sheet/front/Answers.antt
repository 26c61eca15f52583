use Rattle.std.proofs.Common.{◌+◌, ◌≤◌, List, ℕ, length, drop, sym, ap, subst, ◌∙◌}
use Rattle.hop_base.specs.Fields.{word_front}
use Rattle.hop_base.proofs.FlatLaws.{key_fits, number_fits, text_fits, read_valid}
use Rattle.hop_base.proofs.flat_sheet.front.Goals as goal

pub counted-requires : goal.counted-requires
counted-requires c = key_fits c.requires.0 c.requires.1.0 c.args.bytes.now c.requires.1.1 c.requires.1.2

pub long-n-requires : goal.long-n-requires
long-n-requires c = subst (λ (r : List ℕ). 8 ≤ length r) (sym c.counted.ensures.rest) (number_fits c.requires.0 c.requires.1.0 c.args.bytes.now c.requires.1.1 c.requires.1.2)

pub split_at-requires : goal.split_at-requires
split_at-requires c = subst (λ (r : List ℕ). 8 ≤ length r) (sym c.counted.ensures.rest) (number_fits c.requires.0 c.requires.1.0 c.args.bytes.now c.requires.1.1 c.requires.1.2)

pub counted-requires-2 : goal.counted-requires-2
counted-requires-2 c =
    subst (λ (r : List ℕ). 4 + word_front r ≤ length r) (sym (c.split_at.ensures.back ∙ ap (drop 8) c.counted.ensures.rest)) (text_fits c.requires.0 c.requires.1.0 c.args.bytes.now c.requires.1.1 c.requires.1.2)

pub invariant_of-result : goal.invariant_of-result
invariant_of-result c =
    read_valid c.requires.0 c.requires.1.0 c.args.bytes.now c.counted.result.0.now c.counted.result.1.now c.split_at.result.1.now c.counted-2.result.0.now c.long-n.result c.requires.1.1 c.requires.1.2
    c.counted.ensures.front c.counted.ensures.rest c.long-n.ensures c.split_at.ensures.back c.counted-2.ensures.front
