use Rattle.std.proofs.Common.{[], ◌∷◌, ◌++◌, ap, ◌∙◌, arith}
use Rattle.hop_base.specs.Order.{IsValidPair}
use Rattle.hop_base.specs.Fields.{pair_of, pair_text}
use Rattle.hop_base.proofs.FlatLaws.{view_more, text_stays}
use Rattle.hop_base.proofs.flat_builder.FlatSheetBuilder.push.Goals as goal

pub invariant_of-self-2 : goal.invariant_of-self-2
invariant_of-self-2 c =
    let p = pair_of c.args.key.now c.args.n c.args.text.now in
    let valid : IsValidPair p = record { key = c.requires.short_key; value = record { number = omega arith; text = c.requires.short_text } } in
    text_stays c.self.inside.bytes.items c.self.inside.starts.items c.write_pair.new.bytes.items c.push.new.self.items c.len-at.result p c.self.invariant valid
    (c.write_pair.ensures ∙ ap (λ b. b ++ pair_text p) c.in_ok-reserve.ensures.items) c.in_ok-push.ensures.items c.len-at.ensures.value

pub returns-clause-ok : goal.returns-clause-ok
returns-clause-ok c =
    let p = pair_of c.args.key.now c.args.n c.args.text.now in
    let valid : IsValidPair p = record { key = c.requires.short_key; value = record { number = omega arith; text = c.requires.short_text } } in
    view_more c.self.inside.bytes.items c.self.inside.starts.items c.write_pair.new.bytes.items c.push.new.self.items c.len-at.result p c.self.invariant valid
    (c.write_pair.ensures ∙ ap (λ b. b ++ pair_text p) c.in_ok-reserve.ensures.items) c.in_ok-push.ensures.items c.len-at.ensures.value
    ∙ ap (λ ps. ps ++ p ∷ []) c.self.view_is
