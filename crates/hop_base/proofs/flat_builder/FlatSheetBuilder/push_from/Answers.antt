use Rattle.std.proofs.Common.{[], ◌∷◌, ◌++◌, get_or, ap, ◌∙◌}
use Rattle.std.proofs.lemmas.List.Elements.{All-get_or}
use Rattle.hop_base.specs.declared.value.Pair.{Pair}
use Rattle.hop_base.specs.Order.{IsValidPair}
use Rattle.hop_base.specs.Fields.{pair_of}
use Rattle.hop_base.proofs.FlatLaws.{view_more, text_stays}
use Rattle.hop_base.proofs.flat_builder.FlatSheetBuilder.push_from.Goals as goal

pub invariant_of-self-2 : goal.invariant_of-self-2
invariant_of-self-2 c =
    let d : Pair = pair_of [] 0 [] in
    let p : Pair = get_or c.args.sheet.now c.args.k d in
    let valid : IsValidPair p = All-get_or IsValidPair c.args.sheet.now c.args.k d c.requires c.known.ensures.valid in
    text_stays c.self.inside.bytes.items c.self.inside.starts.items c.extend_reserved.new.self.items c.push.new.self.items c.len-at.result p c.self.invariant valid
    (c.extend_reserved.ensures.items ∙ ap (λ b. b ++ c.text-text.result.now) c.in_ok-reserve.ensures.items ∙ ap (λ t. c.self.inside.bytes.items ++ t) (c.text-text.ensures d)) c.in_ok-push.ensures.items c.len-at.ensures.value

pub returns-clause-ok : goal.returns-clause-ok
returns-clause-ok c = λ d.
    let p : Pair = get_or c.args.sheet.now c.args.k d in
    let valid : IsValidPair p = All-get_or IsValidPair c.args.sheet.now c.args.k d c.requires c.known.ensures.valid in
    view_more c.self.inside.bytes.items c.self.inside.starts.items c.extend_reserved.new.self.items c.push.new.self.items c.len-at.result p c.self.invariant valid
    (c.extend_reserved.ensures.items ∙ ap (λ b. b ++ c.text-text.result.now) c.in_ok-reserve.ensures.items ∙ ap (λ t. c.self.inside.bytes.items ++ t) (c.text-text.ensures d)) c.in_ok-push.ensures.items c.len-at.ensures.value
    ∙ ap (λ ps. ps ++ p ∷ []) c.self.view_is
