use Rattle.std.proofs.Common.{◌≡◌, List, [], ◌∷◌, ◌++◌, ap, ◌∙◌}
use Rattle.std.specs.List.{flat_map}
use Rattle.std.proofs.lemmas.List.{append-nil}
use Rattle.hop_base.specs.declared.part.Part.{Part}
use Rattle.hop_base.specs.declared.value.Pair.{Pair}
use Rattle.hop_laws.specs.Blocking.{part_pairs}
use Rattle.hop_laws.specs.Groups.{red}
use Rattle.hop_tests.proofs.merge.text_in_order.Goals as goal

pub returns : goal.returns
returns g c =
    let meaning = g.J.Job.meaning c.args.job.now in
    let pairs_of : Part → List Pair = part_pairs meaning c.args.book.now.records c.args.book.now.split 0 1 in
    let parts : c.in_ok-one.one.parts ++ c.in_ok-other.other.parts ≡ c.args.a ∷ c.args.b ∷ [] =
    ap (λ ps. ps ++ c.in_ok-other.other.parts) c.in_ok-one.ensures.parts ∙ ap (λ ps. (c.args.a ∷ []) ++ ps) c.in_ok-other.ensures.parts in
    c.in_ok-text.ensures
    ∙ ap (λ ps. red meaning.reduced (flat_map pairs_of ps)) parts
    ∙ ap (λ ps. red meaning.reduced (pairs_of c.args.a ++ ps)) (append-nil (pairs_of c.args.b))
