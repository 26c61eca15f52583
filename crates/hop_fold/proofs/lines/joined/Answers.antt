use Rattle.std.proofs.Common.{ℕ, List, [], ◌∷◌, ◌++◌, take, get_or, sym, ap, ◌∙◌, arith}
use Rattle.std.specs.List.{concat}
use Rattle.std.proofs.lemmas.List.{take_more, append-nil}
use Rattle.std.proofs.lemmas.List.Folds.{concat-append}
use Rattle.hop_fold.proofs.lines.joined.Goals as goal

pub loop-text-preserved : goal.loop-text-preserved
loop-text-preserved c =
    let texts : List (List ℕ) = c.as_slice-text-items.result.now in
    let i : ℕ = c.loop-text.text-index in
    let text : List ℕ = c.text-item.result in
    c.in_ok-extend_from_slice.ensures.items
    ∙ ap (λ xs. xs ++ c.as_slice.result.now) c.loop-text.invariant
    ∙ ap (λ xs. concat (take i texts) ++ xs) (c.as_slice.ensures ∙ c.text-item.is ∙ sym (append-nil (get_or texts i text)))
    ∙ sym (concat-append (take i texts) (get_or texts i text ∷ []))
    ∙ ap concat (sym (take_more texts i text (omega arith)))
