-- Lists that grow at their end.
use Rattle.std.specs.Prelude.{◌≡◌, List, [], ◌++◌}
use Rattle.std.proofs.Common.{sym, ap, ◌∙◌, append_assoc}
use Rattle.std.proofs.lemmas.List.{append-nil}
use Rattle.hop_base.specs.declared.value.Pair.{Pair}

pub appends_none : (s : List Pair) → s ≡ s ++ []
appends_none s = sym (append-nil s)

pub appends_more : (s t u : List Pair) (ps qs : List Pair) → t ≡ s ++ ps → u ≡ t ++ qs → u ≡ s ++ (ps ++ qs)
appends_more s t u ps qs h k = k ∙ ap (λ xs. xs ++ qs) h ∙ append_assoc s ps qs
