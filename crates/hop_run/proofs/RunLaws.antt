-- What runs stand for.
use Rattle.std.proofs.Common.{◌≡◌, ℕ, List, [], ◌∷◌, ap, sym, subst, ◌∙◌}
use Rattle.std.specs.Prelude.{All}
use Rattle.std.specs.List.{flat_map}
use Rattle.std.specs.List.Sorted.{IsPermutation}
use Rattle.std.proofs.lemmas.List.{append-nil}
use Rattle.std.proofs.lemmas.List.Elements.{All-append, All-nil}
use Rattle.hop_base.specs.declared.part.Part.{Part}
use Rattle.hop_base.specs.declared.value.Pair.{Pair}
use Rattle.hop_base.specs.declared.value.Val.{Val}
use Rattle.hop_base.specs.Order.{IsValidPair}
use Rattle.hop_laws.specs.Stands.{StandsFor}
use Rattle.hop_laws.proofs.StandsLaws.{stands_sorted}
use Rattle.hop_run.specs.Runs.{RunValue, RunStands}

pub valid_parts : (pairs_of : Part → List Pair) (parts : List Part) → ((part : Part) → All IsValidPair (pairs_of part)) → All IsValidPair (flat_map pairs_of parts)
valid_parts pairs_of [] h = All-nil IsValidPair
valid_parts pairs_of (part ∷ parts) h = All-append IsValidPair (pairs_of part) (flat_map pairs_of parts) (h part) (valid_parts pairs_of parts h)

-- a run of one part
pub stands_made : (reduce : List ℕ → List Val → List ℕ) (pairs_of : Part → List Pair) (part : Part) (pairs : List Pair) (run : RunValue) → pairs ≡ pairs_of part → IsPermutation pairs run.sheet → run.parts ≡ part ∷ [] → RunStands reduce pairs_of run
stands_made reduce pairs_of part pairs run e p h =
    let one : flat_map pairs_of run.parts ≡ pairs = ap (flat_map pairs_of) h ∙ append-nil (pairs_of part) ∙ sym e in
    subst (λ ps. StandsFor reduce run.sheet ps) (sym one) (stands_sorted reduce pairs run.sheet p)
