-- What gathered pairs stand for, as they come.
use Rattle.std.proofs.Common.{◌≡◌, ℕ, ◌+◌, ◌<◌, List, [], ◌∷◌, ◌++◌, length, take, get_or, sym, ap, ◌∙◌, subst, append_assoc}
use Rattle.std.specs.Prelude.{All, IsSorted}
use Rattle.std.proofs.lemmas.List.{take_more}
use Rattle.std.proofs.lemmas.List.Elements.{All-nil, All-append, All-cons}
use Rattle.hop_base.specs.declared.value.Pair.{Pair}
use Rattle.hop_base.specs.declared.value.Val.{Val}
use Rattle.hop_base.specs.Order.{IsValidPair, pair_cmp}
use Rattle.hop_laws.specs.Groups.{red}
use Rattle.hop_laws.specs.Laws.{AlwaysCombinesWell}
use Rattle.hop_laws.specs.Stands.{StandsFor, StandsWith, combined_pairs}
use Rattle.hop_laws.proofs.Combined.{combined_sorted}
use Rattle.hop_laws.proofs.StandsLaws.{stands_itself, red_stands}
use Rattle.hop_fold.specs.Folding.{Folds}

-- no pairs
pub folds_none : (reduce : List ℕ → List Val → List ℕ) (folded : List Pair) → folded ≡ [] → Folds reduce folded []
folds_none reduce folded e = record {
  valid = All-nil IsValidPair;
  stands = subst (λ ps. StandsFor reduce ps []) (sym e) (stands_itself reduce []);
}

-- one more pair
folds_one : (reduce : List ℕ → List Val → List ℕ) (old new pairs : List Pair) (pair : Pair) → IsValidPair pair → StandsWith reduce old (pair ∷ []) new → Folds reduce old pairs → Folds reduce new (pairs ++ pair ∷ [])
folds_one reduce old new pairs pair valid more f = record {
  valid = All-append IsValidPair pairs (pair ∷ []) f.valid (All-cons IsValidPair pair [] valid (All-nil IsValidPair));
  stands = more pairs f.valid f.stands;
}

-- one more pair of a sheet
pub folds_more : (reduce : List ℕ → List Val → List ℕ) (old new pairs sheet : List Pair) (k : ℕ) (d : Pair) → k < length sheet → IsValidPair (get_or sheet k d) → StandsWith reduce old (get_or sheet k d ∷ []) new → Folds reduce old (pairs ++ take k sheet) → Folds reduce new (pairs ++ take (k + 1) sheet)
folds_more reduce old new pairs sheet k d within valid more f =
    subst (Folds reduce new)
    (append_assoc pairs (take k sheet) (get_or sheet k d ∷ []) ∙ ap (λ ps. pairs ++ ps) (sym (take_more sheet k d within)))
    (folds_one reduce old new (pairs ++ take k sheet) (get_or sheet k d) valid more f)

-- the reduction is that of what the folded pairs stand for
pub red_folds : (reduce : List ℕ → List Val → List ℕ) (folded pairs : List Pair) → Folds reduce folded pairs → red reduce folded ≡ red reduce pairs
red_folds reduce folded pairs f = red_stands reduce folded pairs f.stands

-- combined pairs that went to an empty list are in order
pub combined_in_order : (combine : List ℕ → List Val → List Val) (pairs old new : List Pair) → AlwaysCombinesWell combine → All IsValidPair pairs → old ≡ [] → new ≡ old ++ combined_pairs combine pairs → IsSorted pair_cmp new
combined_in_order combine pairs old new well valid none e = subst (λ (ps : List Pair). IsSorted pair_cmp ps) (sym (e ∙ ap (λ ps. ps ++ combined_pairs combine pairs) none)) (combined_sorted combine pairs well valid)
