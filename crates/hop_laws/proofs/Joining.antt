-- A number that is joined to one of its key.
use Rattle.std.proofs.Common.{◌≡◌, ℕ, ◌<◌, ◌≤◌, ◌^◌, List, [], ◌∷◌, ◌++◌, length, refl, sym, ap, subst, ◌∙◌, append_assoc, arith}
use Rattle.std.specs.Prelude.{All, IfSome, Option, Some, None}
use Rattle.std.specs.List.Sorted.{IsPermutation}
use Rattle.std.proofs.lemmas.List.Elements.{All-nil, All-cons, All-head, All-tail}
use Rattle.std.proofs.lemmas.List.Sorted.{All-permutation, IsPermutation-trans, IsPermutation-sym, IsPermutation-middle, IsPermutation-to_front, IsPermutation-append_left}
use Rattle.hop_base.specs.declared.value.Pair.{Pair}
use Rattle.hop_base.specs.declared.value.Val.{Val}
use Rattle.hop_base.specs.Fields.{pair_of}
use Rattle.hop_base.specs.Order.{val_cmp, IsValid, IsValidPair}
use Rattle.hop_base.specs.Sorted.{ord}
use Rattle.hop_laws.specs.Laws.{ReducesAlike}
use Rattle.hop_laws.specs.Numbers.{IsAt, renumbered, number_val, IsOneForBoth}
use Rattle.hop_laws.specs.Stands.{StandsFor, StandsWith}
use Rattle.hop_laws.proofs.NumberLaws.{around}
use Rattle.hop_laws.proofs.StandsLaws.{ord_alike, stands_sorted, stands_merged, stands_itself, stands_through, stands_two}
use Rattle.hop_laws.proofs.TakenLaws.{added}

-- ---- two numbers in whichever order

swapped : (a b : ℕ) (ws : List Val) → ord val_cmp (number_val b ∷ number_val a ∷ ws) ≡ ord val_cmp (number_val a ∷ number_val b ∷ ws)
swapped a b ws = ord_alike (number_val b ∷ number_val a ∷ ws) (number_val a ∷ number_val b ∷ ws) (record { counts = λ x. omega arith })

one_swapped : (combine : List ℕ → List Val → List Val) (a b n : ℕ) → IsOneForBoth combine b a n → IsOneForBoth combine a b n
one_swapped combine a b n h = record {
  alone = λ key. ap (combine key) (sym (swapped a b [])) ∙ h.alone key;
  among = λ key ws valid. ap (combine key) (sym (swapped a b ws)) ∙ h.among key ws valid;
}

-- what a job tells of two numbers serves in either order
pub told_swapped : (combine : List ℕ → List Val → List Val) (a b : ℕ) (one : Option ℕ) → IfSome one (IsOneForBoth combine b a) → IfSome one (IsOneForBoth combine a b)
told_swapped combine a b (Some n) h = one_swapped combine a b n h
told_swapped combine a b None h = tt

-- ---- two numbers of a key

pub to_combine : (combine : List ℕ → List Val → List Val) (key : List ℕ) (m n both : ℕ) → IsOneForBoth combine m n both → StandsFor combine (pair_of key both [] ∷ []) (pair_of key m [] ∷ pair_of key n [] ∷ [])
to_combine combine key m n both h = stands_two combine key (number_val m) (number_val n) (number_val both) (λ ws valid. sym (h.among key ws valid))

pub to_reduce : (combine : List ℕ → List Val → List Val) (reduce : List ℕ → List Val → List ℕ) (key : List ℕ) (m n both : ℕ) → ReducesAlike combine reduce → IsOneForBoth combine m n both → All IsValid (number_val m ∷ number_val n ∷ []) → StandsFor reduce (pair_of key both [] ∷ []) (pair_of key m [] ∷ pair_of key n [] ∷ [])
to_reduce combine reduce key m n both alike h valid_two =
    stands_two reduce key (number_val m) (number_val n) (number_val both)
    (λ ws valid. ap (λ vs. reduce key (ord val_cmp (vs ++ ws))) (sym (h.alone key)) ∙ alike key (number_val m ∷ number_val n ∷ []) ws (omega arith) valid_two valid)

-- ---- joining

pub joined : {X : Type 0} (reduce : List ℕ → List Val → X) (old new : List Pair) (key : List ℕ) (k m n both : ℕ) → (All IsValid (number_val m ∷ number_val n ∷ []) → StandsFor reduce (pair_of key both [] ∷ []) (pair_of key m [] ∷ pair_of key n [] ∷ [])) → All IsValidPair old → length key ≤ 131071 → n < 2 ^ 64 → both < 2 ^ 64 → IsAt old k (pair_of key m []) → new ≡ renumbered old k both → StandsWith reduce old (pair_of key n [] ∷ []) new
joined reduce old new key k m n both stands valid short small small_both at is =
    let a = around old k key m at in
    let p : Pair = pair_of key m [] in
    let one : Pair = pair_of key n [] in
    let q : Pair = pair_of key both [] in
    let others : List Pair = a.before ++ a.behind in
    let old_front : IsPermutation old (p ∷ others) = subst (λ (ps : List Pair). IsPermutation ps (p ∷ others)) (sym a.is) (IsPermutation-middle a.before p a.behind) in
    let valid_front : All IsValidPair (p ∷ others) = All-permutation IsValidPair old (p ∷ others) old_front valid in
    let valid_one : IsValidPair one = record { key = short; value = record { number = small; text = omega arith } } in
    let valid_q : IsValidPair q = record { key = short; value = record { number = small_both; text = omega arith } } in
    let valid_there : IsValid (number_val m) = (All-head IsValidPair p others valid_front).value in
    let two : StandsFor reduce (q ∷ []) (p ∷ one ∷ []) = stands (All-cons IsValid (number_val m) (number_val n ∷ []) valid_there (All-cons IsValid (number_val n) [] valid_one.value (All-nil IsValid))) in
    let new_is : IsPermutation (others ++ q ∷ []) new =
    subst (λ (ps : List Pair). IsPermutation (others ++ q ∷ []) ps) (sym (is ∙ a.then both))
    (IsPermutation-trans (others ++ q ∷ []) (q ∷ others) (a.before ++ q ∷ a.behind) (IsPermutation-to_front others q)
    (IsPermutation-sym (a.before ++ q ∷ a.behind) (q ∷ others) (IsPermutation-middle a.before q a.behind))) in
    let merged : StandsFor reduce new (others ++ p ∷ one ∷ []) =
    stands_merged reduce others (q ∷ []) new others (p ∷ one ∷ []) (All-cons IsValidPair q [] valid_q (All-nil IsValidPair)) (All-tail IsValidPair p others valid_front) new_is (stands_itself reduce others) two in
    let old_behind : IsPermutation old (others ++ p ∷ []) = IsPermutation-trans old (p ∷ others) (others ++ p ∷ []) old_front (IsPermutation-sym (others ++ p ∷ []) (p ∷ others) (IsPermutation-to_front others p)) in
    let grown : IsPermutation (old ++ one ∷ []) (others ++ p ∷ one ∷ []) =
    subst (λ (ps : List Pair). IsPermutation (old ++ one ∷ []) ps) (append_assoc others (p ∷ []) (one ∷ [])) (IsPermutation-append_left (one ∷ []) old (others ++ p ∷ []) old_behind) in
    let whole : StandsFor reduce new (old ++ one ∷ []) = stands_through reduce new (others ++ p ∷ one ∷ []) (old ++ one ∷ []) merged (stands_sorted reduce (old ++ one ∷ []) (others ++ p ∷ one ∷ []) grown) in
    added reduce old (old ++ one ∷ []) new key [] n short (omega arith) small refl (λ ps stands. stands_through reduce new (old ++ one ∷ []) ps whole stands)
