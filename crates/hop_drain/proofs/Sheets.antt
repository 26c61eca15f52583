-- The run of sheets that together stand for a part.
use Rattle.std.proofs.Common.{◌≡◌, ℕ, ◌+◌, ◌<◌, List, [], ◌∷◌, ◌++◌, length, take, get_or, sym, ap, subst, ◌∙◌}
use Rattle.std.specs.Prelude.{All}
use Rattle.std.specs.List.{flat_map}
use Rattle.std.specs.List.Sorted.{IsPermutation}
use Rattle.std.proofs.lemmas.List.{append-nil, take_more}
use Rattle.std.proofs.lemmas.List.Concat.{flat_map-append}
use Rattle.hop_base.specs.Order.{pair_cmp, IsValidPair}
use Rattle.hop_base.specs.Sorted.{ord}
use Rattle.hop_base.specs.declared.value.Val.{Val}
use Rattle.hop_base.specs.declared.value.Pair.{Pair}
use Rattle.hop_base.specs.declared.part.Part.{Part}
use Rattle.hop_run.specs.Runs.{RunValue}
use Rattle.hop_run.proofs.HeadLaws.{ord_joined}
use Rattle.hop_run.proofs.MergeLaws.{ord_permutes}
use Rattle.hop_laws.specs.Stands.{StandsFor}
use Rattle.hop_laws.proofs.StandsLaws.{stands_sorted, stands_through}
use Rattle.hop_shelf.specs.Holds.{RunHolds}
use Rattle.hop_actors.specs.Spilled.{TogetherStand}

-- one sheet more
pub sheet_added : (sheets : List (List Pair)) (i : ℕ) (d heads heads' sheet : List Pair) → i < length sheets → heads ≡ ord pair_cmp (flat_map (λ s. s) (take i sheets)) → sheet ≡ get_or sheets i d → heads' ≡ ord pair_cmp (heads ++ sheet)
    → heads' ≡ ord pair_cmp (flat_map (λ s. s) (take (i + 1) sheets))
sheet_added sheets i d heads heads' sheet lt h is more =
    let here : List Pair = get_or sheets i d in
    let before : List Pair = flat_map (λ (s : List Pair). s) (take i sheets) in
    more
    ∙ ap (λ ps. ord pair_cmp (ps ++ sheet)) h
    ∙ ord_joined before sheet
    ∙ ap (λ ps. ord pair_cmp (before ++ ps)) (is ∙ sym (append-nil here))
    ∙ ap (ord pair_cmp) (sym (flat_map-append (λ (s : List Pair). s) (take i sheets) (here ∷ [])) ∙ ap (flat_map (λ (s : List Pair). s)) (sym (take_more sheets i d lt)))

-- their pairs in order stand for what they stand for together
pub sheets_hold : (reduce : List ℕ → List Val → List ℕ) (pairs_of : Part → List Pair) (part : Part) (sheets : List (List Pair)) (flat : List Pair) (run : RunValue)
    → flat ≡ ord pair_cmp (flat_map (λ s. s) sheets) → All IsValidPair flat → run.sheet ≡ flat → run.parts ≡ part ∷ [] → TogetherStand reduce sheets (pairs_of part) → RunHolds reduce pairs_of run
sheets_hold reduce pairs_of part sheets flat run is valid made one stands =
    let all : List Pair = flat_map (λ (s : List Pair). s) sheets in
    let same : IsPermutation all flat = subst (λ (ps : List Pair). IsPermutation all ps) (sym is) (ord_permutes all) in
    let whole : StandsFor reduce flat (pairs_of part) = stands_through reduce flat all (pairs_of part) (stands_sorted reduce all flat same) stands in
    let at_part : StandsFor reduce flat (flat_map pairs_of (part ∷ [])) = subst (λ ps. StandsFor reduce flat ps) (sym (append-nil (pairs_of part))) whole in
    let here : RunHolds reduce pairs_of (record { sheet = flat; parts = part ∷ [] }) = record { valid = valid; stands = at_part } in
    subst (λ (r : RunValue). RunHolds reduce pairs_of r) (sym (λ i. record { sheet = made i; parts = one i })) here
