-- Runs together stand for the parts of all of them.
use Rattle.std.proofs.Common.{◌≡◌, ℕ, ◌+◌, ◌<◌, List, [], ◌∷◌, ◌++◌, length, take, get_or, sym, ap, subst, ◌∙◌}
use Rattle.std.specs.Prelude.{All}
use Rattle.std.specs.List.{flat_map, AllByRecursion}
use Rattle.std.proofs.lemmas.List.{append-nil, take_more}
use Rattle.std.proofs.lemmas.List.Concat.{flat_map-append}
use Rattle.std.proofs.lemmas.List.Elements.{All-from_recursion, recursion_from_All}
use Rattle.std.proofs.lemmas.List.Sorted.{IsPermutation-refl, IsPermutation-sym, All-permutation}
use Rattle.hop_base.specs.declared.part.Part.{Part}
use Rattle.hop_base.specs.declared.value.Pair.{Pair}
use Rattle.hop_base.specs.declared.value.Val.{Val}
use Rattle.hop_base.specs.Order.{IsValidPair, pair_cmp}
use Rattle.hop_base.specs.Sorted.{ord}
use Rattle.hop_laws.specs.Stands.{StandsFor}
use Rattle.hop_laws.proofs.StandsLaws.{stands_itself, stands_through, stands_sorted, stands_merged}
use Rattle.hop_run.specs.Runs.{RunValue, RunStands}
use Rattle.hop_run.proofs.MergeLaws.{ord_permutes}
use Rattle.hop_run.proofs.RunLaws.{valid_parts}

abbrev pub sheets_of : List RunValue → List Pair
sheets_of runs = flat_map (λ run. run.sheet) runs

abbrev pub parts_in : List RunValue → List Part
parts_in runs = flat_map (λ run. run.parts) runs

all_behind : (P : Pair → Type 0) (xs ys : List Pair) → AllByRecursion P (xs ++ ys) → AllByRecursion P ys
all_behind P [] ys h = h
all_behind P (x ∷ xs) ys h = all_behind P xs ys h.1

together : (reduce : List ℕ → List Val → List ℕ) (pairs_of : Part → List Pair) (runs : List RunValue) → ((part : Part) → All IsValidPair (pairs_of part)) → AllByRecursion (RunStands reduce pairs_of) runs → AllByRecursion IsValidPair (sheets_of runs)
    → StandsFor reduce (sheets_of runs) (flat_map pairs_of (parts_in runs))
together reduce pairs_of [] valid stands each = stands_itself reduce []
together reduce pairs_of (run ∷ runs) valid stands each =
    let rest : AllByRecursion IsValidPair (sheets_of runs) = all_behind IsValidPair run.sheet (sheets_of runs) each in
    subst (StandsFor reduce (run.sheet ++ sheets_of runs)) (sym (flat_map-append pairs_of run.parts (parts_in runs)))
    (stands_merged reduce run.sheet (sheets_of runs) (run.sheet ++ sheets_of runs) (flat_map pairs_of run.parts) (flat_map pairs_of (parts_in runs))
    (All-from_recursion IsValidPair (sheets_of runs) rest) (valid_parts pairs_of run.parts valid) (IsPermutation-refl (run.sheet ++ sheets_of runs))
    stands.0 (together reduce pairs_of runs valid stands.1 rest))

-- all runs in one
pub all_stand : (reduce : List ℕ → List Val → List ℕ) (pairs_of : Part → List Pair) (runs : List RunValue) (sheet : List Pair) (parts : List Part) → ((part : Part) → All IsValidPair (pairs_of part)) → All (RunStands reduce pairs_of) runs → sheet ≡ ord pair_cmp (sheets_of runs) → parts ≡ parts_in runs → All IsValidPair sheet
    → StandsFor reduce sheet (flat_map pairs_of parts)
all_stand reduce pairs_of runs sheet parts valid stands s p known =
    let each : All IsValidPair (sheets_of runs) = All-permutation IsValidPair (ord pair_cmp (sheets_of runs)) (sheets_of runs) (IsPermutation-sym (sheets_of runs) (ord pair_cmp (sheets_of runs)) (ord_permutes (sheets_of runs))) (subst (λ (ps : List Pair). All IsValidPair ps) s known) in
    let whole : StandsFor reduce (ord pair_cmp (sheets_of runs)) (flat_map pairs_of (parts_in runs)) =
    stands_through reduce (ord pair_cmp (sheets_of runs)) (sheets_of runs) (flat_map pairs_of (parts_in runs)) (stands_sorted reduce (sheets_of runs) (ord pair_cmp (sheets_of runs)) (ord_permutes (sheets_of runs)))
    (together reduce pairs_of runs valid (recursion_from_All (RunStands reduce pairs_of) runs stands) (recursion_from_All IsValidPair (sheets_of runs) each)) in
    subst (λ (ps : List Pair). StandsFor reduce ps (flat_map pairs_of parts)) (sym s)
    (subst (λ (qs : List Part). StandsFor reduce (ord pair_cmp (sheets_of runs)) (flat_map pairs_of qs)) (sym p) whole)

-- the parts of one more run
pub parts_more : (runs : List RunValue) (i : ℕ) (d : RunValue) (parts parts' more : List Part) → i < length runs → parts ≡ parts_in (take i runs) → more ≡ (get_or runs i d).parts → parts' ≡ parts ++ more → parts' ≡ parts_in (take (i + 1) runs)
parts_more runs i d parts parts' more lt h is next =
    let run : RunValue = get_or runs i d in
    next
    ∙ ap (λ ps. ps ++ more) h
    ∙ ap (λ ps. parts_in (take i runs) ++ ps) (is ∙ sym (append-nil run.parts))
    ∙ sym (flat_map-append (λ (r : RunValue). r.parts) (take i runs) (run ∷ []))
    ∙ ap parts_in (sym (take_more runs i d lt))
