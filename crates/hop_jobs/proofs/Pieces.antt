-- The pieces of a line, from its first space or tab on.
use Rattle.std.proofs.Common.{◌≡◌, ℕ, zero, suc, ◌+◌, ◌<◌, ◌≤◌, Bool, true, false, ◌||◌, List, [], ◌∷◌, ◌++◌, length, map, take, drop, get_or, refl, sym, ap, ◌∙◌, arith, drop-cons, append_assoc}
use Rattle.std.specs.Prelude.{All, filter, ◌==◌}
use Rattle.std.specs.List.{slice_split, AllByRecursion}
use Rattle.std.proofs.lemmas.List.{take-append-drop, map-append}
use Rattle.std.proofs.lemmas.List.Elements.{All-from_recursion, filter-append}
use Rattle.std.proofs.lemmas.List.Splits.{slice_split_at, slice_split_none}
use Rattle.hop_base.specs.declared.value.Pair.{Pair}
use Rattle.hop_jobs.specs.Wc.{is_some_part, piece_pair, wc_emits}

not_true : (b : Bool) → ¬ (b ≡ true) → b ≡ false
not_true true h = absurd (h refl)
not_true false h = refl

none_pass : (p : ℕ → Bool) (xs : List ℕ) (n : ℕ) → ((k : ℕ) → k < n → ¬ (p (get_or xs k 0) ≡ true)) → n ≤ length xs → AllByRecursion (λ x. p x ≡ false) (take n xs)
none_pass p [] zero h le = tt
none_pass p [] (suc n) h le = absurd (omega arith)
none_pass p (x ∷ xs) zero h le = tt
none_pass p (x ∷ xs) (suc n) h le = (not_true (p x) (h 0 (omega arith)), none_pass p xs n (λ k lt. h (suc k) (omega arith)) (omega arith))

-- the pairs of one part
abbrev pub part_pairs : List ℕ → List Pair
part_pairs part = map piece_pair (filter is_some_part (part ∷ []))

parts_pairs : (part : List ℕ) (parts : List (List ℕ)) → map piece_pair (filter is_some_part (part ∷ parts)) ≡ part_pairs part ++ map piece_pair (filter is_some_part parts)
parts_pairs part parts = ap (map piece_pair) (filter-append is_some_part (part ∷ []) parts) ∙ map-append piece_pair (filter is_some_part (part ∷ [])) (filter is_some_part parts)

-- up to the first space or tab, and from behind it
pub emits_first : (line : List ℕ) (k : ℕ) → k < length line → ((j : ℕ) → j < k → ¬ ((get_or line j 0 == 32 || get_or line j 0 == 9) ≡ true)) → (get_or line k 0 == 32 || get_or line k 0 == 9) ≡ true → wc_emits line ≡ part_pairs (take k line) ++ wc_emits (drop (k + 1) line)
emits_first line k lt before here =
    let p : ℕ → Bool = λ b. b == 32 || b == 9 in
    let s : k + 1 ≡ suc k = omega arith in
    let none : All (λ x. p x ≡ false) (take k line) = All-from_recursion (λ x. p x ≡ false) (take k line) (none_pass p line k before (omega arith)) in
    let whole : line ≡ take k line ++ get_or line k 0 ∷ drop (suc k) line = sym (take-append-drop k line) ∙ ap (λ xs. take k line ++ xs) (drop-cons line k 0 lt) in
    ap (λ xs. map piece_pair (filter is_some_part (slice_split p xs))) whole
    ∙ ap (λ parts. map piece_pair (filter is_some_part parts)) (slice_split_at p (take k line) (get_or line k 0) (drop (suc k) line) none here)
    ∙ parts_pairs (take k line) (slice_split p (drop (suc k) line))
    ∙ ap (λ n. part_pairs (take k line) ++ wc_emits (drop n line)) (sym s)

-- a line without space and tab
pub emits_one : (line : List ℕ) → ((j : ℕ) → j < length line → ¬ ((get_or line j 0 == 32 || get_or line j 0 == 9) ≡ true)) → wc_emits line ≡ part_pairs line
emits_one line none =
    let p : ℕ → Bool = λ b. b == 32 || b == 9 in
    ap (λ parts. map piece_pair (filter is_some_part parts)) (slice_split_none p line (all_none p line none))
  where
    all_none : (p : ℕ → Bool) (line : List ℕ) → ((j : ℕ) → j < length line → ¬ (p (get_or line j 0) ≡ true)) → All (λ x. p x ≡ false) line
    all_none p line h = All-from_recursion (λ x. p x ≡ false) line (none_all p line h)
      where
        none_all : (p : ℕ → Bool) (xs : List ℕ) → ((k : ℕ) → k < length xs → ¬ (p (get_or xs k 0) ≡ true)) → AllByRecursion (λ x. p x ≡ false) xs
        none_all p [] h = tt
        none_all p (x ∷ xs) h = (not_true (p x) (h 0 (omega arith)), none_all p xs (λ k lt. h (suc k) (omega arith)))

-- one more part is done
pub emits_more : (rest rest' piece line : List ℕ) (k : ℕ) (done done' : List Pair) → k < length rest → ((j : ℕ) → j < k → ¬ ((get_or rest j 0 == 32 || get_or rest j 0 == 9) ≡ true)) → (get_or rest k 0 == 32 || get_or rest k 0 == 9) ≡ true → piece ≡ take k rest → rest' ≡ drop (k + 1) rest → done' ≡ done ++ part_pairs piece → done ++ wc_emits rest ≡ wc_emits line → done' ++ wc_emits rest' ≡ wc_emits line
emits_more rest rest' piece line k done done' lt before here p r d told =
    ap (λ x. x ++ wc_emits rest') d
    ∙ append_assoc done (part_pairs piece) (wc_emits rest')
    ∙ ap (λ x. done ++ (part_pairs x ++ wc_emits rest')) p
    ∙ ap (λ x. done ++ (part_pairs (take k rest) ++ wc_emits x)) r
    ∙ ap (λ x. done ++ x) (sym (emits_first rest k lt before here))
    ∙ told

-- the last part
pub emits_last : (rest line : List ℕ) (done done' : List Pair) → ((j : ℕ) → j < length rest → ¬ ((get_or rest j 0 == 32 || get_or rest j 0 == 9) ≡ true)) → done' ≡ done ++ part_pairs rest → done ++ wc_emits rest ≡ wc_emits line → done' ≡ wc_emits line
emits_last rest line done done' none d told = d ∙ ap (λ x. done ++ x) (sym (emits_one rest none)) ∙ told
