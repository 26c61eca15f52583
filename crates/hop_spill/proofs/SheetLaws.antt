-- Sheets that are read are the sheets that were written, and what was written is read again.
use Rattle.std.proofs.Common.{◌≡◌, ℕ, zero, suc, ◌+◌, List, [], ◌∷◌, ◌++◌, length, None, Ok, refl, sym, ap, subst, append_assoc, arith}
use Rattle.std.specs.Int.{w32}
use Rattle.std.specs.List.{flat_map}
use Rattle.std.proofs.lemmas.List.Concat.{flat_map-cons}
use Rattle.hop_base.specs.declared.value.Pair.{Pair}
use Rattle.hop_base.specs.Fields.{word, pair_text}
use Rattle.hop_spill.specs.Spelling.{sheet_text, IsSheetOf, AreSheetsFrom}
use Rattle.hop_spill.specs.Reading.{◌>>=◌, number_at, pairs_at, sheet_at, sheets_at}
use Rattle.hop_spill.proofs.FieldLaws.{IsBytes, bind_ok, ok_is, Takes, Takes-nothing, Takes-then, word_takes, word_again}
use Rattle.hop_spill.proofs.PairLaws.{pairs_take, pairs_again, sheet_from_follow, follow_from_sheet}

pub sheet_takes : (p r : ℕ) (bytes : List ℕ) (x : List Pair × List ℕ) → IsBytes bytes → sheet_at p r bytes ≡ Ok x → Takes bytes (sheet_text x.0) x.1 × IsSheetOf p r x.0
unfolding sheet_at sheet_text
sheet_takes p r bytes x fits e =
    let a = bind_ok (number_at w32 bytes) (λ count. pairs_at count.0 p r None count.1) x e in
    let t0 = word_takes bytes a.0 fits a.1 in
    let t1 = pairs_take a.0.0 p r None a.0.1 x t0.0.rest_fits a.2 in
    let both = Takes-then bytes (word a.0.0) a.0.1 (flat_map pair_text x.0) x.1 t0.0 t1.0 in
    (subst (λ (k : ℕ). Takes bytes (word k ++ flat_map pair_text x.0) x.1) (sym t1.1) both, sheet_from_follow p r x.0 (omega (arith, t0.1, t1.1)) t1.2)

pub sheet_again : (p r : ℕ) (xs : List Pair) (rest : List ℕ) → IsSheetOf p r xs → sheet_at p r (sheet_text xs ++ rest) ≡ Ok (xs, rest)
unfolding sheet_at sheet_text
sheet_again p r xs rest h =
    let regrouped : (word (length xs) ++ flat_map pair_text xs) ++ rest ≡ word (length xs) ++ (flat_map pair_text xs ++ rest) = append_assoc (word (length xs)) (flat_map pair_text xs) rest in
    let count : number_at w32 (word (length xs) ++ (flat_map pair_text xs ++ rest)) ≡ Ok (length xs, flat_map pair_text xs ++ rest) = word_again (length xs) (flat_map pair_text xs ++ rest) h.few in
    rw (regrouped, count) (pairs_again p r None xs rest (follow_from_sheet p r xs h))

pub sheets_take : (count p r : ℕ) (bytes : List ℕ) (x : List (List Pair) × List ℕ) → IsBytes bytes → sheets_at count p r bytes ≡ Ok x → Takes bytes (flat_map sheet_text x.0) x.1 × (length x.0 ≡ count) × AreSheetsFrom p r x.0
unfolding sheets_at
sheets_take zero p r bytes x fits e =
    subst (λ (y : List (List Pair) × List ℕ). Takes bytes (flat_map sheet_text y.0) y.1 × (length y.0 ≡ 0) × AreSheetsFrom p r y.0) (ok_is ([], bytes) x e) (Takes-nothing bytes fits, refl, tt)
sheets_take (suc count) p r bytes x fits e =
    let a = bind_ok (sheet_at p r bytes) (λ first. sheets_at count (p + 1) r first.1 >>= λ others. Ok (first.0 ∷ others.0, others.1)) x e in
    let b = bind_ok (sheets_at count (p + 1) r a.0.1) (λ others. Ok (a.0.0 ∷ others.0, others.1)) x a.2 in
    let t0 = sheet_takes p r bytes a.0 fits a.1 in
    let t1 = sheets_take count (p + 1) r a.0.1 b.0 t0.0.rest_fits b.1 in
    let both = Takes-then bytes (sheet_text a.0.0) a.0.1 (flat_map sheet_text b.0.0) b.0.1 t0.0 t1.0 in
    let made : List (List Pair) × List ℕ = (a.0.0 ∷ b.0.0, b.0.1) in
    let whole : Takes bytes (flat_map sheet_text made.0) made.1 = rw (flat_map-cons sheet_text a.0.0 b.0.0) both in
    let len : length made.0 ≡ suc count = ap suc t1.1 in
    subst (λ (y : List (List Pair) × List ℕ). Takes bytes (flat_map sheet_text y.0) y.1 × (length y.0 ≡ suc count) × AreSheetsFrom p r y.0) (ok_is made x b.2) (whole, len, (t0.1, t1.2))

pub sheets_again : (p r : ℕ) (xs : List (List Pair)) (rest : List ℕ) → AreSheetsFrom p r xs → sheets_at (length xs) p r (flat_map sheet_text xs ++ rest) ≡ Ok (xs, rest)
unfolding sheets_at
sheets_again p r [] rest h = refl
sheets_again p r (x ∷ xs) rest h =
    let regrouped : flat_map sheet_text (x ∷ xs) ++ rest ≡ sheet_text x ++ (flat_map sheet_text xs ++ rest) = rw (flat_map-cons sheet_text x xs) (append_assoc (sheet_text x) (flat_map sheet_text xs) rest) in
    let first : sheet_at p r (sheet_text x ++ (flat_map sheet_text xs ++ rest)) ≡ Ok (x, flat_map sheet_text xs ++ rest) = sheet_again p r x (flat_map sheet_text xs ++ rest) h.0 in
    let others : sheets_at (length xs) (p + 1) r (flat_map sheet_text xs ++ rest) ≡ Ok (xs, rest) = sheets_again (p + 1) r xs rest h.1 in
    rw (regrouped, first, others) refl
