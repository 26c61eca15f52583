-- Reading items one after the other, as a loop does.
use Rattle.std.proofs.Common.{◌≡◌, ℕ, zero, suc, ◌-◌, ◌+◌, ◌≤◌, ◌<◌, List, [], ◌∷◌, ◌++◌, length, Option, Some, Result, Ok, Err, refl, sym, ap, subst, ◌∙◌, append_assoc, arith, get_or}
use Rattle.std.specs.Prelude.{slice_get}
use Rattle.std.proofs.lemmas.List.{append-nil, length_push, get_or_push}
use Rattle.std.proofs.lemmas.Option.{slice_get-get_or}
use Rattle.hop_base.specs.declared.value.Pair.{Pair}
use Rattle.hop_spill.specs.declared.stop.Stop.{Stop}
use Rattle.hop_spill.specs.declared.stop.Stop.TheVariants as stop
use Rattle.hop_spill.specs.Reading.{◌>>=◌, pair_at, pairs_at, sheet_at, sheets_at}
use Rattle.hop_spill.specs.Spelling.{IsSheetOf, AreSheetsFrom}
use Rattle.hop_spill.specs.Answers.{StopsAt}

module _ {X : Type 0} where
  -- what was read before, and what is still read
  abbrev pub with_front : List X → Result (List X × List ℕ) ℕ → Result (List X × List ℕ) ℕ
  with_front front read = read >>= λ x. Ok (front ++ x.0, x.1)

  regroup : (front : List X) (n : X) (read : Result (List X × List ℕ) ℕ) → with_front front (read >>= λ x. Ok (n ∷ x.0, x.1)) ≡ with_front (front ++ n ∷ []) read
  regroup front n (Ok x) = ap (λ (ns : List X). Ok (ns, x.1)) (simp append_assoc)
  regroup front n (Err left) = refl

  only_front : (front : List X) (bytes : List ℕ) → with_front front (Ok ([], bytes)) ≡ Ok (front, bytes)
  only_front front bytes = ap (λ (ns : List X). Ok (ns, bytes)) (append-nil front)

-- the last of these pairs, if there is one
abbrev pub last_pair : List Pair → Option Pair
last_pair pairs = slice_get pairs (length pairs - 1)

pub last_push : (front : List Pair) (n : Pair) → last_pair (front ++ n ∷ []) ≡ Some n
last_push front n =
    let len = length_push front n in
    let last : length front ≡ length (front ++ n ∷ []) - 1 = omega (arith, len) in
    slice_get-get_or (front ++ n ∷ []) (length (front ++ n ∷ []) - 1) n (omega (arith, len)) ∙ ap Some (get_or_push front n n (length (front ++ n ∷ []) - 1) last)

pub pairs_go_on : (p r : ℕ) (front : List Pair) (count i : ℕ) (bytes : List ℕ) (n : Pair) (after : List ℕ) (total : Result (List Pair × List ℕ) ℕ) → i < count → pair_at p r (last_pair front) bytes ≡ Ok (n, after)
    → with_front front (pairs_at (count - i) p r (last_pair front) bytes) ≡ total → with_front (front ++ n ∷ []) (pairs_at (count - (i + 1)) p r (last_pair (front ++ n ∷ [])) after) ≡ total
unfolding pairs_at
pairs_go_on p r front count i bytes n after total lt h so_far =
    let k : count - i ≡ suc (count - (i + 1)) = omega arith in
    let one : with_front front (pairs_at (count - i) p r (last_pair front) bytes) ≡ with_front (front ++ n ∷ []) (pairs_at (count - (i + 1)) p r (Some n) after) = rw (k, h) (regroup front n (pairs_at (count - (i + 1)) p r (Some n) after)) in
    ap (λ (last : Option Pair). with_front (front ++ n ∷ []) (pairs_at (count - (i + 1)) p r last after)) (last_push front n) ∙ sym one ∙ so_far

pub pairs_stop : (e : Stop) (p r : ℕ) (front : List Pair) (count i : ℕ) (bytes : List ℕ) (total : Result (List Pair × List ℕ) ℕ) → i < count → StopsAt e (pair_at p r (last_pair front) bytes)
    → with_front front (pairs_at (count - i) p r (last_pair front) bytes) ≡ total → StopsAt e total
unfolding pairs_at
pairs_stop stop.NoMemory p r front count i bytes total lt h so_far = tt
pairs_stop (stop.Left left) p r front count i bytes total lt h so_far =
    let k : count - i ≡ suc (count - (i + 1)) = omega arith in
    let one : with_front front (pairs_at (count - i) p r (last_pair front) bytes) ≡ Err left = rw (k, h) refl in
    sym so_far ∙ one

pub pairs_end : (p r : ℕ) (front : List Pair) (count i : ℕ) (bytes : List ℕ) (total : Result (List Pair × List ℕ) ℕ) → count ≤ i → with_front front (pairs_at (count - i) p r (last_pair front) bytes) ≡ total → total ≡ Ok (front, bytes)
unfolding pairs_at
pairs_end p r front count i bytes total le so_far =
    let k : count - i ≡ 0 = omega arith in
    let one : with_front front (pairs_at (count - i) p r (last_pair front) bytes) ≡ Ok (front, bytes) = rw k (only_front front bytes) in
    sym so_far ∙ one

pub sheets_go_on : (r : ℕ) (front : List (List Pair)) (i : ℕ) (bytes : List ℕ) (n : List Pair) (after : List ℕ) (total : Result (List (List Pair) × List ℕ) ℕ) → i < r → sheet_at i r bytes ≡ Ok (n, after)
    → with_front front (sheets_at (r - i) i r bytes) ≡ total → with_front (front ++ n ∷ []) (sheets_at (r - (i + 1)) (i + 1) r after) ≡ total
unfolding sheets_at
sheets_go_on r front i bytes n after total lt h so_far =
    let k : r - i ≡ suc (r - (i + 1)) = omega arith in
    let one : with_front front (sheets_at (r - i) i r bytes) ≡ with_front (front ++ n ∷ []) (sheets_at (r - (i + 1)) (i + 1) r after) = rw (k, h) (regroup front n (sheets_at (r - (i + 1)) (i + 1) r after)) in
    sym one ∙ so_far

pub sheets_stop : (e : Stop) (r : ℕ) (front : List (List Pair)) (i : ℕ) (bytes : List ℕ) (total : Result (List (List Pair) × List ℕ) ℕ) → i < r → StopsAt e (sheet_at i r bytes)
    → with_front front (sheets_at (r - i) i r bytes) ≡ total → StopsAt e total
unfolding sheets_at
sheets_stop stop.NoMemory r front i bytes total lt h so_far = tt
sheets_stop (stop.Left left) r front i bytes total lt h so_far =
    let k : r - i ≡ suc (r - (i + 1)) = omega arith in
    let one : with_front front (sheets_at (r - i) i r bytes) ≡ Err left = rw (k, h) refl in
    sym so_far ∙ one

pub sheets_end : (r : ℕ) (front : List (List Pair)) (i : ℕ) (bytes : List ℕ) (total : Result (List (List Pair) × List ℕ) ℕ) → r ≤ i → with_front front (sheets_at (r - i) i r bytes) ≡ total → total ≡ Ok (front, bytes)
unfolding sheets_at
sheets_end r front i bytes total le so_far =
    let k : r - i ≡ 0 = omega arith in
    let one : with_front front (sheets_at (r - i) i r bytes) ≡ Ok (front, bytes) = rw k (only_front front bytes) in
    sym so_far ∙ one

-- a sheet in its place is that of its partition
pub sheet_in_place : (p r : ℕ) (xs : List (List Pair)) (i : ℕ) (d : List Pair) → AreSheetsFrom p r xs → i < length xs → IsSheetOf (p + i) r (get_or xs i d)
sheet_in_place p r [] i d h lt = absurd (omega arith)
sheet_in_place p r (x ∷ xs) zero d h lt =
    let e : p ≡ p + 0 = omega arith in
    subst (λ (k : ℕ). IsSheetOf k r x) e h.0
sheet_in_place p r (x ∷ xs) (suc i) d h lt =
    let e : (p + 1) + i ≡ p + suc i = omega arith in
    subst (λ (k : ℕ). IsSheetOf k r (get_or xs i d)) e (sheet_in_place (p + 1) r xs i d h.1 (omega arith))
