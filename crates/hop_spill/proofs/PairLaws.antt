-- Pairs that are read are the pairs that were written, in order and of their partition, and what was
-- written is read again.
use Rattle.std.proofs.Common.{◌≡◌, ℕ, zero, suc, ◌^◌, ◌<◌, not, Bool, true, false, cond, List, [], ◌∷◌, ◌++◌, length, Option, Some, None, Ok, Err, refl, ap, subst, ◌∙◌, append_assoc}
use Rattle.std.specs.Int.{w64}
use Rattle.std.specs.List.{flat_map, AllByRecursion}
use Rattle.std.specs.Ordering.{is_gt}
use Rattle.std.specs.Cmp.{upto}
use Rattle.std.specs.List.Sorted.{IsSorted}
use Rattle.std.proofs.lemmas.Bool.{eqb-true, eq-eqb}
use Rattle.std.proofs.lemmas.List.Elements.{All-from_recursion, recursion_from_All}
use Rattle.std.proofs.lemmas.List.Concat.{flat_map-cons}
use Rattle.hop_base.specs.declared.value.Pair.{Pair}
use Rattle.hop_base.specs.Order.{pair_cmp, IsValidPair}
use Rattle.hop_base.proofs.OrderLaws.{pair_total}
use Rattle.hop_base.proofs.Sorted.{IsUptoAll, IsAscending, IsAscending-IsSorted, IsSorted-IsAscending}
use Rattle.hop_laws.specs.Partition.{partition_of}
use Rattle.hop_base.specs.Fields.{counted, long, pair_text, pair_of}
use Rattle.hop_spill.specs.Spelling.{IsSheetOf}
use Rattle.hop_spill.specs.Reading.{◌>>=◌, number_at, blob_at, is_smaller, may_follow, pair_at, pairs_at}
use Rattle.hop_base.proofs.Truth.{both_true}
use Rattle.hop_spill.proofs.FieldLaws.{IsBytes, bind_ok, passed_ok, ok_is, Takes, Takes-nothing, Takes-then, long_takes, long_again, blob_takes, blob_again}

-- ---- one pair

pub pair_takes : (p r : ℕ) (before : Option Pair) (bytes : List ℕ) (x : Pair × List ℕ) → IsBytes bytes → pair_at p r before bytes ≡ Ok x → Takes bytes (pair_text x.0) x.1 × IsValidPair x.0 × (may_follow p r before x.0 ≡ true)
unfolding pair_at pair_text
pair_takes p r before bytes x fits e =
    let a = bind_ok (blob_at bytes) (λ key. number_at w64 key.1 >>= λ n. blob_at n.1 >>= λ text. cond (may_follow p r before (pair_of key.0 n.0 text.0)) (Ok (pair_of key.0 n.0 text.0, text.1)) (Err (length bytes))) x e in
    let b = bind_ok (number_at w64 a.0.1) (λ n. blob_at n.1 >>= λ text. cond (may_follow p r before (pair_of a.0.0 n.0 text.0)) (Ok (pair_of a.0.0 n.0 text.0, text.1)) (Err (length bytes))) x a.2 in
    let c = bind_ok (blob_at b.0.1) (λ text. cond (may_follow p r before (pair_of a.0.0 b.0.0 text.0)) (Ok (pair_of a.0.0 b.0.0 text.0, text.1)) (Err (length bytes))) x b.2 in
    let made : Pair × List ℕ = (pair_of a.0.0 b.0.0 c.0.0, c.0.1) in
    let t = passed_ok (may_follow p r before made.0) (length bytes) made x c.2 in
    let t0 = blob_takes bytes a.0 fits a.1 in
    let t1 = long_takes a.0.1 b.0 t0.0.rest_fits b.1 in
    let t2 = blob_takes b.0.1 c.0 t1.0.rest_fits c.1 in
    let e12 = Takes-then a.0.1 (long b.0.0) b.0.1 (counted c.0.0) c.0.1 t1.0 t2.0 in
    let e02 = Takes-then bytes (counted a.0.0) a.0.1 (long b.0.0 ++ counted c.0.0) c.0.1 t0.0 e12 in
    let valid : IsValidPair made.0 = record { key = t0.1; value = record { number = t1.1; text = t2.1 } } in
    subst (λ (y : Pair × List ℕ). Takes bytes (counted y.0.key ++ (long y.0.val.n ++ counted y.0.val.s)) y.1 × IsValidPair y.0 × (may_follow p r before y.0 ≡ true)) t.1 (e02, valid, t.0)

pub pair_again : (p r : ℕ) (before : Option Pair) (x : Pair) (rest : List ℕ) → IsValidPair x → may_follow p r before x ≡ true → pair_at p r before (pair_text x ++ rest) ≡ Ok (x, rest)
unfolding pair_at pair_text
pair_again p r before x rest valid may =
    let after = long x.val.n ++ (counted x.val.s ++ rest) in
    let regrouped : (counted x.key ++ (long x.val.n ++ counted x.val.s)) ++ rest ≡ counted x.key ++ after = append_assoc (counted x.key) (long x.val.n ++ counted x.val.s) rest ∙ ap (λ (t : List ℕ). counted x.key ++ t) (append_assoc (long x.val.n) (counted x.val.s) rest) in
    let read_key : blob_at (counted x.key ++ after) ≡ Ok (x.key, after) = blob_again x.key after valid.key in
    let read_number : number_at w64 after ≡ Ok (x.val.n, counted x.val.s ++ rest) = long_again x.val.n (counted x.val.s ++ rest) valid.value.number in
    let read_text : blob_at (counted x.val.s ++ rest) ≡ Ok (x.val.s, rest) = blob_again x.val.s rest valid.value.text in
    rw (regrouped, read_key, read_number, read_text, may) refl

-- ---- pairs in a row

-- each pair is valid and may stand behind the one before it
abbrev pub Follow : ℕ → ℕ → Option Pair → List Pair → Type 0
Follow p r before [] = Unit {0}
Follow p r before (x ∷ xs) = IsValidPair x × (may_follow p r before x ≡ true) × Follow p r (Some x) xs

pub pairs_take : (count p r : ℕ) (before : Option Pair) (bytes : List ℕ) (x : List Pair × List ℕ) → IsBytes bytes → pairs_at count p r before bytes ≡ Ok x → Takes bytes (flat_map pair_text x.0) x.1 × (length x.0 ≡ count) × Follow p r before x.0
unfolding pairs_at
pairs_take zero p r before bytes x fits e =
    subst (λ (y : List Pair × List ℕ). Takes bytes (flat_map pair_text y.0) y.1 × (length y.0 ≡ 0) × Follow p r before y.0) (ok_is ([], bytes) x e) (Takes-nothing bytes fits, refl, tt)
pairs_take (suc count) p r before bytes x fits e =
    let a = bind_ok (pair_at p r before bytes) (λ first. pairs_at count p r (Some first.0) first.1 >>= λ others. Ok (first.0 ∷ others.0, others.1)) x e in
    let b = bind_ok (pairs_at count p r (Some a.0.0) a.0.1) (λ others. Ok (a.0.0 ∷ others.0, others.1)) x a.2 in
    let t0 = pair_takes p r before bytes a.0 fits a.1 in
    let t1 = pairs_take count p r (Some a.0.0) a.0.1 b.0 t0.0.rest_fits b.1 in
    let both = Takes-then bytes (pair_text a.0.0) a.0.1 (flat_map pair_text b.0.0) b.0.1 t0.0 t1.0 in
    let made : List Pair × List ℕ = (a.0.0 ∷ b.0.0, b.0.1) in
    let whole : Takes bytes (flat_map pair_text made.0) made.1 = rw (flat_map-cons pair_text a.0.0 b.0.0) both in
    let len : length made.0 ≡ suc count = ap suc t1.1 in
    subst (λ (y : List Pair × List ℕ). Takes bytes (flat_map pair_text y.0) y.1 × (length y.0 ≡ suc count) × Follow p r before y.0) (ok_is made x b.2) (whole, len, (t0.1, t0.2, t1.2))

pub pairs_again : (p r : ℕ) (before : Option Pair) (xs : List Pair) (rest : List ℕ) → Follow p r before xs → pairs_at (length xs) p r before (flat_map pair_text xs ++ rest) ≡ Ok (xs, rest)
unfolding pairs_at
pairs_again p r before [] rest h = refl
pairs_again p r before (x ∷ xs) rest h =
    let regrouped : flat_map pair_text (x ∷ xs) ++ rest ≡ pair_text x ++ (flat_map pair_text xs ++ rest) = rw (flat_map-cons pair_text x xs) (append_assoc (pair_text x) (flat_map pair_text xs) rest) in
    let first : pair_at p r before (pair_text x ++ (flat_map pair_text xs ++ rest)) ≡ Ok (x, flat_map pair_text xs ++ rest) = pair_again p r before x (flat_map pair_text xs ++ rest) h.0 h.1 in
    let others : pairs_at (length xs) p r (Some x) (flat_map pair_text xs ++ rest) ≡ Ok (xs, rest) = pairs_again p r (Some x) xs rest h.2 in
    rw (regrouped, first, others) refl

-- ---- pairs in a row are the sheet of their partition

not_true : (b : Bool) → not b ≡ true → b ≡ false
not_true true h = absurd cc
not_true false h = refl

abbrev IsUpto : Option Pair → List Pair → Type 0
IsUpto None xs = Unit {0}
IsUpto (Some x) xs = IsUptoAll pair_cmp x xs

upto_more : (z x : Pair) (ys : List Pair) → is_gt (pair_cmp z x) ≡ false → IsUptoAll pair_cmp x ys → IsUptoAll pair_cmp z ys
upto_more z x [] e h = tt
upto_more z x (y ∷ ys) e h = (upto pair_total z x y e h.0, upto_more z x ys e h.1)

upto_first : (before : Option Pair) (x : Pair) (xs : List Pair) → is_smaller before x ≡ false → IsUptoAll pair_cmp x xs → IsUpto before (x ∷ xs)
upto_first None x xs e h = tt
upto_first (Some z) x xs e h = (e, upto_more z x xs e h)

ascending : (p r : ℕ) (before : Option Pair) (xs : List Pair) → Follow p r before xs → IsUpto before xs × IsAscending pair_cmp xs
ascending p r None [] h = (tt, tt)
ascending p r (Some z) [] h = (tt, tt)
ascending p r before (x ∷ xs) h =
    let rest = ascending p r (Some x) xs h.2 in
    let t = both_true _ _ h.1 in
    (upto_first before x xs (not_true _ t.0) rest.0, (rest.0, rest.1))

all_valid : (p r : ℕ) (before : Option Pair) (xs : List Pair) → Follow p r before xs → AllByRecursion IsValidPair xs
all_valid p r before [] h = tt
all_valid p r before (x ∷ xs) h = (h.0, all_valid p r (Some x) xs h.2)

all_there : (p r : ℕ) (before : Option Pair) (xs : List Pair) → Follow p r before xs → AllByRecursion (λ pair. partition_of pair.key r ≡ p) xs
all_there p r before [] h = tt
all_there p r before (x ∷ xs) h = (eqb-true _ _ (both_true _ _ h.1).1, all_there p r (Some x) xs h.2)

pub sorted_from_follow : (p r : ℕ) (xs : List Pair) → Follow p r None xs → IsSorted pair_cmp xs
sorted_from_follow p r xs h = IsSorted-IsAscending pair_cmp pair_total xs (ascending p r None xs h).1

pub sheet_from_follow : (p r : ℕ) (xs : List Pair) → length xs < 2 ^ 32 → Follow p r None xs → IsSheetOf p r xs
sheet_from_follow p r xs few h = record {
  sheet = record { sorted = sorted_from_follow p r xs h; valid = All-from_recursion IsValidPair xs (all_valid p r None xs h) };
  few = few;
  partition = All-from_recursion (λ pair. partition_of pair.key r ≡ p) xs (all_there p r None xs h);
}

follows : (p r : ℕ) (before : Option Pair) (x : Pair) → is_smaller before x ≡ false → partition_of x.key r ≡ p → may_follow p r before x ≡ true
follows p r before x e h = rw (e, eq-eqb (partition_of x.key r) p h) refl

first_upto : (before : Option Pair) (x : Pair) (xs : List Pair) → IsUpto before (x ∷ xs) → is_smaller before x ≡ false
first_upto None x xs h = refl
first_upto (Some z) x xs h = h.0

follow : (p r : ℕ) (before : Option Pair) (xs : List Pair) → IsUpto before xs → IsAscending pair_cmp xs → AllByRecursion IsValidPair xs → AllByRecursion (λ pair. partition_of pair.key r ≡ p) xs → Follow p r before xs
follow p r before [] u a v t = tt
follow p r before (x ∷ xs) u a v t = (v.0, follows p r before x (first_upto before x xs u) t.0, follow p r (Some x) xs a.0 a.1 v.1 t.1)

pub follow_from_sheet : (p r : ℕ) (xs : List Pair) → IsSheetOf p r xs → Follow p r None xs
follow_from_sheet p r xs h =
    follow p r None xs tt (IsAscending-IsSorted pair_cmp pair_total xs h.sheet.sorted) (recursion_from_All IsValidPair xs h.sheet.valid) (recursion_from_All (λ pair. partition_of pair.key r ≡ p) xs h.partition)
