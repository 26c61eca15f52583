-- What map emits for a part is what it emits for the part's records.
use Rattle.std.proofs.Common.{◌≡◌, ℕ, zero, suc, ◌+◌, ◌-◌, ◌*◌, ◌%◌, ◌<◌, ◌≤◌, ◌⊎◌, inl, inr, List, [], ◌∷◌, ◌++◌, length, take, drop, slice_index, refl, sym, ap, ◌∙◌, arith}
use Rattle.std.proofs.Math.Seq.{take-add}
use Rattle.std.proofs.Math.Nat.{mod-zero}
use Rattle.std.proofs.lemmas.Bool.{cases_lt}
use Rattle.hop_base.specs.Ranges.{AreLens}
use Rattle.std.specs.List.{flat_map, range_with_len}
use Rattle.std.proofs.lemmas.List.{drop-drop, take_all, length-take}
use Rattle.std.proofs.lemmas.List.FromFn.{length-map-range_with_len, get_or-map-range_with_len}
use Rattle.std.proofs.lemmas.Grind.{div_ceil_times}
use Rattle.hop_records.specs.Records.{BookValue, splits_of, len_of, lens_of}
use Rattle.hop_cut.proofs.TextLaws.{emitted_parts}
use Rattle.hop_shelf.proofs.CoveredParts.{whole_split, whole_parts}
use Rattle.hop_base.specs.Meaning.{Meaning}
use Rattle.hop_base.specs.Run.{RunSettings}
use Rattle.hop_laws.specs.Blocking.{emitted, part_records}
use Rattle.hop_laws.proofs.Emitted.{emitted-append, valid_part}
use Rattle.hop_shelf.specs.Names.{IsRun, pairs_of, book_of}
use Rattle.hop_shelf.specs.Covered.{IsByRecords}

records_joined : (records : List (List ℕ)) (s i a n m t : ℕ) → n ≤ m → m ≤ t → part_records records s (record { split = i; attempt = a; from = n; to = t }) ≡ part_records records s (record { split = i; attempt = a; from = n; to = m }) ++ part_records records s (record { split = i; attempt = a; from = m; to = t })
records_joined records s i a n m t h k =
    let whole : t - n ≡ (m - n) + (t - m) = omega arith in
    let place : (i * s + n) + (m - n) ≡ i * s + m = omega arith in
    ap (λ l. take l (drop (i * s + n) records)) whole ∙ take-add (m - n) (t - m) (drop (i * s + n) records) ∙ ap (λ xs. take (m - n) (drop (i * s + n) records) ++ take (t - m) xs) (drop-drop (m - n) (i * s + n) records ∙ ap (λ l. drop l records) place)

-- the pairs of parts go by their ranges alone
pub by_records : (job : Meaning) (records : List (List ℕ)) (settings : RunSettings) (p : ℕ) → IsRun job records settings → IsByRecords (pairs_of job records settings p)
by_records job records settings p run = record {
  ranges = record {
    nothing = λ i a n. let none : n - n ≡ 0 = omega arith in ap (λ l. emitted job (take l (drop (i * settings.split + n) records)) p settings.reducers) none;
    pieces = λ i a n m t h k. ap (λ rs. emitted job rs p settings.reducers) (records_joined records settings.split i a n m t h k) ∙ emitted-append job (part_records records settings.split (record { split = i; attempt = a; from = n; to = m })) (part_records records settings.split (record { split = i; attempt = a; from = m; to = t })) p settings.reducers;
    valid = λ q. valid_part job run.lawful records run.short settings.split p settings.reducers q;
  };
  alike = λ i a b n t. refl;
}

-- ---- the records of all splits are all records

split_by_split : (records : List (List ℕ)) (n a k : ℕ) → flat_map (λ i. take n (drop (i * n) records)) (range_with_len a k) ≡ take (k * n) (drop (a * n) records)
split_by_split records n a zero = let none : zero * n ≡ 0 = omega arith in sym (ap (λ l. take l (drop (a * n) records)) none)
split_by_split records n a (suc k) =
    let next : a * n + n ≡ (a + 1) * n = omega arith in
    let more : n + k * n ≡ suc k * n = omega arith in
    ap (λ rs. take n (drop (a * n) records) ++ rs) (split_by_split records n (a + 1) k ∙ ap (λ l. take (k * n) (drop l records)) (sym next) ∙ ap (take (k * n)) (sym (drop-drop n (a * n) records)))
    ∙ sym (take-add n (k * n) (drop (a * n) records)) ∙ ap (λ l. take l (drop (a * n) records)) more

take_own : {X : Type 0} (k : ℕ) (xs : List X) → take (length (take k xs)) xs ≡ take k xs
take_own zero xs = refl
take_own (suc k) [] = refl
take_own (suc k) (x ∷ xs) = ap (λ ys. x ∷ ys) (take_own k xs)

pub flat_same_in : {X : Type 0} (f g : ℕ → List X) (a k : ℕ) → ((i : ℕ) → a ≤ i → i < a + k → f i ≡ g i) → flat_map f (range_with_len a k) ≡ flat_map g (range_with_len a k)
flat_same_in f g a zero h = refl
flat_same_in f g a (suc k) h =
    let here : f a ≡ g a = h a (omega arith) (omega arith) in
    let rest = flat_same_in f g (a + 1) k (λ i l m. h i (omega arith) (omega arith)) in
    cc

flat_single : {X Y : Type 0} (f : X → List Y) (g : ℕ → X) (is : List ℕ) → flat_map f (flat_map (λ i. g i ∷ []) is) ≡ flat_map (λ i. f (g i)) is
flat_single f g [] = refl
flat_single f g (i ∷ is) = ap (λ ys. f (g i) ++ ys) (flat_single f g is)

-- splits that each have a record have room for all of them
enough : (records : List (List ℕ)) (settings : RunSettings) → AreLens (lens_of (book_of records settings)) → length records ≤ splits_of (book_of records settings) * settings.split
enough records settings ranges = by_size (cases_lt 0 settings.split) (cases_lt 0 (length records))
  where
    by_size : (0 < settings.split) ⊎ (settings.split ≤ 0) → (0 < length records) ⊎ (length records ≤ 0) → length records ≤ splits_of (book_of records settings) * settings.split
    by_size (inl some) o = (div_ceil_times (length records) settings.split some).0
    by_size (inr none) (inr empty) = omega arith
    by_size (inr none) (inl full) =
        let book : BookValue = book_of records settings in
        let zero_split : settings.split ≡ 0 = omega arith in
        let rest : length records % settings.split ≡ length records = ap (λ n. length records % n) zero_split ∙ mod-zero (length records) in
        let splits : 0 < splits_of book = omega (arith, rest, full) in
        let one : 0 < length (lens_of book) = omega (arith, length-map-range_with_len (len_of book) 0 (splits_of book), splits) in
        let first = get_or-map-range_with_len (len_of book) 0 (splits_of book) 0 0 0 splits (omega arith) in
        let low = (ranges.each 0 0 one).some in
        absurd (omega (arith, low, first, length-take settings.split (drop (0 * settings.split) records), zero_split))

whole_records : (records : List (List ℕ)) (settings : RunSettings) → AreLens (lens_of (book_of records settings)) → flat_map (part_records records settings.split) (whole_parts (lens_of (book_of records settings))) ≡ records
whole_records records settings ranges =
    let n : ℕ = settings.split in
    let book : BookValue = book_of records settings in
    let lens : List ℕ = lens_of book in
    let splits : ℕ = splits_of book in
    let count : length lens ≡ splits = length-map-range_with_len (len_of book) 0 splits in
    let each : (i : ℕ) → 0 ≤ i → i < 0 + splits → part_records records n (whole_split lens i) ≡ take n (drop (i * n) records) = λ i l m.
    let len : slice_index lens i ≡ len_of book i = get_or-map-range_with_len (len_of book) 0 splits i i 0 (omega arith) (omega arith) in
    let whole : slice_index lens i - 0 ≡ length (take n (drop (i * n) records)) = omega (arith, len) in
    let place : i * n + 0 ≡ i * n = omega arith in
    ap (λ l. take l (drop (i * n + 0) records)) whole ∙ ap (λ p. take (length (take n (drop (i * n) records))) (drop p records)) place ∙ take_own n (drop (i * n) records)
    in
    let none : 0 * n ≡ 0 = omega arith in
    flat_single (part_records records n) (whole_split lens) (range_with_len 0 (length lens))
    ∙ ap (λ k. flat_map (λ i. part_records records n (whole_split lens i)) (range_with_len 0 k)) count
    ∙ flat_same_in (λ i. part_records records n (whole_split lens i)) (λ i. take n (drop (i * n) records)) 0 splits each
    ∙ split_by_split records n 0 splits
    ∙ ap (λ l. take (splits * n) (drop l records)) none
    ∙ take_all (splits * n) records (enough records settings ranges)

-- the pairs of all splits are those of all records
pub whole_emitted : (job : Meaning) (records : List (List ℕ)) (settings : RunSettings) (p : ℕ) → AreLens (lens_of (book_of records settings)) → flat_map (pairs_of job records settings p) (whole_parts (lens_of (book_of records settings))) ≡ emitted job records p settings.reducers
whole_emitted job records settings p ranges =
    emitted_parts job records settings.split p settings.reducers (whole_parts (lens_of (book_of records settings)))
    ∙ ap (λ rs. emitted job rs p settings.reducers) (whole_records records settings ranges)
