-- Where a split begins, how many records it has, and what a look-up in it finds.
use Rattle.std.proofs.Common.{◌≡◌, ℕ, ◌+◌, ◌-◌, ◌*◌, ◌<◌, ◌≤◌, List, length, drop, refl, ap, ◌∙◌, arith, get_or, Some, min}
use Rattle.std.specs.Prelude.{slice_get, All}
use Rattle.std.proofs.Math.Nat.{mul-le-mul_left}
use Rattle.std.proofs.lemmas.Grind.{div_ceil_times}
use Rattle.std.proofs.lemmas.List.{length-take, length-drop, get_or-take, get_or-drop}
use Rattle.std.proofs.lemmas.Option.{slice_get-get_or, slice_get_within, get_or_from_slice_get}
use Rattle.hop_records.specs.Records.{IsShort, split_count, BookValue, split_records, len_of}

-- a split begins before the last record
pub split_starts : (i n records : ℕ) → 0 < n → i < split_count n records → i * n < records
split_starts i n records some within =
    let times = div_ceil_times records n some in
    let more : n * (i + 1) ≤ n * split_count n records = mul-le-mul_left n (omega arith) in
    omega (arith, times.1, more)

-- how many records a split has
pub len_of-min : (book : BookValue) (i : ℕ) → len_of book i ≡ min book.split (length book.records - i * book.split)
len_of-min book i = rw (length-take book.split (drop (i * book.split) book.records), length-drop (i * book.split) book.records) refl

-- a record of a split is one of all
pub split_record : (book : BookValue) (i r : ℕ) (x : List ℕ) → r < len_of book i → slice_get book.records (i * book.split + r) ≡ Some x → slice_get (split_records book i) r ≡ Some x
split_record book i r x within here =
    let below : r < book.split = omega (arith, len_of-min book i) in
    slice_get-get_or (split_records book i) r x within
    ∙ ap Some (get_or-take book.split (drop (i * book.split) book.records) r x below
    ∙ get_or-drop (i * book.split) book.records r x
    ∙ get_or_from_slice_get book.records (i * book.split + r) x x here)

-- a record of a split is one of all
pub split_within : (book : BookValue) (i r : ℕ) → r < len_of book i → i * book.split + r < length book.records
split_within book i r within = omega (arith, len_of-min book i)

-- a record of a book is short
pub record_short : (rs : List (List ℕ)) (k : ℕ) (x : List ℕ) → All IsShort rs → slice_get rs k ≡ Some x → length x ≤ 65535
record_short rs k x all here =
    let is : get_or rs k x ≡ x = get_or_from_slice_get rs k x x here in
    let short : length (get_or rs k x) ≤ 65535 = all k x (slice_get_within rs k x here) in
    rw is at short
