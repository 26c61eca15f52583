-- Records kept as their ends: one more end, and what a look-up finds.
use Rattle.std.proofs.Common.{◌≡◌, ℕ, zero, suc, ◌+◌, ◌-◌, ◌<◌, ◌≤◌, true, false, List, [], ◌∷◌, ◌++◌, length, drop, refl, sym, ap, ◌∙◌, arith, get_or, Some, None, append_assoc}
use Rattle.std.specs.Prelude.{slice_range, slice_get, All}
use Rattle.std.specs.List.{position_from}
use Rattle.std.proofs.lemmas.Bool.{lt-ltb, le-ltb}
use Rattle.std.proofs.lemmas.List.{length-take-le, length-drop, length-append, drop_all, append-nil}
use Rattle.hop_records.specs.Records.{records_of, first_long, is_long, IsShort}
use Rattle.hop_records.specs.Ends.{pieces_from, EndsFrom, start_of, AreEnds}

length-pieces_from : (bytes : List ℕ) (start : ℕ) (ends : List ℕ) → length (pieces_from bytes start ends) ≡ length ends
length-pieces_from bytes start [] = refl
length-pieces_from bytes start (e ∷ ends) = ap suc (length-pieces_from bytes (e + 1) ends)

pieces_from-push : (bytes : List ℕ) (start : ℕ) (ends : List ℕ) (e : ℕ)
    → pieces_from bytes start (ends ++ e ∷ []) ≡ pieces_from bytes start ends ++ slice_range bytes (start_of start ends (length ends)) e ∷ []
pieces_from-push bytes start [] e = refl
pieces_from-push bytes start (x ∷ ends) e = ap (λ ps. slice_range bytes start x ∷ ps) (pieces_from-push bytes (x + 1) ends e)

start_of-push : (start : ℕ) (ends : List ℕ) (e : ℕ) → start_of start (ends ++ e ∷ []) (length (ends ++ e ∷ [])) ≡ e + 1
start_of-push start [] e = refl
start_of-push start (x ∷ ends) e = start_of-push (x + 1) ends e

EndsFrom-push : (len start : ℕ) (ends : List ℕ) (e : ℕ) → EndsFrom len start ends → start_of start ends (length ends) ≤ e → e ≤ len → EndsFrom len start (ends ++ e ∷ [])
EndsFrom-push len start [] e are low high = (low, high, tt)
EndsFrom-push len start (x ∷ ends) e are low high = (are.0, are.1, EndsFrom-push len (x + 1) ends e are.2 low high)

pub length-slice_range : (xs : List ℕ) (a b : ℕ) → b ≤ length xs → length (slice_range xs a b) ≡ b - a
length-slice_range xs a b inside = length-take-le (b - a) (drop a xs) (omega (arith, length-drop a xs))

All-push : (xs : List (List ℕ)) (x : List ℕ) → All IsShort xs → IsShort x → All IsShort (xs ++ x ∷ [])
All-push [] x all here zero d lt = here
All-push [] x all here (suc k) d lt = absurd (omega arith)
All-push (y ∷ ys) x all here zero d lt = all 0 d (omega arith)
All-push (y ∷ ys) x all here (suc k) d lt = All-push ys x (λ j e l. all (suc j) e (omega arith)) here k d (omega arith)

first-after : (i : ℕ) (xs : List (List ℕ)) (x : List ℕ) (ys : List (List ℕ)) → All IsShort xs → 65535 < length x → position_from is_long i (xs ++ x ∷ ys) ≡ Some (i + length xs)
first-after i [] x ys all long =
    let here : is_long x ≡ true = lt-ltb _ _ long in
    let same : i + 0 ≡ i = omega arith in
    rw (here, same) refl
first-after i (y ∷ xs) x ys all long =
    let short : length y ≤ 65535 = all 0 y (omega arith) in
    let here : is_long y ≡ false = le-ltb _ _ short in
    let later = first-after (i + 1) xs x ys (λ k d lt. all (suc k) d (omega arith)) long in
    let same : i + 1 + length xs ≡ i + suc (length xs) = omega arith in
    rw here (later ∙ ap Some same)

-- short records have no first long one
pub first_long-none : (i : ℕ) (xs : List (List ℕ)) → All IsShort xs → position_from is_long i xs ≡ None
first_long-none i [] all = refl
first_long-none i (y ∷ xs) all =
    let short : length y ≤ 65535 = all 0 y (omega arith) in
    let here : is_long y ≡ false = le-ltb _ _ short in
    rw here (first_long-none (i + 1) xs (λ k d lt. all (suc k) d (omega arith)))

-- the ends of the records before `start` are found, and these are short
pub record Reached (bytes ends : List ℕ) (start : ℕ) : Type 0 where
  pub within : start ≤ length bytes
  pub next : start < length bytes → start ≡ start_of 0 ends (length ends)
  pub records : pieces_from bytes 0 ends ++ records_of (drop start bytes) ≡ records_of bytes
  pub ordered : EndsFrom (length bytes) 0 ends
  pub short : All IsShort (pieces_from bytes 0 ends)
  pub few : length ends ≤ start

-- one more record
pub Reached-push : (bytes ends : List ℕ) (start e next : ℕ) → Reached bytes ends start → start < length bytes → start < next → next ≤ length bytes → start ≤ e → e ≤ length bytes
    → (next < length bytes → next ≡ e + 1) → records_of (drop start bytes) ≡ slice_range bytes start e ∷ records_of (drop next bytes) → e - start ≤ 65535 → Reached bytes (ends ++ e ∷ []) next
Reached-push bytes ends start e next reached more forward within ordered inside after first short =
    let at : start ≡ start_of 0 ends (length ends) = reached.next more in
    let pieces : pieces_from bytes 0 (ends ++ e ∷ []) ≡ pieces_from bytes 0 ends ++ slice_range bytes start e ∷ [] = rw at (pieces_from-push bytes 0 ends e) in
    record {
      within = within;
      next = λ lt. after lt ∙ sym (start_of-push 0 ends e);
      records = rw (pieces, append_assoc, ← first) reached.records;
      ordered = EndsFrom-push (length bytes) 0 ends e reached.ordered (omega arith) inside;
      short = rw pieces (All-push (pieces_from bytes 0 ends) (slice_range bytes start e) reached.short (omega (arith, length-slice_range bytes start e inside)));
      few = omega (arith, length-append ends (e ∷ []), reached.few);
    }

-- the next record is the first long one
pub Reached-long : (bytes ends : List ℕ) (start e next : ℕ) → Reached bytes ends start → e ≤ length bytes
    → records_of (drop start bytes) ≡ slice_range bytes start e ∷ records_of (drop next bytes) → 65535 < e - start → first_long (records_of bytes) ≡ Some (length ends)
Reached-long bytes ends start e next reached inside first long =
    let all : pieces_from bytes 0 ends ++ slice_range bytes start e ∷ records_of (drop next bytes) ≡ records_of bytes = rw (← first) reached.records in
    let is : 65535 < length (slice_range bytes start e) = omega (arith, length-slice_range bytes start e inside) in
    let place : 0 + length (pieces_from bytes 0 ends) ≡ length ends = omega (arith, length-pieces_from bytes 0 ends) in
    rw (← all) (first-after 0 (pieces_from bytes 0 ends) (slice_range bytes start e) (records_of (drop next bytes)) reached.short is ∙ ap Some place)

-- all records were found
pub Reached-all : (bytes ends : List ℕ) (start : ℕ) → Reached bytes ends start → length bytes ≤ start → pieces_from bytes 0 ends ≡ records_of bytes
Reached-all bytes ends start reached done =
    sym (append-nil (pieces_from bytes 0 ends)) ∙ rw (drop_all start bytes done) at reached.records

-- where piece k begins and ends
pub record IsPiece (bytes ends : List ℕ) (start k : ℕ) : Type 0 where
  pub ordered : start_of start ends k ≤ get_or ends k 0
  pub inside : get_or ends k 0 ≤ length bytes
  pub piece : slice_get (pieces_from bytes start ends) k ≡ Some (slice_range bytes (start_of start ends k) (get_or ends k 0))

pub piece_at : (bytes : List ℕ) (start : ℕ) (ends : List ℕ) (k : ℕ) → EndsFrom (length bytes) start ends → k < length ends → IsPiece bytes ends start k
piece_at bytes start [] k are within = absurd (omega arith)
piece_at bytes start (e ∷ ends) zero are within = record { ordered = are.0; inside = are.1; piece = refl }
piece_at bytes start (e ∷ ends) (suc k) are within =
    let later = piece_at bytes (e + 1) ends k are.2 (omega arith) in
    record { ordered = later.ordered; inside = later.inside; piece = later.piece }

-- a later piece begins behind the end of the one before it
pub start_of-suc : (start : ℕ) (ends : List ℕ) (k : ℕ) → k < length ends → start_of start ends (suc k) ≡ get_or ends k 0 + 1
start_of-suc start [] k within = absurd (omega arith)
start_of-suc start (e ∷ []) zero within = refl
start_of-suc start (e ∷ f ∷ ends) zero within = refl
start_of-suc start (e ∷ ends) (suc k) within = start_of-suc (e + 1) ends k (omega arith)

-- the first piece begins where it is said to
pub start_of-zero : (start : ℕ) (ends : List ℕ) → start_of start ends 0 ≡ start
start_of-zero start [] = refl
start_of-zero start (e ∷ ends) = refl

-- as many ends as records
pub length-ends : (bytes ends : List ℕ) → AreEnds bytes ends → length (records_of bytes) ≡ length ends
length-ends bytes ends are = rw (← are.records) (length-pieces_from bytes 0 ends)
