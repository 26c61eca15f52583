-- Rows and the histories that they stand for.
use Rattle.std.proofs.Common.{◌≡◌, ◌≢◌, ℕ, ◌+◌, ◌*◌, ◌-◌, ◌<◌, ◌≤◌, ◌⊎◌, inl, inr, Bool, true, false, cond, if◌then◌else◌, Option, Some, None, List, [], ◌∷◌, length, map, sum, set, get_or, slice_index, replicate, refl, sym, ap, ◌∙◌, subst, arith, eqb}
use Rattle.std.specs.Prelude.{IfSome}
use Rattle.std.specs.List.{range_with_len}
use Rattle.std.proofs.lemmas.Bool.{cases_eq}
use Rattle.std.proofs.lemmas.Bool.Decides.{nat_tests}
use Rattle.std.proofs.Math.Nat.{div-le_of_le-mul, zero-div}
use Rattle.std.proofs.lemmas.List.Elements.{All-map, All-replicate}
use Rattle.std.proofs.lemmas.List.{get_or-set_same, get_or-set_other, length-set, get_or_read, get_or-map, length-map, get_or-replicate, length-replicate}
use Rattle.hop_base.specs.Ranges.{AreLens}
use Rattle.hop_event.specs.declared.event.Event.{Event}
use Rattle.hop_event.specs.declared.event.Event.TheVariants.{Won, Restart}
use Rattle.hop_event.specs.History.{upto, winner}
use Rattle.hop_event.specs.Coverage.{declared, declared_by, committed_part, tentative_records, records_of, score, score_of}
use Rattle.hop_event.proofs.CoverageLaws.{leader_same, leader_within, leader_nothing}
use Rattle.hop_event.proofs.Sums.{map_same, sum_changed, sum_bound, term_within}
use Rattle.hop_cover.specs.declared.row.Row.{Row}
use Rattle.hop_cover.specs.declared.row.Try.{Try}
use Rattle.hop_cover.specs.Rows.{row_declared, live_records, try_at, IsRow, cleared, cleared_try}
use Rattle.hop_cover.specs.Table.{Table, RowStands, StandsFor, FitsSplit, IsSummed, row_at}

committed_within : (a n m : ℕ) → n ≤ m → (b : Bool) → eqb n 0 ≡ b → records_of (committed_part a n) ≤ m
committed_within a n m h true e = rw e (omega arith)
committed_within a n m h false e = rw e h

live_within : (u m : ℕ) (b : Bool) → u ≤ m → (if b then 0 else u) ≤ m
live_within u m true h = omega arith
live_within u m false h = h

within_by : (w : Option ℕ) (tentative : Bool) (f g : ℕ → ℕ) (m : ℕ) → IfSome w (λ a. a < 16) → ((a : ℕ) → a < 16 → f a ≤ m) → ((a : ℕ) → a < 16 → g a ≤ m) → records_of (declared_by w tentative f g) ≤ m
within_by (Some a) tentative f g m h k l = committed_within a (g a) m (l a h) (eqb (g a) 0) refl
within_by None true f g m h k l = leader_within f 16 m k
within_by None false f g m h k l = omega arith

-- a row declares no more records than its split has
pub declared_within : (tentative : Bool) (row : Row) (len : ℕ) → FitsSplit row len → records_of (row_declared tentative row) ≤ len
declared_within tentative row len h =
    let near : (a : ℕ) → a < 16 → (try_at row.tries a).upto ≤ len = λ a k. h.within a (record { upto = 0; revoked = false }) (rw h.whole.sixteen k) in
    within_by row.winner tentative (live_records row.tries) (λ a. (try_at row.tries a).upto) len h.whole.winner (λ a k. live_within (try_at row.tries a).upto len (try_at row.tries a).revoked (near a k)) near

same_by : (v w : Option ℕ) (tentative : Bool) (f g f' g' : ℕ → ℕ) → v ≡ w → IfSome v (λ a. a < 16) → ((a : ℕ) → a < 16 → f a ≡ f' a) → ((a : ℕ) → a < 16 → g a ≡ g' a) → declared_by v tentative f g ≡ declared_by w tentative f' g'
same_by (Some a) w tentative f g f' g' e h k l = ap (committed_part a) (l a h) ∙ ap (λ w. declared_by w tentative f' g') e
same_by None w true f g f' g' e h k l = leader_same f f' 16 k ∙ ap (λ w. declared_by w true f' g') e
same_by None w false f g f' g' e h k l = ap (λ w. declared_by w false f' g') e

-- a row that stands for a history declares what the history covers
pub stands_declared : (tentative : Bool) (row : Row) (h : List Event) (i : ℕ) → IsRow row → RowStands row h i → row_declared tentative row ≡ declared tentative h i
stands_declared tentative row h i r s =
    same_by row.winner (winner i h) tentative (live_records row.tries) (λ a. (try_at row.tries a).upto) (tentative_records i h) (λ a. upto i a h) s.winner r.winner
    (λ a k. ap (λ (t : Try). if t.revoked then 0 else t.upto) (s.tries a k))
    (λ a k. ap (λ (t : Try). t.upto) (s.tries a k))

pub score_within : (n len : ℕ) → n ≤ len → score n len ≤ 10000
score_within n len h = div-le_of_le-mul len (omega (arith, h))

module _ (lens : List ℕ) (tentative : Bool) (rows : List Row) (total : ℕ) (s : IsSummed lens tentative rows total) where
  pub score_below : (i : ℕ) → i < length lens → score_of lens i (row_declared tentative (row_at rows i)) ≤ total
  score_below i h = rw s.scores (term_within (λ i. score_of lens i (row_declared tentative (row_at rows i))) 0 (length lens) i (omega arith) (omega arith))

  pub total_within : total ≤ 10000 * length lens
  total_within = rw s.scores (sum_bound (λ i. score_of lens i (row_declared tentative (row_at rows i))) 10000 0 (length lens) (λ i k l. score_within (records_of (row_declared tentative (row_at rows i))) (slice_index lens i) (declared_within tentative (row_at rows i) (slice_index lens i) (s.fits i (omega arith)))))

  pub same_scores : (h : List Event) → ((i : ℕ) → i < length lens → RowStands (row_at rows i) h i) → total ≡ sum (map (λ i. score_of lens i (declared tentative h i)) (range_with_len 0 (length lens)))
  same_scores h stands = s.scores ∙ ap sum (map_same (λ i. score_of lens i (row_declared tentative (row_at rows i))) (λ i. score_of lens i (declared tentative h i)) 0 (length lens) (λ i k l. let inside : i < length lens = omega arith in ap (score_of lens i) (stands_declared tentative (row_at rows i) h i (s.fits i inside).whole (stands i inside))))

  pub summed_replaced : (i : ℕ) (row : Row) → i < length lens → FitsSplit row (slice_index lens i) → IsSummed lens tentative (set rows i row) (total - score_of lens i (row_declared tentative (row_at rows i)) + score_of lens i (row_declared tentative row))
  summed_replaced i row h f =
      let inside : i < length rows = omega (arith, s.each) in
      let d : Row = record { winner = None; tries = [] } in
      let at_i : row_at (set rows i row) i ≡ row = get_or-set_same rows i row d inside in
      let same : (j : ℕ) → j ≢ i → row_at rows j ≡ row_at (set rows i row) j = λ j ne. sym (get_or-set_other rows i j row d ne) in
      let change = sum_changed (λ j. score_of lens j (row_declared tentative (row_at rows j))) (λ j. score_of lens j (row_declared tentative (row_at (set rows i row) j))) 0 (length lens) i (omega arith) (omega arith) (λ j ne. ap (λ r. score_of lens j (row_declared tentative r)) (same j ne)) in
      let now = ap (λ r. score_of lens i (row_declared tentative r)) at_i in
      let low = score_below i h in
      record {
        ranges = s.ranges;
        each = length-set rows i row ∙ s.each;
        fits = λ j k. fits_replaced i row h f j k (cases_eq j i);
        scores = omega (arith, change, now, low, s.scores);
      }
    where
      fits_replaced : (i : ℕ) (row : Row) → i < length lens → FitsSplit row (slice_index lens i) → (j : ℕ) → j < length lens → (j ≡ i) ⊎ (j ≢ i) → FitsSplit (row_at (set rows i row) j) (slice_index lens j)
      fits_replaced i row h f j k (inl e) = subst (λ n. FitsSplit (row_at (set rows i row) n) (slice_index lens n)) (sym e) (subst (λ r. FitsSplit r (slice_index lens i)) (sym (get_or-set_same rows i row (record { winner = None; tries = [] }) (let inside : i < length rows = omega (arith, s.each) in inside))) f)
      fits_replaced i row h f j k (inr e) = subst (λ r. FitsSplit r (slice_index lens j)) (sym (get_or-set_other rows i j row (record { winner = None; tries = [] }) e)) (s.fits j k)

  -- a row that was read
  pub row_read : (i : ℕ) (row : Row) → i < length lens → row ≡ get_or rows i row → row ≡ row_at rows i
  row_read i row h e = let inside : i < length rows = omega (arith, s.each) in get_or_read rows i row inside e (record { winner = None; tries = [] })

  pub fits_read : (i : ℕ) (row : Row) → i < length lens → row ≡ get_or rows i row → FitsSplit row (slice_index lens i)
  fits_read i row h e = subst (λ r. FitsSplit r (slice_index lens i)) (sym (row_read i row h e)) (s.fits i h)

  pub declared_read : (h : List Event) (i : ℕ) (row : Row) → i < length lens → row ≡ get_or rows i row → ((i : ℕ) → i < length lens → RowStands (row_at rows i) h i) → row_declared tentative row ≡ declared tentative h i
  declared_read h i row k e stands = ap (row_declared tentative) (row_read i row k e) ∙ stands_declared tentative (row_at rows i) h i (s.fits i k).whole (stands i k)

  -- what was read and computed on the way to another row
  module _ (i : ℕ) (row old : Row) (len before after : ℕ) (h : i < length lens) (len_is : len ≡ get_or lens i len) (old_is : old ≡ get_or rows i old) (before_is : before ≡ score (records_of (row_declared tentative old)) len) (after_is : after ≡ score (records_of (row_declared tentative row)) len) where
    pub len_read : len ≡ slice_index lens i
    len_read = get_or_read lens i len h len_is 0

    pub before_read : before ≡ score_of lens i (row_declared tentative (row_at rows i))
    before_read = before_is ∙ ap (score (records_of (row_declared tentative old))) len_read ∙ ap (λ r. score_of lens i (row_declared tentative r)) (row_read i old h old_is)

    pub after_read : after ≡ score_of lens i (row_declared tentative row)
    after_read = after_is ∙ ap (score (records_of (row_declared tentative row))) len_read

    pub before_below : before ≤ total
    before_below = rw before_read (score_below i h)

    pub replaced_summed : FitsSplit row (slice_index lens i) → IsSummed lens tentative (set rows i row) (total - before + after)
    replaced_summed f = rw (before_read, after_read) (summed_replaced i row h f)

-- nothing is declared where no attempt has records
nothing_by : (w : Option ℕ) (tentative : Bool) (f g : ℕ → ℕ) → IfSome w (λ a. a < 16) → ((a : ℕ) → a < 16 → f a ≡ 0) → ((a : ℕ) → a < 16 → g a ≡ 0) → declared_by w tentative f g ≡ None
nothing_by (Some a) tentative f g h k l = ap (committed_part a) (l a h)
nothing_by None true f g h k l = leader_nothing f 16 k
nothing_by None false f g h k l = refl

cleared_at : (tries : List Try) (a : ℕ) → a < length tries → try_at (map cleared_try tries) a ≡ cleared_try (try_at tries a)
cleared_at tries a h = get_or-map cleared_try tries a (record { upto = 0; revoked = false }) (record { upto = 0; revoked = false }) h

live_nothing : (b : Bool) → ◌≡◌ {A = ℕ} (if b then 0 else 0) 0
live_nothing true = refl
live_nothing false = refl

pub cleared_declares : (tentative : Bool) (row : Row) → IsRow row → row_declared tentative (cleared row) ≡ None
cleared_declares tentative row r =
    let none : (a : ℕ) → a < 16 → try_at (map cleared_try row.tries) a ≡ cleared_try (try_at row.tries a) = λ a h. cleared_at row.tries a (rw r.sixteen h) in
    nothing_by row.winner tentative (live_records (map cleared_try row.tries)) (λ a. (try_at (map cleared_try row.tries) a).upto) r.winner
    (λ a h. ap (λ (t : Try). if t.revoked then 0 else t.upto) (none a h) ∙ live_nothing (try_at row.tries a).revoked)
    (λ a h. ap (λ (t : Try). t.upto) (none a h))

pub cleared_fits : (row : Row) (len : ℕ) → FitsSplit row len → FitsSplit (cleared row) len
cleared_fits row len f = record {
  whole = record { sixteen = length-map row.tries cleared_try ∙ f.whole.sixteen; winner = f.whole.winner };
  within = All-map (λ t. t.upto ≤ len) cleared_try row.tries (λ k d h. omega arith);
}

pub zero_sum : (f : ℕ → ℕ) (a n : ℕ) → ((i : ℕ) → a ≤ i → i < a + n → f i ≡ 0) → 0 ≡ sum (map f (range_with_len a n))
zero_sum f a n h = let k = sum_bound f 0 a n (λ i l u. omega (arith, h i l u)) in omega arith

module _ (lens : List ℕ) (tentative : Bool) (rows : List Row) (total : ℕ) (s : IsSummed lens tentative rows total) where
  cleared_row_at : (i : ℕ) → i < length lens → row_at (map cleared rows) i ≡ cleared (row_at rows i)
  cleared_row_at i h = let inside : i < length rows = omega (arith, s.each) in get_or-map cleared rows i (record { winner = None; tries = [] }) (record { winner = None; tries = [] }) inside

  pub whole_rows : (i : ℕ) → i < length lens → (i < length rows) × IsRow (row_at rows i)
  whole_rows i h = (omega (arith, s.each), (s.fits i h).whole)

  pub cleared_summed : IsSummed lens tentative (map cleared rows) 0
  cleared_summed = record {
    ranges = s.ranges;
    each = length-map rows cleared ∙ s.each;
    fits = λ i h. subst (λ r. FitsSplit r (slice_index lens i)) (sym (cleared_row_at i h)) (cleared_fits (row_at rows i) (slice_index lens i) (s.fits i h));
    scores = zero_sum (λ i. score_of lens i (row_declared tentative (row_at (map cleared rows) i))) 0 (length lens) (λ i l u. let inside : i < length lens = omega arith in ap (λ r. score_of lens i (row_declared tentative r)) (cleared_row_at i inside) ∙ ap (score_of lens i) (cleared_declares tentative (row_at rows i) (s.fits i inside).whole) ∙ zero-div (slice_index lens i));
  }

won_row : (row : Row) (h : List Event) (i a : ℕ) → RowStands row h i → RowStands (record row { winner = Some a }) (Won i a ∷ h) i
won_row row h i a s = record { winner = sym (ap {B = Option ℕ} (λ (b : Bool). cond b (Some a) (winner i h)) (let t : eqb i i ≡ true = grind (arith, nat_tests) in t)); tries = s.tries }

won_other : (row : Row) (h : List Event) (i j a : ℕ) → i ≢ j → RowStands row h i → RowStands row (Won j a ∷ h) i
won_other row h i j a ne s = record { winner = s.winner ∙ sym (ap {B = Option ℕ} (λ (b : Bool). cond b (Some a) (winner i h)) (let f : eqb j i ≡ false = grind (arith, nat_tests) in f)); tries = s.tries }

won_at : (t : Table) (j a : ℕ) (h : List Event) (i : ℕ) → j < length t.rows → RowStands (row_at t.rows i) h i → (i ≡ j) ⊎ (i ≢ j) → RowStands (row_at (set t.rows j (record (row_at t.rows j) { winner = Some a })) i) (Won j a ∷ h) i
won_at t j a h i p s (inl e) =
    let here = get_or-set_same t.rows j (record (row_at t.rows j) { winner = Some a }) (record { winner = None; tries = [] }) p in
    subst (λ k. RowStands (row_at (set t.rows j (record (row_at t.rows j) { winner = Some a })) k) (Won j a ∷ h) k) (sym e)
    (subst (λ r. RowStands r (Won j a ∷ h) j) (sym here) (won_row (row_at t.rows j) h j a (subst (λ k. RowStands (row_at t.rows k) h k) e s)))
won_at t j a h i p s (inr ne) = subst (λ r. RowStands r (Won j a ∷ h) i) (sym (get_or-set_other t.rows j i (record (row_at t.rows j) { winner = Some a }) (record { winner = None; tries = [] }) ne)) (won_other (row_at t.rows i) h i j a ne s)

pub won_stands : (t : Table) (j a : ℕ) (h : List Event) → j < length t.rows → StandsFor t h → StandsFor (record t { rows = set t.rows j (record (row_at t.rows j) { winner = Some a }) }) (Won j a ∷ h)
won_stands t j a h p s = λ i k. won_at t j a h i p (s i k) (cases_eq i j)

restarted_row : (row : Row) (h : List Event) (i : ℕ) → IsRow row → RowStands row h i → RowStands (cleared row) (Restart ∷ h) i
restarted_row row h i r s = record {
  winner = s.winner;
  tries = λ a k. cleared_at row.tries a (rw r.sixteen k) ∙ ap cleared_try (s.tries a k);
}

pub restarted_stands : (t : Table) (h : List Event) → ((i : ℕ) → i < length t.lens → (i < length t.rows) × IsRow (row_at t.rows i)) → StandsFor t h → StandsFor (record t { rows = map cleared t.rows }) (Restart ∷ h)
restarted_stands t h whole s = λ i k. subst (λ r. RowStands r (Restart ∷ h) i) (sym (get_or-map cleared t.rows i (record { winner = None; tries = [] }) (record { winner = None; tries = [] }) (whole i k).0)) (restarted_row (row_at t.rows i) h i (whole i k).1 (s i k))

-- a row without records
abbrev pub empty_row : Row
empty_row = record { winner = None; tries = replicate 16 (record { upto = 0; revoked = false }) }

empty_try : (a : ℕ) → a < 16 → try_at (replicate 16 (record { upto = 0; revoked = false })) a ≡ record { upto = 0; revoked = false }
empty_try a h = get_or-replicate 16 a (record { upto = 0; revoked = false }) (record { upto = 0; revoked = false }) h

empty_declares : (tentative : Bool) → row_declared tentative empty_row ≡ None
empty_declares tentative = nothing_by None tentative (live_records empty_row.tries) (λ a. (try_at empty_row.tries a).upto) tt (λ a h. ap (λ (t : Try). if t.revoked then 0 else t.upto) (empty_try a h)) (λ a h. ap (λ (t : Try). t.upto) (empty_try a h))

pub empty_summed : (lens : List ℕ) (tentative : Bool) → AreLens lens → IsSummed lens tentative (replicate (length lens) empty_row) 0
empty_summed lens tentative ranges =
    let at : (i : ℕ) → i < length lens → row_at (replicate (length lens) empty_row) i ≡ empty_row = λ i h. get_or-replicate (length lens) i empty_row (record { winner = None; tries = [] }) h in
    record {
      ranges = ranges;
      each = length-replicate (length lens) empty_row;
      fits = λ i h. subst (λ r. FitsSplit r (slice_index lens i)) (sym (at i h)) (record { whole = record { sixteen = refl; winner = tt }; within = All-replicate (λ (t : Try). t.upto ≤ slice_index lens i) 16 (record { upto = 0; revoked = false }) (omega arith) });
      scores = zero_sum (λ i. score_of lens i (row_declared tentative (row_at (replicate (length lens) empty_row) i))) 0 (length lens) (λ i l u. let inside : i < length lens = omega arith in ap (λ r. score_of lens i (row_declared tentative r)) (at i inside) ∙ ap (score_of lens i) (empty_declares tentative) ∙ zero-div (slice_index lens i));
    }
