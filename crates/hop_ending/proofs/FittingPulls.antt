-- The calls by which a run is caught up and settled fit: what is pulled is of the splits.
use Rattle.std.proofs.Common.{◌≡◌, ℕ, zero, suc, ◌+◌, ◌≤◌, ◌<◌, Bool, true, false, cond, nat_lt, List, [], ◌∷◌, ◌++◌, refl, sym, subst, Option, Some, None, slice_index, arith}
use Rattle.hop_base.specs.declared.part.Part.{Part}
use Rattle.hop_event.specs.declared.event.Event.{Event}
use Rattle.hop_event.specs.declared.event.Event.TheVariants as events
use Rattle.hop_event.specs.declared.event.Via.TheVariants as via
use Rattle.hop_event.specs.History.{winner, upto}
use Rattle.hop_machine.specs.step.Steps.{Setup, Prog, Done, and_then}
use Rattle.hop_machine.specs.actors.MapperTurns.{Mapper}
use Rattle.hop_machine.specs.actors.ReducerTurns.{Reducer, marks_due, must_restart, gives_back, records, send_cuts, still_due, restarts, lags, with_room, reads_off, reads_upto, reads_winner, reads_wants, wanted, take_pull, send_due, restart_if_due, finish}
use Rattle.hop_machine.specs.play.Play.{Row, kept_by, with_row, rows_of_split, kept_rows, if_ok, pull, pull_to, pull_row, unless_restarted, pull_rows, catch_up, pull_winner, pull_split, same_reducer}
use Rattle.hop_ending.proofs.FineHistories.{AllFine, winner_fine}
use Rattle.hop_ending.proofs.Fitting.{Fits, fits_then, fits_if}
use Rattle.hop_ending.proofs.FittingTurns.{OfRun, StaysOf, gives_fits, records_fit, room_fits, cuts_fit}

module _ (s : Setup) where
  -- so much of the split, of an attempt that there may be
  abbrev pub IsRow : Row → Type 0
  IsRow k = (k.end ≤ slice_index s.lens k.split) × (k.attempt < s.attempts)

  abbrev pub AreRows : List Row → Type 0
  AreRows [] = Unit {0}
  AreRows (k ∷ rows) = IsRow k × AreRows rows

  module _ (ms : List Mapper) (kept : (i a : ℕ) → kept_by ms i a ≤ slice_index s.lens i) where
    with_fine : (n : ℕ) (k : Row) (rows : List Row) → IsRow k → AreRows rows → AreRows (with_row n k rows)
    with_fine zero k rows h r = r
    with_fine (suc n) k rows h r = (h, r)

    split_fine : (i a n : ℕ) → a + n ≤ s.attempts → AreRows (rows_of_split ms i a n)
    split_fine i a zero l = tt
    split_fine i a (suc n) l = with_fine (kept_by ms i a) (record { split = i; attempt = a; end = kept_by ms i a }) (rows_of_split ms i (a + 1) n) (kept i a, omega (arith, l)) (split_fine i (a + 1) n (omega (arith, l)))

    both_fine : (xs ys : List Row) → AreRows xs → AreRows ys → AreRows (xs ++ ys)
    both_fine [] ys f g = g
    both_fine (x ∷ xs) ys f g = (f.0, both_fine xs ys f.1 g)

    pub rows_fine : (i n : ℕ) → AreRows (kept_rows ms s.attempts i n)
    rows_fine i zero = tt
    rows_fine i (suc n) = both_fine (rows_of_split ms i 0 s.attempts) (kept_rows ms s.attempts (i + 1) n) (split_fine i 0 s.attempts (omega arith)) (rows_fine (i + 1) n)

  module _ (r : Reducer) (is : OfRun s r) where
    -- # What is read off, recorded and sent

    off_fits : {A : Type 0} (P : A → Type 0) (f : List Event → A) → ((h : List Event) → AllFine s h → P (f h)) → Fits s P (reads_off r f)
    off_fits P f g = (tt, λ v h. gives_fits s P r v.due (f v.events) (g v.events (h is.1)))

    any_off : {A : Type 0} (f : List Event → A) → Fits s (λ x. Unit {0}) (reads_off r f)
    any_off f = off_fits (λ x. Unit {0}) f (λ h g. tt)

    take_fits : (part : Part) → part.to ≤ slice_index s.lens part.split → part.attempt < s.attempts → Fits s (λ ok. Unit {0}) (take_pull r part)
    take_fits part l k = (
      tt,
      λ v h. room_fits s (λ ok. Unit {0}) r v.due false (records r (events.Arrive part via.Pull) (marks_due r.setup (events.Arrive part via.Pull ∷ v.events)) true) tt
          (records_fit s (λ ok. Unit {0}) r (events.Arrive part via.Pull) (marks_due r.setup (events.Arrive part via.Pull ∷ v.events)) true (l, k) tt),
    )

    pub due_fits : Fits s (λ ok. Unit {0}) (send_due r)
    due_fits = (
      tt,
      λ v h. fits_then s (λ ok. Unit {0}) (λ ok. Unit {0}) (send_cuts r v.events v.due) (λ ok. gives_back r (still_due ok v.due) ok) (cuts_fit s r is v.events (h is.1) v.due)
          (λ ok u. gives_fits s (λ ok. Unit {0}) r (still_due ok v.due) ok tt),
    )

    pub finish_fits : Fits s (λ ok. Unit {0}) (finish r)
    finish_fits = (
      tt,
      λ v h. room_fits s (λ ok. Unit {0}) r v.due false (records r events.Finish (marks_due r.setup (events.Finish ∷ v.events)) true) tt
          (records_fit s (λ ok. Unit {0}) r events.Finish (marks_due r.setup (events.Finish ∷ v.events)) true tt tt),
    )

    restart_fits : Fits s (StaysOf s) (restart_if_due r)
    restart_fits = (
      tt,
      λ v h. fits_if s (StaysOf s) (must_restart r.setup r.number v.events)
          (with_room r v.due (r, None) (restarts r v.events (lags r, Some true))) (gives_back r v.due (r, Some false))
          (λ t. room_fits s (StaysOf s) r v.due (r, None) (restarts r v.events (lags r, Some true)) is
          (records_fit s (StaysOf s) r events.Restart (marks_due r.setup (events.Restart ∷ v.events)) (lags r, Some true) tt is))
          (λ t. gives_fits s (StaysOf s) r v.due (r, Some false) is),
    )

    pub same_fits : (f : Reducer → Prog Bool) → Fits s (λ ok. Unit {0}) (f r) → Fits s (StaysOf s) (same_reducer f r)
    same_fits f h = fits_then s (λ ok. Unit {0}) (StaysOf s) (f r) (λ ok. Done (r, ok)) h (λ ok u. is)

    -- # A pull

    ok_fits : (ok : Bool) (k : Prog (Reducer × Option Bool)) → Fits s (StaysOf s) k → Fits s (StaysOf s) (if_ok ok r k)
    ok_fits ok k h = fits_if s (StaysOf s) ok k (Done (r, None)) (λ t. h) (λ t. is)

    pull_fits : (part : Part) → part.to ≤ slice_index s.lens part.split → part.attempt < s.attempts → Fits s (StaysOf s) (pull part r)
    pull_fits part l k =
        let sends : Prog (Reducer × Option Bool) = and_then (send_due r) (λ sent. if_ok sent r (restart_if_due r)) in (
          tt,
          λ fetched u. ok_fits fetched (and_then (take_pull r part) (λ taken. if_ok taken r sends))
              (fits_then s (λ ok. Unit {0}) (StaysOf s) (take_pull r part) (λ taken. if_ok taken r sends) (take_fits part l k)
              (λ taken u. ok_fits taken sends
              (fits_then s (λ ok. Unit {0}) (StaysOf s) (send_due r) (λ sent. if_ok sent r (restart_if_due r)) due_fits (λ sent u. ok_fits sent (restart_if_due r) restart_fits)))),
        )

    to_fits : (i a end from : ℕ) → end ≤ slice_index s.lens i → a < s.attempts → Fits s (StaysOf s) (pull_to i a end from r)
    to_fits i a end from l k = fits_if s (StaysOf s) (nat_lt from end) (pull (record { split = i; attempt = a; from = from; to = end }) r) (Done (r, Some false)) (λ t. pull_fits (record { split = i; attempt = a; from = from; to = end }) l k) (λ t. is)

    row_fits : (k : Row) → IsRow k → Fits s (StaysOf s) (pull_row k r)
    row_fits k h =
        let later : Prog (Reducer × Option Bool) = and_then (reads_upto r k.split k.attempt) (λ from. pull_to k.split k.attempt k.end from r) in
        fits_then s (λ w. Unit {0}) (StaysOf s) (reads_wants r k.split k.attempt) (λ w. cond w later (Done (r, Some false))) (any_off (λ g. wanted g k.split k.attempt))
        (λ w u. fits_if s (StaysOf s) w later (Done (r, Some false))
        (λ t. fits_then s (λ n. Unit {0}) (StaysOf s) (reads_upto r k.split k.attempt) (λ from. pull_to k.split k.attempt k.end from r) (any_off (upto k.split k.attempt)) (λ from u. to_fits k.split k.attempt k.end from h.0 h.1))
        (λ t. is))

    winner_fits : (i : ℕ) (o : Option ℕ) → ((a : ℕ) → o ≡ Some a → a < s.attempts) → Fits s (StaysOf s) (pull_winner i o r)
    winner_fits i None h = is
    winner_fits i (Some a) h =
        fits_then s (λ n. Unit {0}) (StaysOf s) (reads_upto r i a) (λ from. pull_to i a (slice_index r.setup.lens i) from r) (any_off (upto i a))
        (λ from u. to_fits i a (slice_index r.setup.lens i) from (subst (λ (k : Setup). slice_index k.lens i ≤ slice_index s.lens i) (sym is.0) (omega arith)) (h a refl))

    pub split_fits : (i : ℕ) → Fits s (StaysOf s) (pull_split i r)
    split_fits i = fits_then s (λ (o : Option ℕ). (a : ℕ) → o ≡ Some a → a < s.attempts) (StaysOf s) (reads_winner r i) (λ o. pull_winner i o r)
        (off_fits (λ (o : Option ℕ). (a : ℕ) → o ≡ Some a → a < s.attempts) (winner i) (λ h f. winner_fine s i h f)) (λ o h. winner_fits i o h)

  -- # Catching up

  unless_fits : (o : Option Bool) (r : Reducer) (k : Prog (Reducer × Bool)) → OfRun s r → Fits s (StaysOf s) k → Fits s (StaysOf s) (unless_restarted o r k)
  unless_fits None r k is h = is
  unless_fits (Some true) r k is h = is
  unless_fits (Some false) r k is h = h

  rows_fit : (rows : List Row) → AreRows rows → (r : Reducer) → OfRun s r → Fits s (StaysOf s) (pull_rows rows r)
  rows_fit [] f r is = is
  rows_fit (k ∷ rows) f r is = fits_then s (StaysOf s) (StaysOf s) (pull_row k r) (λ x. unless_restarted x.1 x.0 (pull_rows rows x.0)) (row_fits r is k f.0) (λ x h. unless_fits x.1 x.0 (pull_rows rows x.0) h (rows_fit rows f.1 x.0 h))

  pub catch_fits : (rows : List Row) → AreRows rows → (r : Reducer) → OfRun s r → Fits s (StaysOf s) (catch_up rows r)
  catch_fits rows f r is = fits_if s (StaysOf s) r.lagging (and_then (restart_if_due r) (λ x. unless_restarted x.1 x.0 (pull_rows rows x.0))) (Done (r, true))
      (λ t. fits_then s (StaysOf s) (StaysOf s) (restart_if_due r) (λ x. unless_restarted x.1 x.0 (pull_rows rows x.0)) (restart_fits r is) (λ x h. unless_fits x.1 x.0 (pull_rows rows x.0) h (rows_fit rows f x.0 h)))
      (λ t. is)
