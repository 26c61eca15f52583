-- How many calls for a split or a number were made.
use Rattle.std.proofs.Common.{◌≡◌, ℕ, ◌+◌, ◌*◌, ◌^◌, ◌<◌, ◌≤◌, ◌==◌, ◌⊎◌, Option, Some, None, ◌∷◌, List, zero, suc, refl, sym, ap, ◌∙◌, subst, inl, inr, arith, eq-or-lt_of_le}
use Rattle.hop_machine.specs.declared.words.Who.TheVariants as whose
use Rattle.hop_machine.specs.declared.words.Verdict.{Verdict}
use Rattle.hop_machine.specs.step.Steps.{Seat, at1, next_split_of}
use Rattle.hop_inner.specs.Setups.{parts}
use Rattle.hop_board.specs.declared.plain_board.Call.{Call}
use Rattle.hop_board.specs.declared.plain_board.Call.TheVariants.{Gave, Drew as Drew', Committed, Revoked}
use Rattle.hop_board.specs.declared.plain_board.Made.{Made}
use Rattle.hop_board.specs.PlainBoards.{total, calls_by, IsCounted, words_of, seats_of, seat_after}
use Rattle.hop_board.proofs.Places.{at_place, at1-here}

total_mono : (n : ℕ) (f g : ℕ → ℕ) → ((v : ℕ) → f v ≤ g v) → total n f ≤ total n g
total_mono zero f g h = omega arith
total_mono (suc n) f g h = let r = total_mono n f g h in let k = h n in omega arith

total_grows_by : (n w : ℕ) (f g : ℕ → ℕ) → ((v : ℕ) → f v ≤ g v) → f w + 1 ≤ g w → (w ≡ n) ⊎ (w < n) → (w < n → total n f + 1 ≤ total n g) → total (suc n) f + 1 ≤ total (suc n) g
total_grows_by n w f g h more (inl e) rest = let r = total_mono n f g h in let k : f n + 1 ≤ g n = subst (λ m. f m + 1 ≤ g m) e more in omega arith
total_grows_by n w f g h more (inr l) rest = let r = rest l in let k = h n in omega arith

total_grows : (n w : ℕ) (f g : ℕ → ℕ) → ((v : ℕ) → f v ≤ g v) → f w + 1 ≤ g w → w < n → total n f + 1 ≤ total n g
total_grows zero w f g h more l = absurd (omega arith)
total_grows (suc n) w f g h more l = total_grows_by n w f g h more (eq-or-lt_of_le (omega (arith, l))) (λ k. total_grows n w f g h more k)

total_within : (n k : ℕ) (f : ℕ → ℕ) → ((v : ℕ) → f v ≤ k) → total n f ≤ n * k
total_within zero k f h = omega arith
total_within (suc n) k f h = let r = total_within n k f h in let j = h n in omega arith

module _ (workers : ℕ) (calls : List Made) (h : IsCounted workers calls) where
  -- so drawn numbers fit
  pub few_drawn : workers ≤ 8 → (i : ℕ) → (words_of calls).drawn i ≤ 8 * parts
  few_drawn few i = let a = h.drawn i in let b = total_within workers parts (calls_by calls) h.each in omega arith

  module _ (w : ℕ) where
    abbrev more : Call → List Made
    more k = record { who = whose.Mapper w; call = k } ∷ calls

    -- what holds of the calls that w made, and of those that others made, holds of all
    by_each : (k : Call) (P : ℕ → ℕ → Type 0) → ((v : ℕ) → v ≡ w → P v (seat_after k (seats_of calls (whose.Mapper w))).calls) → ((v : ℕ) → P v (calls_by calls v)) → (v : ℕ) → P v (calls_by (more k) v)
    by_each k P mine others v = at_place (λ (s : Seat). P v s.calls) (λ v. seats_of calls (whose.Mapper v)) w v (seat_after k (seats_of calls (whose.Mapper w))) (mine v) (others v)

    here : (k : Call) → calls_by (more k) w ≡ (seat_after k (seats_of calls (whose.Mapper w))).calls
    here k = ap (λ (s : Seat). s.calls) (at1-here (λ v. seats_of calls (whose.Mapper v)) w (seat_after k (seats_of calls (whose.Mapper w))))

    -- one call more
    grown : (k : Call) → (seat_after k (seats_of calls (whose.Mapper w))).calls ≡ calls_by calls w + 1 → (v : ℕ) → calls_by calls v ≤ calls_by (more k) v
    grown k e = by_each k (λ v n. calls_by calls v ≤ n) (λ v s. let q : calls_by calls v ≡ calls_by calls w = ap (calls_by calls) s in omega (arith, e)) (λ v. omega arith)

    within : (k : Call) → (seat_after k (seats_of calls (whose.Mapper w))).calls ≡ calls_by calls w + 1 → calls_by calls w < parts → (v : ℕ) → calls_by (more k) v ≤ parts
    within k e l = by_each k (λ v n. n ≤ parts) (λ v s. omega (arith, e, l)) h.each

    same : (k : Call) → (seat_after k (seats_of calls (whose.Mapper w))).calls ≡ calls_by calls w → (v : ℕ) → calls_by (more k) v ≡ calls_by calls v
    same k e = by_each k (λ v n. n ≡ calls_by calls v) (λ v s. e ∙ sym (ap (calls_by calls) s)) (λ v. refl)

    asked : (o : Option ℕ) → (next_split_of o (seats_of calls (whose.Mapper w))).calls ≡ calls_by calls w + 1
    asked None = refl
    asked (Some i) = refl

    pub counts_next : (o : Option ℕ) → calls_by calls w < parts → IsCounted workers (more (Gave o))
    counts_next o l = record {
      each = within (Gave o) (asked o) l;
      drawn = λ i. let a = h.drawn i in let b = total_mono workers (calls_by calls) (calls_by (more (Gave o))) (grown (Gave o) (asked o)) in omega arith;
    }

    pub counts_draw : (i n : ℕ) → w < workers → calls_by calls w < parts → IsCounted workers (more (Drew' i n))
    counts_draw i n inside l =
        let once : calls_by calls w + 1 ≤ calls_by (more (Drew' i n)) w = let q = here (Drew' i n) in omega arith in
        let b = total_grows workers w (calls_by calls) (calls_by (more (Drew' i n))) (grown (Drew' i n) refl) once inside in
        record {
          each = within (Drew' i n) refl l;
          drawn = λ j. at_place (λ m. m ≤ total workers (calls_by (more (Drew' i n)))) (words_of calls).drawn i j ((words_of calls).drawn i + 1) (λ s. let a = h.drawn i in omega arith) (let a = h.drawn j in omega arith);
        }

    pub counts_same : (k : Call) → (seat_after k (seats_of calls (whose.Mapper w))).calls ≡ calls_by calls w → ((i : ℕ) → (words_of (more k)).drawn i ≡ (words_of calls).drawn i) → IsCounted workers (more k)
    counts_same k e d = record {
      each = λ v. let a = same k e v in let b = h.each v in omega arith;
      drawn = λ i. subst (λ m. m ≤ total workers (calls_by (more k))) (sym (d i)) (subst (λ f. (words_of calls).drawn i ≤ total workers f) (λ j v. sym (same k e v) j) (h.drawn i));
    }
