-- The job that counts words meets the laws.
use Rattle.std.proofs.Common.{◌≡◌, ℕ, ◌+◌, ◌*◌, ◌≤◌, Bool, true, false, cond, ◌||◌, List, [], ◌∷◌, length, subst, arith}
use Rattle.std.specs.Prelude.{◌≢◌, All, filter, ◌==◌, codes}
use Rattle.std.specs.List.{slice_split, onto_first, AllByRecursion}
use Rattle.std.proofs.lemmas.List.{length-map}
use Rattle.std.proofs.lemmas.List.Elements.{All-from_recursion, All-map, All-filter, All-weaker}
use Rattle.hop_base.specs.declared.value.Pair.{Pair}
use Rattle.hop_base.specs.Order.{IsValidPair}
use Rattle.hop_laws.specs.Laws.{EmitsWell, IsName, IsLawful}
use Rattle.hop_jobs.specs.AddingLaws.{sum_combines_well, sum_reduces_alike, sum_writes_lines}
use Rattle.hop_jobs.specs.Wc.{is_some_part, piece_pair, pieces_of, wc_emits, wc_meaning}

-- how many parts are not empty
abbrev some_count : List (List ℕ) → ℕ
some_count parts = length (filter is_some_part parts)

-- of n bytes, every second at most begins a piece
abbrev FitIn : List (List ℕ) → ℕ → Type 0
FitIn [] n = ⊥
FitIn ([] ∷ parts) n = 2 * some_count parts ≤ n
FitIn ((b ∷ part) ∷ parts) n = 2 * some_count parts + 1 ≤ n

fit_after : (parts : List (List ℕ)) (n : ℕ) → FitIn parts n → 2 * some_count parts ≤ n + 1
fit_after [] n h = absurd h
fit_after ([] ∷ parts) n h = omega arith
fit_after ((b ∷ part) ∷ parts) n h = omega arith

fit_onto : (x : ℕ) (parts : List (List ℕ)) (n : ℕ) → FitIn parts n → FitIn (onto_first x parts) (n + 1)
fit_onto x [] n h = absurd h
fit_onto x ([] ∷ parts) n h = omega arith
fit_onto x ((b ∷ part) ∷ parts) n h = omega arith

fit_at : (x : ℕ) (line : List ℕ) (parts : List (List ℕ)) (b : Bool) → FitIn parts (length line) → FitIn (cond b ([] ∷ parts) (onto_first x parts)) (length (x ∷ line))
fit_at x line parts true h = omega (arith, fit_after parts (length line) h)
fit_at x line parts false h = let e : length line + 1 ≡ length (x ∷ line) = omega arith in subst (FitIn (onto_first x parts)) e (fit_onto x parts (length line) h)

fit_split : (p : ℕ → Bool) (line : List ℕ) → FitIn (slice_split p line) (length line)
fit_split p [] = omega arith
fit_split p (x ∷ line) = fit_at x line (slice_split p line) (p x) (fit_split p line)

abbrev AllShort : ℕ → List (List ℕ) → Type 0
AllShort n parts = AllByRecursion (λ part. length part ≤ n) parts

short_more : (n m : ℕ) (parts : List (List ℕ)) → n ≤ m → AllShort n parts → AllShort m parts
short_more n m [] le h = tt
short_more n m (part ∷ parts) le h = (omega (arith, h.0), short_more n m parts le h.1)

short_onto : (x n : ℕ) (parts : List (List ℕ)) → AllShort n parts → AllShort (n + 1) (onto_first x parts)
short_onto x n [] h = (omega arith, tt)
short_onto x n (part ∷ parts) h = (omega (arith, h.0), short_more n (n + 1) parts (omega arith) h.1)

short_at : (x : ℕ) (line : List ℕ) (parts : List (List ℕ)) (b : Bool) → AllShort (length line) parts → AllShort (length (x ∷ line)) (cond b ([] ∷ parts) (onto_first x parts))
short_at x line parts true h = (omega arith, short_more (length line) (length (x ∷ line)) parts (omega arith) h)
short_at x line parts false h = short_more (length line + 1) (length (x ∷ line)) (onto_first x parts) (omega arith) (short_onto x (length line) parts h)

short_split : (p : ℕ → Bool) (line : List ℕ) → AllShort (length line) (slice_split p line)
short_split p [] = (omega arith, tt)
short_split p (x ∷ line) = short_at x line (slice_split p line) (p x) (short_split p line)

short_pieces : (line : List ℕ) → All (λ piece. length piece ≤ length line) (pieces_of line)
short_pieces line =
    All-filter is_some_part (λ piece. length piece ≤ length line) (slice_split (λ b. b == 32 || b == 9) line)
    (All-from_recursion (λ piece. length piece ≤ length line) _ (short_split (λ b. b == 32 || b == 9) line))

pub wc_emits_well : (line : List ℕ) → length line ≤ 131050 → EmitsWell line (wc_emits line)
wc_emits_well line short =
    let pair : List ℕ → Pair = piece_pair in
    record {
      few = omega (arith, length-map (pieces_of line) pair, fit_after _ _ (fit_split (λ b. b == 32 || b == 9) line));
      valid = All-map IsValidPair pair (pieces_of line) (All-weaker (λ piece. length piece ≤ length line) (λ piece. IsValidPair (pair piece)) (λ piece h. record { key = omega arith; value = record { number = omega arith; text = omega arith } }) (pieces_of line) (short_pieces line));
      keys = All-map (λ (p : Pair). length p.key ≤ length line) pair (pieces_of line) (short_pieces line);
      texts = All-map (λ (p : Pair). length p.val.s ≤ length line) pair (pieces_of line) (All-weaker (λ piece. length piece ≤ length line) (λ piece. length (pair piece).val.s ≤ length line) (λ piece h. omega arith) (pieces_of line) (short_pieces line));
    }

wc_named : IsName (codes "wc")
wc_named = record {
  some = omega arith;
  no_line_feed = All-from_recursion (λ b. b ≢ 10) (codes "wc") ((λ e. omega (arith, e)), ((λ e. omega (arith, e)), tt));
  no_space = All-from_recursion (λ b. b ≢ 32) (codes "wc") ((λ e. omega (arith, e)), ((λ e. omega (arith, e)), tt));
}

pub wc_lawful : IsLawful wc_meaning
wc_lawful = record {
  named = wc_named;
  emits_well = wc_emits_well;
  combines_well = sum_combines_well;
  reduces_alike = sum_reduces_alike;
  writes_lines = sum_writes_lines;
}
