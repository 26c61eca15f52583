-- Texts of whole lines.
use Rattle.std.proofs.Common.{◌≡◌, ℕ, ◌+◌, ◌≤◌, Bool, true, false, cond, List, [], ◌∷◌, ◌++◌, length, refl, sym, subst, arith, append_assoc}
use Rattle.std.specs.Prelude.{◌==◌}
use Rattle.std.specs.List.{slice_split, onto_first, AllByRecursion, flat_map}
use Rattle.std.proofs.lemmas.List.Elements.{All-from_recursion, recursion_from_All}
use Rattle.hop_laws.specs.Laws.{EndsLine, IsWholeLines}

-- the first part is at most m long, and the others at most n
abbrev FirstShort : ℕ → ℕ → List (List ℕ) → Type 0
FirstShort m n [] = ⊥
FirstShort m n (part ∷ parts) = (length part ≤ m) × AllByRecursion (λ part. length part ≤ n) parts

short_step : (x m n : ℕ) (parts : List (List ℕ)) (b : Bool) → m ≤ n → FirstShort m n parts → FirstShort (m + 1) n (cond b ([] ∷ parts) (onto_first x parts))
short_step x m n [] b le h = absurd h
short_step x m n (part ∷ parts) true le h = (omega arith, (omega (arith, h.0), h.1))
short_step x m n (part ∷ parts) false le h = (omega (arith, h.0), h.1)

short_line : (body text : List ℕ) (n : ℕ) → length body ≤ n → AllByRecursion (λ part. length part ≤ n) (slice_split (λ b. b == 10) text) → FirstShort (length body) n (slice_split (λ b. b == 10) (body ++ 10 ∷ text))
short_line [] text n h t = (omega arith, t)
short_line (x ∷ body) text n h t =
    let e : length body + 1 ≡ length (x ∷ body) = omega arith in
    subst (λ m. FirstShort m n (slice_split (λ b. b == 10) ((x ∷ body) ++ 10 ∷ text))) e
    (short_step x (length body) n (slice_split (λ b. b == 10) (body ++ 10 ∷ text)) (x == 10) (omega arith) (short_line body text n (omega arith) t))

all_short : (m n : ℕ) (parts : List (List ℕ)) → m ≤ n → FirstShort m n parts → AllByRecursion (λ part. length part ≤ n) parts
all_short m n [] le h = absurd h
all_short m n (part ∷ parts) le h = (omega (arith, h.0), h.1)

ends_line : (body text : List ℕ) → EndsLine text → EndsLine (body ++ 10 ∷ text)
ends_line [] [] h = refl
ends_line [] (c ∷ text) h = h
ends_line (x ∷ []) text h = ends_line [] text h
ends_line (x ∷ y ∷ body) text h = ends_line (y ∷ body) text h

pub lines_none : (n : ℕ) → IsWholeLines n []
lines_none n = record { ended = tt; short = All-from_recursion (λ line. length line ≤ n) ([] ∷ []) (omega arith, tt) }

-- one more line in front
pub lines_more : (n : ℕ) (body text : List ℕ) → length body ≤ n → IsWholeLines n text → IsWholeLines n (body ++ 10 ∷ text)
lines_more n body text h t = record {
  ended = ends_line body text t.ended;
  short = All-from_recursion (λ line. length line ≤ n) _ (all_short (length body) n (slice_split (λ b. b == 10) (body ++ 10 ∷ text)) h (short_line body text n h (recursion_from_All (λ line. length line ≤ n) (slice_split (λ b. b == 10) text) t.short)));
}

-- a line for each item
pub lines_each : {X : Type 0} (n : ℕ) (body : X → List ℕ) (xs : List X) → AllByRecursion (λ x. length (body x) ≤ n) xs → IsWholeLines n (flat_map (λ x. body x ++ 10 ∷ []) xs)
lines_each n body [] h = lines_none n
lines_each n body (x ∷ xs) h =
    subst (IsWholeLines n) (sym (append_assoc (body x) (10 ∷ []) (flat_map (λ x. body x ++ 10 ∷ []) xs)))
    (lines_more n (body x) (flat_map (λ x. body x ++ 10 ∷ []) xs) h.0 (lines_each n body xs h.1))
