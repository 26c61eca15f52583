-- Where a text is cut first, and what its lines and words are then.
use Rattle.std.proofs.Common.{◌≡◌, ℕ, suc, ◌+◌, ◌-◌, ◌<◌, ◌≤◌, Bool, true, false, ◌||◌, cond, List, [], ◌∷◌, ◌++◌, length, take, drop, Option, None, Some, refl, ap, arith}
use Rattle.std.specs.Prelude.{MatchOption, ◌==◌}
use Rattle.std.specs.List.{list_any, position_from, onto_first}
use Rattle.std.proofs.lemmas.Bool.{eqb-true}
use Rattle.hop_script.specs.Text.{lines_of, words_of}

-- the list is cut at the first byte, which stands at k
pub record IsCut (byte : ℕ) (xs : List ℕ) (k : ℕ) : Type 0 where
  pub within : k < length xs
  pub parts : xs ≡ take k xs ++ byte ∷ drop (k + 1) xs
  pub first : list_any (λ c. c == byte) (take k xs) ≡ false

IsCut-later : (byte x : ℕ) (xs : List ℕ) (j : ℕ) → (x == byte) ≡ false → IsCut byte xs j → IsCut byte (x ∷ xs) (suc j)
IsCut-later byte x xs j other cut =
    let next : suc j + 1 ≡ suc (j + 1) = omega arith in
    record { within = omega (arith, cut.within); parts = rw next (ap (λ ys. x ∷ ys) cut.parts); first = rw other cut.first }

cut_step : (byte i x : ℕ) (xs : List ℕ) (b : Bool) → (x == byte) ≡ b → (o : Option ℕ) → MatchOption o (list_any (λ c. c == byte) xs ≡ false) (λ k. (i + 1 ≤ k) × IsCut byte xs (k - (i + 1)))
    → MatchOption (cond b (Some i) o) ((b || list_any (λ c. c == byte) xs) ≡ false) (λ k. (i ≤ k) × IsCut byte (x ∷ xs) (k - i))
cut_step byte i x xs true is o later =
    let none : i - i ≡ 0 = omega arith in
    let same : x ≡ byte = eqb-true x byte is in
    (omega arith, rw none (record { within = omega arith; parts = ap (λ c. c ∷ xs) same; first = refl }))
cut_step byte i x xs false is None later = later
cut_step byte i x xs false is (Some k) later =
    let next : k - i ≡ suc (k - (i + 1)) = omega (arith, later.0) in
    (omega (arith, later.0), rw next (IsCut-later byte x xs (k - (i + 1)) is later.1))

cut_at_place : (byte i : ℕ) (xs : List ℕ) → MatchOption (position_from (λ c. c == byte) i xs) (list_any (λ c. c == byte) xs ≡ false) (λ k. (i ≤ k) × IsCut byte xs (k - i))
cut_at_place byte i [] = refl
cut_at_place byte i (x ∷ xs) = cut_step byte i x xs (x == byte) refl (position_from (λ c. c == byte) (i + 1) xs) (cut_at_place byte (i + 1) xs)

from_zero : (byte : ℕ) (xs : List ℕ) (P : Type 0) (o : Option ℕ) → MatchOption o P (λ k. (0 ≤ k) × IsCut byte xs (k - 0)) → MatchOption o P (λ k. IsCut byte xs k)
from_zero byte xs P None cut = cut
from_zero byte xs P (Some k) cut = let same : k - 0 ≡ k = omega arith in rw same at cut.1

-- the first place at which the byte stands cuts the list
pub cut_first : (byte : ℕ) (xs : List ℕ) → MatchOption (position_from (λ c. c == byte) 0 xs) (list_any (λ c. c == byte) xs ≡ false) (λ k. IsCut byte xs k)
cut_first byte xs = from_zero byte xs (list_any (λ c. c == byte) xs ≡ false) (position_from (λ c. c == byte) 0 xs) (cut_at_place byte 0 xs)

none_of_or : (a b : Bool) → (a || b) ≡ false → (a ≡ false) × (b ≡ false)
none_of_or true b none = cc
none_of_or false b none = (refl, none)

-- a text whose first line is ended
pub lines_of-line : (front back : List ℕ) → list_any (λ c. c == 10) front ≡ false → lines_of (front ++ 10 ∷ back) ≡ Some front ∷ lines_of back
lines_of-line [] back none = refl
lines_of-line (c ∷ front) back none =
    let parts = none_of_or (c == 10) (list_any (λ d. d == 10) front) none in
    rw (parts.0, lines_of-line front back parts.1) refl

-- a text whose only line is not ended
pub lines_of-last : (text : List ℕ) → 0 < length text → list_any (λ c. c == 10) text ≡ false → lines_of text ≡ None ∷ []
lines_of-last [] some none = absurd (omega arith)
lines_of-last (c ∷ []) some none =
    let parts = none_of_or (c == 10) false none in rw parts.0 refl
lines_of-last (c ∷ d ∷ text) some none =
    let parts = none_of_or (c == 10) (list_any (λ e. e == 10) (d ∷ text)) none in
    rw (parts.0, lines_of-last (d ∷ text) (omega arith) parts.1) refl

-- a line of more than one word
pub words_of-word : (front back : List ℕ) → list_any (λ c. c == 32) front ≡ false → words_of (front ++ 32 ∷ back) ≡ front ∷ words_of back
words_of-word [] back none = refl
words_of-word (c ∷ front) back none =
    let parts = none_of_or (c == 32) (list_any (λ d. d == 32) front) none in
    rw (parts.0, words_of-word front back parts.1) refl

-- a line of one word
pub words_of-last : (line : List ℕ) → list_any (λ c. c == 32) line ≡ false → words_of line ≡ line ∷ []
words_of-last [] none = refl
words_of-last (c ∷ line) none =
    let parts = none_of_or (c == 32) (list_any (λ d. d == 32) line) none in
    rw (parts.0, words_of-last line parts.1) refl

split_some : (c : ℕ) (b : Bool) (parts : List (List ℕ)) → (word : List ℕ) × (words : List (List ℕ)) × (cond b ([] ∷ parts) (onto_first c parts) ≡ word ∷ words)
split_some c true parts = ([], parts, refl)
split_some c false [] = (c ∷ [], [], refl)
split_some c false (part ∷ parts) = (c ∷ part, parts, refl)

-- a line has a word
pub words_of-some : (line : List ℕ) → (word : List ℕ) × (words : List (List ℕ)) × (words_of line ≡ word ∷ words)
words_of-some [] = ([], [], refl)
words_of-some (c ∷ line) = split_some c (c == 32) (words_of line)
