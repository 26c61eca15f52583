-- A number at the beginning of a text is determined.
use Rattle.std.proofs.Common.{◌≡◌, ℕ, ◌+◌, ◌<◌, ◌^◌, ◌≤◌, ◌&&◌, get_or, Bool, true, false, List, [], ◌∷◌, ◌++◌, length, take, drop, refl, sym, ap, ◌∙◌, subst, arith, decimal, eqb}
use Rattle.std.proofs.Math.Seq.{drop-cons, take-append_seam}
use Rattle.std.proofs.lemmas.List.{drop_all, take_more, append_cancel_left, take-append-drop}
use Rattle.std.proofs.lemmas.Bool.{eq-eqb}
use Rattle.std.specs.Cmp.Lexicographic.{pointwise}
use Rattle.std.specs.Char.{is_ascii_digit}
use Rattle.std.specs.Str.{IsUtf8}
use Rattle.std.specs.List.{list_all}
use Rattle.std.proofs.lemmas.Fmt.{decimal_injective, IsAscii-decimal}
use Rattle.std.proofs.lemmas.Str.{IsUtf8-from_ascii}
use Rattle.hop_base.specs.Fronts.{StopsAt}
use Rattle.hop_base.proofs.Fronts.{first_passes, rest_passes, front_unique}
use Rattle.hop_base.proofs.Numerals.{decimal_digits}
use Rattle.hop_cut.specs.Numbers.{IsNumbered}

pub word_digits : (n : ℕ) → n < 2 ^ 32 → list_all is_ascii_digit (decimal n) ≡ true
word_digits n h = decimal_digits n (omega arith)

pub decimal_text : (n : ℕ) → n < 2 ^ 32 → IsUtf8 (decimal n)
decimal_text n h = IsUtf8-from_ascii (decimal n) (IsAscii-decimal n (omega arith))

module _ (test : ℕ → Bool) where
  all_more : (ds : List ℕ) (c : ℕ) → list_all test ds ≡ true → test c ≡ true → list_all test (ds ++ c ∷ []) ≡ true
  all_more [] c h k = ap (λ b. b && true) k
  all_more (d ∷ ds) c h k = ap (λ b. b && list_all test (ds ++ c ∷ [])) (first_passes test d ds h) ∙ all_more ds c (rest_passes test d ds h) k

  -- one more byte that passes
  pub front_step : (text : List ℕ) (n c : ℕ) → n < length text → c ≡ get_or text n 0 → list_all test (take n text) ≡ true → test c ≡ true → list_all test (take (n + 1) text) ≡ true
  front_step text n c l e h k = rw (take_more text n 0 l) (all_more (take n text) (get_or text n 0) h (subst (λ x. test x ≡ true) e k))

  -- the bytes that pass end at another one, or with the text
  pub front_end : (text : List ℕ) (n c : ℕ) → n < length text → c ≡ get_or text n 0 → test c ≡ false → StopsAt test (drop n text)
  front_end text n c l e k = rw (drop-cons text n 0 l) (subst (λ x. test x ≡ false) e k)

  pub front_all : (text : List ℕ) (n : ℕ) → length text ≤ n → StopsAt test (drop n text)
  front_all text n l = rw (drop_all n text l) tt

-- the digits of a numbered text are those of its number
pub number_there : (piece text after : List ℕ) (k n : ℕ) (rest : List ℕ) → text ≡ piece ++ after → list_all is_ascii_digit (take k after) ≡ true → StopsAt is_ascii_digit (drop k after) → IsNumbered piece text n rest → take k after ≡ decimal n
number_there piece text after k n rest e all ends h =
    let same : after ≡ decimal n ++ rest = append_cancel_left piece _ _ (sym e ∙ h.text_is) in
    (front_unique is_ascii_digit (take k after) (drop k after) (decimal n) rest all ends (word_digits n h.small) h.ends (take-append-drop k after ∙ same)).0

-- the number behind a piece and what follows it are determined
pub numbered_unique : (piece text : List ℕ) (n : ℕ) (r : List ℕ) (m : ℕ) (s : List ℕ) → IsNumbered piece text n r → IsNumbered piece text m s → (n ≡ m) × (r ≡ s)
numbered_unique piece text n r m s h k =
    let same : decimal n ++ r ≡ decimal m ++ s = append_cancel_left piece _ _ (sym h.text_is ∙ k.text_is) in
    let both = front_unique is_ascii_digit (decimal n) r (decimal m) s (word_digits n h.small) h.ends (word_digits m k.small) k.ends same in
    (decimal_injective n m (let b : n < 2 ^ 64 = omega (arith, h.small) in b) (let b : m < 2 ^ 64 = omega (arith, k.small) in b) both.0, both.1)

-- the piece that a text begins with
pub begins_with : (piece text rest : List ℕ) → text ≡ piece ++ rest → take (length piece) text ≡ piece
begins_with piece text rest e = ap (take (length piece)) e ∙ take-append_seam piece rest

bytes_itself : (xs : List ℕ) → pointwise eqb xs xs ≡ true
bytes_itself [] = refl
bytes_itself (x ∷ xs) = ap (λ b. b && pointwise eqb xs xs) (eq-eqb x x refl) ∙ bytes_itself xs

-- bytes that are equal are found equal
pub bytes_equal : (xs ys : List ℕ) → xs ≡ ys → pointwise eqb xs ys ≡ true
bytes_equal xs ys e = subst (λ zs. pointwise eqb xs zs ≡ true) e (bytes_itself xs)
