-- Lines are told by their text.
use Rattle.std.proofs.Common.{◌≡◌, ◌≢◌, ℕ, ◌<◌, ◌==◌, ◌&&◌, ◌||◌, not, Bool, true, false, List, [], ◌∷◌, ◌++◌, length, refl, sym, ap, ◌∙◌, arith, append_assoc, length-append, decimal}
use Rattle.std.specs.Char.{is_ascii_digit}
use Rattle.std.specs.List.{list_all, AllByRecursion}
use Rattle.std.proofs.lemmas.Bool.{true≢false}
use Rattle.std.proofs.lemmas.Bool.Decides.{nat_tests}
use Rattle.std.proofs.lemmas.List.Elements.{recursion_from_All}
use Rattle.hop_base.proofs.Fronts.{first_passes, rest_passes, front_unique}
use Rattle.hop_base.proofs.Numerals.{decimal_digits}
use Rattle.hop_laws.specs.Laws.{IsName}
use Rattle.hop_event.specs.declared.event.Via.{Via}
use Rattle.hop_event.specs.declared.event.Via.TheVariants.{Lane, Late, Pull}
use Rattle.hop_trace.specs.Trace.{via_text, line_text, text_of}
use Rattle.hop_trace.specs.Told.{IsToldNumber, IsToldVia}

-- a byte of a word
abbrev pub is_inner : ℕ → Bool
is_inner b = not (b == 32 || b == 10)

abbrev pub IsWord : List ℕ → Type 0
IsWord word = list_all is_inner word ≡ true

-- one or more words
abbrev pub IsLine : List (List ℕ) → Type 0
IsLine [] = ⊥
IsLine (word ∷ words) = AllByRecursion IsWord (word ∷ words)

digit_inner : (b : ℕ) → is_ascii_digit b ≡ true → is_inner b ≡ true
digit_inner b h = grind (arith, nat_tests)

digits_word : (ds : List ℕ) → list_all is_ascii_digit ds ≡ true → IsWord ds
digits_word [] h = refl
digits_word (d ∷ ds) h = ap (λ b. b && list_all is_inner ds) (digit_inner d (first_passes is_ascii_digit d ds h)) ∙ digits_word ds (rest_passes is_ascii_digit d ds h)

pub number_word : (n : ℕ) → IsToldNumber n → IsWord (decimal n)
number_word n h = digits_word (decimal n) (decimal_digits n h)

pub via_word : (v : Via) → IsToldVia v → IsWord (via_text v)
via_word (Lane w) h = number_word w h
via_word (Late w) h = number_word w h
via_word Pull h = refl

name_inner : (b : ℕ) → b ≢ 10 → b ≢ 32 → is_inner b ≡ true
name_inner b h k = grind (arith, nat_tests)

bytes_word : (name : List ℕ) → AllByRecursion (λ b. b ≢ 10) name → AllByRecursion (λ b. b ≢ 32) name → IsWord name
bytes_word [] h k = refl
bytes_word (b ∷ name) h k = ap (λ t. t && list_all is_inner name) (name_inner b h.0 k.0) ∙ bytes_word name h.1 k.1

pub name_word : (name : List ℕ) → IsName name → IsWord name
name_word name h = bytes_word name (recursion_from_All (λ b. b ≢ 10) name h.no_line_feed) (recursion_from_All (λ b. b ≢ 32) name h.no_space)

pub same_lists : {A : Type 0} (x y : A) (xs ys : List A) → x ≡ y → xs ≡ ys → x ∷ xs ≡ y ∷ ys
same_lists x y xs ys h k = ap (λ z. z ∷ xs) h ∙ ap (λ zs. y ∷ zs) k

same_first : (b c : ℕ) (r s : List ℕ) → b ∷ r ≡ c ∷ s → b ≡ c
same_first b c r s e = cc

same_rest : (b c : ℕ) (r s : List ℕ) → b ∷ r ≡ c ∷ s → r ≡ s
same_rest b c r s e = cc

-- the word that a text begins with, what ends it, and what follows, are determined
word_seam : (w v : List ℕ) (b c : ℕ) (r s : List ℕ) → IsWord w → IsWord v → is_inner b ≡ false → is_inner c ≡ false → (w ++ b ∷ []) ++ r ≡ (v ++ c ∷ []) ++ s → (w ≡ v) × (b ≡ c) × (r ≡ s)
word_seam w v b c r s h k i j e =
    let both = front_unique is_inner w (b ∷ r) v (c ∷ s) h i k j (sym (append_assoc w (b ∷ []) r) ∙ e ∙ append_assoc v (c ∷ []) s) in
    (both.0, same_first b c r s both.1, same_rest b c r s both.1)

-- the line's end, or a space
abbrev end_of : List (List ℕ) → ℕ
end_of [] = 10
end_of (word ∷ words) = 32

-- the words behind the first
abbrev more_text : List (List ℕ) → List ℕ
more_text [] = []
more_text (word ∷ words) = line_text (word ∷ words)

line_parts : (w : List ℕ) (ws : List (List ℕ)) (r : List ℕ) → line_text (w ∷ ws) ++ r ≡ (w ++ end_of ws ∷ []) ++ (more_text ws ++ r)
line_parts w [] r = refl
line_parts w (w' ∷ ws) r = append_assoc w (32 ∷ line_text (w' ∷ ws)) r ∙ sym (append_assoc w (32 ∷ []) (line_text (w' ∷ ws) ++ r))

end_ends : (ws : List (List ℕ)) → is_inner (end_of ws) ≡ false
end_ends [] = refl
end_ends (w ∷ ws) = refl

first_seam : (w v : List ℕ) (ws vs : List (List ℕ)) (r s : List ℕ) → IsWord w → IsWord v → line_text (w ∷ ws) ++ r ≡ line_text (v ∷ vs) ++ s → (w ≡ v) × (end_of ws ≡ end_of vs) × (more_text ws ++ r ≡ more_text vs ++ s)
first_seam w v ws vs r s h k e = word_seam w v (end_of ws) (end_of vs) (more_text ws ++ r) (more_text vs ++ s) h k (end_ends ws) (end_ends vs) (sym (line_parts w ws r) ∙ e ∙ line_parts v vs s)

-- the words behind the first and what follows their line are determined
words_seam : (ws vs : List (List ℕ)) (r s : List ℕ) → AllByRecursion IsWord ws → AllByRecursion IsWord vs → end_of ws ≡ end_of vs → more_text ws ++ r ≡ more_text vs ++ s → (ws ≡ vs) × (r ≡ s)
words_seam [] [] r s h k i e = (refl, e)
words_seam [] (v ∷ vs) r s h k i e = absurd (true≢false (ap (λ b. b == 10) i))
words_seam (w ∷ ws) [] r s h k i e = absurd (true≢false (ap (λ b. b == 32) i))
words_seam (w ∷ ws) (v ∷ vs) r s h k i e =
    let first = first_seam w v ws vs r s h.0 k.0 e in
    let later = words_seam ws vs r s h.1 k.1 first.1 first.2 in
    (same_lists w v ws vs first.0 later.0, later.1)

-- the line that a text begins with, and what follows it, are determined
line_seam : (ws vs : List (List ℕ)) (r s : List ℕ) → IsLine ws → IsLine vs → line_text ws ++ r ≡ line_text vs ++ s → (ws ≡ vs) × (r ≡ s)
line_seam [] vs r s h k e = absurd h
line_seam (w ∷ ws) [] r s h k e = absurd k
line_seam (w ∷ ws) (v ∷ vs) r s h k e = words_seam (w ∷ ws) (v ∷ vs) r s h k refl e

line_some : (ws : List (List ℕ)) → 0 < length (line_text ws)
line_some [] = omega arith
line_some (w ∷ []) = omega (arith, length-append w (10 ∷ []))
line_some (w ∷ v ∷ ws) = omega (arith, length-append w (32 ∷ line_text (v ∷ ws)))

no_line : (ws : List (List ℕ)) (r : List ℕ) → [] ≡ line_text ws ++ r → ⊥
no_line ws r e =
    let none : 0 ≡ length (line_text ws ++ r) = ap length e in
    absurd (omega (arith, none, length-append (line_text ws) r, line_some ws))

-- lines are told by their text
pub lines_told : (xs ys : List (List (List ℕ))) → AllByRecursion IsLine xs → AllByRecursion IsLine ys → text_of xs ≡ text_of ys → xs ≡ ys
lines_told [] [] h k e = refl
lines_told [] (y ∷ ys) h k e = absurd (no_line y (text_of ys) e)
lines_told (x ∷ xs) [] h k e = absurd (no_line x (text_of xs) (sym e))
lines_told (x ∷ xs) (y ∷ ys) h k e =
    let both = line_seam x y (text_of xs) (text_of ys) h.0 k.0 e in
    same_lists x y xs ys both.0 (lines_told xs ys h.1 k.1 both.1)
