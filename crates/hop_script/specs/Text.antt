-- Texts cut into lines, and lines into words.
use Rattle.std.specs.Prelude.{ℕ, ◌+◌, ◌==◌, nat_eq, Bool, List, [], ◌∷◌, Option, None, Some, option_map, find, if◌then◌else◌}
use Rattle.std.specs.List.{slice_split, range_with_len}

-- the first line with one more byte at its front
abbrev pub with_byte : ℕ → List (Option (List ℕ)) → List (Option (List ℕ))
with_byte c [] = None ∷ []
with_byte c (line ∷ lines) = option_map (λ bytes. c ∷ bytes) line ∷ lines

-- the lines of a text without their line feeds, and None for a last one that no line feed ends
abbrev pub lines_of : List ℕ → List (Option (List ℕ))
lines_of [] = []
lines_of (c ∷ cs) = if nat_eq c 10 then Some [] ∷ lines_of cs else with_byte c (lines_of cs)

-- the words of a line: what stands before, between and behind its spaces
abbrev pub words_of : List ℕ → List (List ℕ)
words_of line = slice_split (λ c. c == 32) line

-- the words, if they are two
abbrev pub two_of : List (List ℕ) → Option (List ℕ × List ℕ)
two_of (a ∷ b ∷ []) = Some (a, b)
two_of words = None

-- the words, if they are three
abbrev pub three_of : List (List ℕ) → Option (List ℕ × List ℕ × List ℕ)
three_of (a ∷ b ∷ c ∷ []) = Some (a, b, c)
three_of words = None

-- the number, counted from 1, of the first of so many lines that is bad, where the test takes numbers from 0
abbrev pub first_of_lines : (ℕ → Bool) → ℕ → Option ℕ
first_of_lines bad count = option_map (λ k. k + 1) (find bad (range_with_len 0 count))
