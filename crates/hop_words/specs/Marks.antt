-- The marks at which snapshots are taken, and whether these cover tentative data.
use Rattle.std.specs.Prelude.{ℕ, ◌+◌, ◌==◌, nat_le, Bool, true, false, if◌then◌else◌, List, [], ◌∷◌, length, Option, None, Some, option_map, option_and_then, codes}
use Rattle.std.specs.List.{slice_split}
use Rattle.std.specs.Str.{bytes_eq}
use Rattle.hop_words.specs.Numbers.{number_between}

-- the texts between the commas of a text, of which there is one at least
abbrev pub pieces : List ℕ → List (List ℕ)
pieces text = slice_split (λ b. b == 44) text

-- the marks that these texts write, in order, each above the one before it and the first above `low`
abbrev pub marks_above : ℕ → List (List ℕ) → Option (List ℕ)
marks_above low [] = Some []
marks_above low (text ∷ texts) =
    option_and_then (λ mark. option_map (λ marks. mark ∷ marks) (marks_above mark texts)) (number_between (low + 1) 10000 text)

-- the marks of a text: 1 to 16 of them, between commas
abbrev pub marks_of : List ℕ → Option (List ℕ)
marks_of text = if nat_le (length (pieces text)) 16 then marks_above 0 (pieces text) else None

-- the marks of an option by the values that it was given
abbrev pub marks_in : List (List ℕ) → Option (List ℕ)
marks_in [] = Some []
marks_in (value ∷ []) = marks_of value
marks_in (value ∷ other ∷ values) = None

-- what the text says
abbrev pub yes_or_no : List ℕ → Option Bool
yes_or_no text = if bytes_eq text (codes "yes") then Some true else if bytes_eq text (codes "no") then Some false else None

-- what an option says by the values that it was given
abbrev pub yes_or_no_in : Bool → List (List ℕ) → Option Bool
yes_or_no_in default [] = Some default
yes_or_no_in default (value ∷ []) = yes_or_no value
yes_or_no_in default (value ∷ other ∷ values) = None
