-- The numbers on a command line.
use Rattle.std.specs.Prelude.{ℕ, List, [], ◌∷◌, length, Bool, not, ◌&&◌, ◌==◌, nat_le, if◌then◌else◌, Option, None, Some}
use Rattle.std.specs.Char.{is_ascii_digit}
use Rattle.std.specs.List.{list_all}
use Rattle.std.specs.Str.Parse.{digits_value}

-- 1 to 20 digits
abbrev pub is_number : List ℕ → Bool
is_number text = not (length text == 0) && nat_le (length text) 20 && list_all is_ascii_digit text

-- the number, where it lies between these two
abbrev pub within : ℕ → ℕ → ℕ → Option ℕ
within least most number = if nat_le least number && nat_le number most then Some number else None

-- the number that the text writes, where it is one and lies between these two
abbrev pub number_between : ℕ → ℕ → List ℕ → Option ℕ
number_between least most text = if is_number text then within least most (digits_value 10 text) else None

-- the number of an option by the values that it was given
abbrev pub number_in : ℕ → ℕ → ℕ → List (List ℕ) → Option ℕ
number_in least most default [] = Some default
number_in least most default (value ∷ []) = number_between least most value
number_in least most default (value ∷ other ∷ values) = None
