-- The names of files on a command line.
use Rattle.std.specs.Prelude.{ℕ, List, [], ◌∷◌, length, Bool, false, ◌&&◌, ◌||◌, nat_eq, nat_le, if◌then◌else◌, Option, None, Some}
use Rattle.std.specs.List.{list_all}

abbrev pub is_between : ℕ → ℕ → ℕ → Bool
is_between low high c = nat_le low c && nat_le c high

-- a letter or a digit
abbrev pub is_alphanumeric : ℕ → Bool
is_alphanumeric c = is_between 48 57 c || is_between 65 90 c || is_between 97 122 c

-- a letter, a digit, a dot, an underscore or a dash
abbrev pub is_name_byte : ℕ → Bool
is_name_byte c = is_alphanumeric c || nat_eq c 46 || nat_eq c 95 || nat_eq c 45

-- a letter, a digit or an underscore is first
abbrev pub begins_name : List ℕ → Bool
begins_name [] = false
begins_name (c ∷ cs) = is_alphanumeric c || nat_eq c 95

-- the name of a file
abbrev pub is_name : List ℕ → Bool
is_name text = begins_name text && list_all is_name_byte text && nat_le (length text) 100

-- the name that an option gives, where it is given, by the values that it was given; nothing where there are two, or one that is
-- no name
abbrev pub name_in : List (List ℕ) → Option (Option (List ℕ))
name_in [] = Some None
name_in (value ∷ []) = if is_name value then Some (Some value) else None
name_in (value ∷ other ∷ values) = None
