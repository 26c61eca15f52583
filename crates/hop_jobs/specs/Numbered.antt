-- A record read at its last tab: a key, and a number in decimal digits.
use Rattle.std.specs.Prelude.{ℕ, Bool, ◌+◌, ◌-◌, ◌*◌, ◌^◌, ◌==◌, ◌&&◌, List, [], ◌∷◌, length, nat_lt, nat_le, Option, Some, None, if◌then◌else◌}
use Rattle.std.specs.List.{list_all}
use Rattle.hop_base.specs.declared.value.Pair.{Pair}
use Rattle.hop_jobs.specs.Adding.{number}

-- the number that n and these digits spell
abbrev pub spelled : ℕ → List ℕ → ℕ
spelled n [] = n
spelled n (d ∷ ds) = spelled (10 * n + (d - 48)) ds

-- a decimal digit
abbrev pub is_digit : ℕ → Bool
is_digit d = nat_le 48 d && nat_le d 57

-- 1 to 20 digits that spell a number below 2^64
abbrev pub is_number : List ℕ → Bool
is_number ds = nat_le 1 (length ds) && (nat_le (length ds) 20 && (list_all is_digit ds && nat_lt (spelled 0 ds) (2 ^ 64)))

-- the number, if it is one
abbrev pub number_of : List ℕ → Option ℕ
number_of ds = if is_number ds then Some (spelled 0 ds) else None

-- what stands before and after the last tab of b and bs, by that of bs
abbrev pub tab_before : ℕ → List ℕ → Option (List ℕ × List ℕ) → Option (List ℕ × List ℕ)
tab_before b bs (Some (key, digits)) = Some (b ∷ key, digits)
tab_before b bs None = if b == 9 then Some ([], bs) else None

-- what stands before and after the last tab
abbrev pub at_last_tab : List ℕ → Option (List ℕ × List ℕ)
at_last_tab [] = None
at_last_tab (b ∷ bs) = tab_before b bs (at_last_tab bs)

-- the key with its number, if there is one
abbrev pub key_and_number : List ℕ → Option ℕ → List Pair
key_and_number key None = []
key_and_number key (Some n) = record { key = key; val = number n } ∷ []

-- the pair of a key and the digits behind it, if they are a number
abbrev pub numbered_at : Option (List ℕ × List ℕ) → List Pair
numbered_at None = []
numbered_at (Some (key, digits)) = key_and_number key (number_of digits)

-- the key with its number, or nothing
abbrev pub numbered_emits : List ℕ → List Pair
numbered_emits line = numbered_at (at_last_tab line)
