-- Decimal numbers.
use Rattle.std.specs.Prelude.{ℕ, ◌+◌, ◌-◌, ◌*◌, ◌==◌, ◌&&◌, nat_le, List, [], ◌∷◌, Option, None, Some, if◌then◌else◌}
use Rattle.std.specs.Char.{is_ascii_digit}

infixl 10 ◌>>=◌
-- a step that there is only behind a value
abbrev pub ◌>>=◌ : {A B : Type 0} → Option A → (A → Option B) → Option B
None >>= f = None
(Some x) >>= f = f x

-- what the digits spell behind a number, if they are digits
abbrev pub decimal_from : ℕ → List ℕ → Option ℕ
decimal_from n [] = Some n
decimal_from n (c ∷ cs) = if is_ascii_digit c then decimal_from (n * 10 + (c - 48)) cs else None

-- what the digits spell, if they are one or more digits, of which only a lone one may begin with 0
abbrev pub decimal_of : List ℕ → Option ℕ
decimal_of [] = None
decimal_of (c ∷ []) = decimal_from 0 (c ∷ [])
decimal_of (c ∷ d ∷ ds) = if c == 48 then None else decimal_from 0 (c ∷ d ∷ ds)

-- a number that is in a range
abbrev pub in_range : ℕ → ℕ → Option ℕ → Option ℕ
in_range low high None = None
in_range low high (Some n) = if nat_le low n && nat_le n high then Some n else None

-- the number from `low` to `high` that the digits spell
abbrev pub number_of : ℕ → ℕ → List ℕ → Option ℕ
number_of low high digits = in_range low high (decimal_of digits)
