-- Numbers and names at the beginning of a text.
use Rattle.std.specs.Prelude.{◌≡◌, ℕ, ◌<◌, ◌^◌, ◌==◌, ◌||◌, not, Bool, List, ◌++◌, decimal}
use Rattle.std.specs.Char.{is_ascii_digit}
use Rattle.hop_base.specs.Fronts.{StopsAt}

-- a byte of a name
abbrev pub is_name_byte : ℕ → Bool
is_name_byte b = not (b == 32 || b == 10)

-- the text begins with the piece and the number, and this, which doesn't go on with a digit, follows
pub record IsNumbered (piece text : List ℕ) (n : ℕ) (rest : List ℕ) : Type 0 where
  pub small : n < 2 ^ 32
  pub ends : StopsAt is_ascii_digit rest
  pub text_is : text ≡ piece ++ (decimal n ++ rest)
