-- Numbers only grow by further digits.
use Rattle.std.proofs.Common.{◌≡◌, ℕ, ◌+◌, ◌-◌, ◌*◌, ◌<◌, true, false, ◌&&◌, cond, List, [], ◌∷◌, None, Some, refl, arith}
use Rattle.std.specs.Prelude.{nat_le}
use Rattle.std.specs.Char.{is_ascii_digit}
use Rattle.std.proofs.lemmas.Bool.{lt-leb}
use Rattle.hop_script.specs.Number.{decimal_from, in_range}

-- too great already
pub too_great : (low high n : ℕ) (ds : List ℕ) → high < n → in_range low high (decimal_from n ds) ≡ None
too_great low high n [] above =
    let no : nat_le n high ≡ false = lt-leb n high above in
    elim (nat_le low n) as (λ b. cond (b && nat_le n high) (Some n) None ≡ None) [ true ↦ rw no refl | false ↦ refl ]
too_great low high n (d ∷ ds) above =
    elim (is_ascii_digit d) as (λ b. in_range low high (cond b (decimal_from (n * 10 + (d - 48)) ds) None) ≡ None) [
      | true ↦ too_great low high (n * 10 + (d - 48)) ds (omega arith)
      | false ↦ refl
    ]
