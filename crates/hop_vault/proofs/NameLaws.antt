-- The name of a spill's file tells its split, its attempt and where it begins.
use Rattle.std.proofs.Common.{◌≡◌, ℕ, ◌<◌, ◌^◌, true, List, ◌∷◌, ◌++◌, refl, arith, decimal}
use Rattle.std.specs.Prelude.{codes}
use Rattle.std.specs.Char.{is_ascii_digit}
use Rattle.std.specs.List.{list_all}
use Rattle.std.proofs.lemmas.List.{append_cancel_left}
use Rattle.std.proofs.lemmas.Fmt.{decimal_injective}
use Rattle.hop_base.proofs.Fronts.{front_unique}
use Rattle.hop_base.proofs.Numerals.{decimal_digits}
use Rattle.hop_spill.specs.SpillFiles.{name_of}

-- digits up to a dash are determined
up_to_dash : (ds es r s : List ℕ) → list_all is_ascii_digit ds ≡ true → list_all is_ascii_digit es ≡ true → ds ++ 45 ∷ r ≡ es ++ 45 ∷ s → (ds ≡ es) × (r ≡ s)
up_to_dash ds es r s h k e =
    let both = front_unique is_ascii_digit ds (45 ∷ r) es (45 ∷ s) h refl k refl e in
    (both.0, cc)

-- a number up to a dash is determined
number_up_to_dash : (m n : ℕ) (r s : List ℕ) → m < 2 ^ 32 → n < 2 ^ 32 → decimal m ++ 45 ∷ r ≡ decimal n ++ 45 ∷ s → (m ≡ n) × (r ≡ s)
number_up_to_dash m n r s h k e =
    let m_fits : m < 2 ^ 64 = omega (arith, h) in
    let n_fits : n < 2 ^ 64 = omega (arith, k) in
    let both = up_to_dash (decimal m) (decimal n) r s (decimal_digits m m_fits) (decimal_digits n n_fits) e in
    (decimal_injective m n m_fits n_fits both.0, both.1)

pub name_tells : (i a f j b g : ℕ) → i < 2 ^ 32 → a < 2 ^ 32 → f < 2 ^ 32 → j < 2 ^ 32 → b < 2 ^ 32 → g < 2 ^ 32 → name_of i a f ≡ name_of j b g → (i ≡ j) × (a ≡ b) × (f ≡ g)
name_tells i a f j b g hi ha hf hj hb hg e =
    let rest : decimal i ++ 45 ∷ (decimal a ++ 45 ∷ decimal f) ≡ decimal j ++ 45 ∷ (decimal b ++ 45 ∷ decimal g) = append_cancel_left (codes "s-") _ _ e in
    let split = number_up_to_dash i j (decimal a ++ 45 ∷ decimal f) (decimal b ++ 45 ∷ decimal g) hi hj rest in
    let attempt = number_up_to_dash a b (decimal f) (decimal g) ha hb split.1 in
    let f_fits : f < 2 ^ 64 = omega (arith, hf) in
    let g_fits : g < 2 ^ 64 = omega (arith, hg) in
    (split.0, attempt.0, decimal_injective f g f_fits g_fits attempt.1)
