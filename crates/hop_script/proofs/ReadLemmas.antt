-- Reading one more line of a text.
use Rattle.std.proofs.Common.{◌≡◌, ℕ, zero, suc, ◌+◌, ◌-◌, ◌<◌, ◌≤◌, Bool, true, false, List, [], ◌∷◌, ◌++◌, length, take, drop, get_or, Option, None, Some, refl, ap, ◌∙◌, arith}
use Rattle.std.specs.Prelude.{find, option_map}
use Rattle.std.specs.List.{range_with_len, filter_map}
use Rattle.std.proofs.lemmas.List.Elements.{filter_map-append}
use Rattle.hop_script.specs.Text.{first_of_lines}

module _ {X : Type 0} where
  -- the item behind the first n
  pub record IsNext (xs : List X) (n : ℕ) (y : X) (ys : List X) : Type 0 where
    pub within : n < length xs
    pub here : (d : X) → get_or xs n d ≡ y
    pub taken : take (n + 1) xs ≡ take n xs ++ y ∷ []
    pub rest : drop (n + 1) xs ≡ ys

  -- what stands first behind n items is item n
  pub next_item : (xs : List X) (n : ℕ) (y : X) (ys : List X) → drop n xs ≡ y ∷ ys → IsNext xs n y ys
  next_item [] zero y ys is = cc
  next_item [] (suc n) y ys is = cc
  next_item (x ∷ xs) zero y ys is =
      let head : x ≡ y = cc in
      let tail : xs ≡ ys = cc in
      record { within = omega arith; here = λ d. head; taken = ap (λ z. z ∷ []) head; rest = tail }
  next_item (x ∷ xs) (suc n) y ys is =
      let later = next_item xs n y ys is in
      let next : suc n + 1 ≡ suc (n + 1) = omega arith in
      record { within = omega (arith, later.within); here = later.here; taken = rw next (ap (λ zs. x ∷ zs) later.taken); rest = rw next later.rest }

  -- nothing stands behind n items
  pub no_item : (xs : List X) (n : ℕ) → drop n xs ≡ [] → length xs ≤ n
  no_item [] n is = omega arith
  no_item (x ∷ xs) zero is = cc
  no_item (x ∷ xs) (suc n) is = omega (arith, no_item xs n is)

module _ (bad : ℕ → Bool) (count : ℕ) where
  -- no line before line n is bad
  abbrev pub GoodBefore : ℕ → Type 0
  GoodBefore n = find bad (range_with_len 0 count) ≡ find bad (range_with_len n (count - n))

  range_more : (n : ℕ) → n < count → range_with_len n (count - n) ≡ n ∷ range_with_len (n + 1) (count - (n + 1))
  range_more n within = let more : count - n ≡ suc (count - (n + 1)) = omega arith in rw more refl

  -- none before the first
  pub good_before_first : GoodBefore 0
  good_before_first = let whole : count - 0 ≡ count = omega arith in rw whole refl

  -- one more good line
  pub good_before_next : (n : ℕ) → n < count → bad n ≡ false → GoodBefore n → GoodBefore (n + 1)
  good_before_next n within good before = before ∙ rw (range_more n within, good) refl

  -- the first bad line
  pub first_bad_line : (n : ℕ) → n < count → bad n ≡ true → GoodBefore n → first_of_lines bad count ≡ Some (n + 1)
  first_bad_line n within is before =
      let found : find bad (range_with_len n (count - n)) ≡ Some n = rw (range_more n within, is) refl in
      ap (option_map (λ k. k + 1)) (before ∙ found)

  -- no bad line
  pub no_bad_line : (n : ℕ) → count ≤ n → GoodBefore n → first_of_lines bad count ≡ None
  no_bad_line n done before =
      let none : count - n ≡ 0 = omega arith in
      let found : find bad (range_with_len n (count - n)) ≡ None = rw none refl in
      ap (option_map (λ k. k + 1)) (before ∙ found)

module _ {X : Type 0} where
  -- one more line that says something
  pub given-push : (said : List (Option X)) (x : X) → filter_map (λ (o : Option X). o) (said ++ Some x ∷ []) ≡ filter_map (λ (o : Option X). o) said ++ x ∷ []
  given-push said x = filter_map-append (λ (o : Option X). o) said (Some x ∷ [])
