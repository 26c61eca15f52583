-- A history that grows legally names no split and no attempt that the run hasn't got.
use Rattle.std.proofs.Common.{◌≡◌, ℕ, ◌<◌, ◌≤◌, ◌&&◌, ◌⊎◌, inl, inr, Bool, true, false, eqb, None, List, [], ◌∷◌, length, refl, arith}
use Rattle.std.proofs.lemmas.Bool.{eqb-true}
use Rattle.hop_event.specs.declared.event.Event.{Event}
use Rattle.hop_event.specs.declared.event.Event.TheVariants.{Arrive, Ignore, Won, Revoked, Restart, Finish}
use Rattle.hop_event.specs.History.{same_attempt, upto, winner, is_revoked}
use Rattle.hop_event.specs.Legal.{Rules, GrowsLegally}

not_equal : (j i : ℕ) → j < i → eqb j i ≡ false
not_equal j i lt = step (eqb j i) refl
  where
    step : (b : Bool) → eqb j i ≡ b → b ≡ false
    step true e = let same : j ≡ i = eqb-true j i e in absurd (omega (arith, same, lt))
    step false e = refl

and_false : (b : Bool) → (b && false) ≡ false
and_false true = refl
and_false false = refl

module _ (rules : Rules) (p : ℕ) where
  -- the run hasn't got the split
  pub no_winner : (h : List Event) → GrowsLegally rules p h → (i : ℕ) → length rules.lens ≤ i → winner i h ≡ None
  no_winner [] legal i out = refl
  no_winner (Won j b ∷ h) legal i out =
      let within = legal.0.rule.attempt.split in
      rw (not_equal j i (omega (arith, within, out))) (no_winner h legal.1 i out)
  no_winner (Arrive part via ∷ h) legal i out = no_winner h legal.1 i out
  no_winner (Ignore part via have ∷ h) legal i out = no_winner h legal.1 i out
  no_winner (Revoked j b ∷ h) legal i out = no_winner h legal.1 i out
  no_winner (Restart ∷ h) legal i out = no_winner h legal.1 i out
  no_winner (Finish ∷ h) legal i out = no_winner h legal.1 i out

  module _ (limit : rules.attempts ≤ 16) (i a : ℕ) (out : (length rules.lens ≤ i) ⊎ (16 ≤ a)) where
    -- the run hasn't got the split or the attempt
    another : (j b : ℕ) → j < length rules.lens → b < rules.attempts → same_attempt j b i a ≡ false
    another j b split attempt =
        elim out [
          | inl le ↦ rw (not_equal j i (omega (arith, split, le))) refl
          | inr le ↦ rw (not_equal b a (omega (arith, attempt, limit, le))) (and_false (eqb j i))
        ]

    pub no_records : (h : List Event) → GrowsLegally rules p h → upto i a h ≡ 0
    no_records [] legal = refl
    no_records (Arrive part via ∷ h) legal =
        let of = legal.0.rule.0.attempt in
        rw (another part.split part.attempt of.split of.attempt) (no_records h legal.1)
    no_records (Revoked j b ∷ h) legal =
        let of = legal.0.rule.attempt in
        rw (another j b of.split of.attempt) (no_records h legal.1)
    no_records (Ignore part via have ∷ h) legal = no_records h legal.1
    no_records (Won j b ∷ h) legal = no_records h legal.1
    no_records (Restart ∷ h) legal = refl
    no_records (Finish ∷ h) legal = no_records h legal.1

    pub never_revoked : (h : List Event) → GrowsLegally rules p h → is_revoked i a h ≡ false
    never_revoked [] legal = refl
    never_revoked (Revoked j b ∷ h) legal =
        let of = legal.0.rule.attempt in
        rw (another j b of.split of.attempt) (never_revoked h legal.1)
    never_revoked (Arrive part via ∷ h) legal = never_revoked h legal.1
    never_revoked (Ignore part via have ∷ h) legal = never_revoked h legal.1
    never_revoked (Won j b ∷ h) legal = never_revoked h legal.1
    never_revoked (Restart ∷ h) legal = never_revoked h legal.1
    never_revoked (Finish ∷ h) legal = never_revoked h legal.1
