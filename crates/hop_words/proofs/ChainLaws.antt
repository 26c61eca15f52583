-- The words of a chain, and its jobs, which are read one after the other.
use Rattle.std.proofs.Common.{◌≡◌, ℕ, ◌-◌, ◌<◌, ◌≤◌, List, [], ◌∷◌, ◌++◌, length, map, take, drop, slice_index_or, None, refl, Bor, arith}
use Rattle.std.specs.Prelude.{Option, option_map}
use Rattle.hop_base.specs.Meaning.{Meaning}
use Rattle.hop_words.specs.Options.{asked_plainly, chain_asked}

-- these jobs and those that others name
abbrev pub with_jobs : List Meaning → Option (List Meaning) → Option (List Meaning)
with_jobs jobs others = option_map (λ more. jobs ++ more) others

-- ---- how many words a command has

abbrev now : Bor (List ℕ) → List ℕ
now word = word.now

module _ (k : ℕ) where
  pub few_words : (plain : List (Bor (List ℕ))) → length plain < 4 → (length plain ≡ 3 → ⊥) → asked_plainly k (map now plain) ≡ None
  few_words [] few other = refl
  few_words (a ∷ []) few other = refl
  few_words (a ∷ b ∷ []) few other = refl
  few_words (a ∷ b ∷ c ∷ []) few other = absurd (other refl)
  few_words (a ∷ b ∷ c ∷ d ∷ plain) few other = absurd (omega (arith, few))

  pub many_words : (plain : List (Bor (List ℕ))) → 6 < length plain → asked_plainly k (map now plain) ≡ None
  many_words [] many = absurd (omega (arith, many))
  many_words (a ∷ []) many = absurd (omega (arith, many))
  many_words (a ∷ b ∷ []) many = absurd (omega (arith, many))
  many_words (a ∷ b ∷ c ∷ []) many = absurd (omega (arith, many))
  many_words (a ∷ b ∷ c ∷ d ∷ []) many = absurd (omega (arith, many))
  many_words (a ∷ b ∷ c ∷ d ∷ e ∷ []) many = absurd (omega (arith, many))
  many_words (a ∷ b ∷ c ∷ d ∷ e ∷ f ∷ []) many = absurd (omega (arith, many))
  many_words (a ∷ b ∷ c ∷ d ∷ e ∷ f ∷ g ∷ plain) many = refl

  -- the first word, those between, and the last
  pub chain_words : (plain : List (Bor (List ℕ))) (other : Bor (List ℕ)) → 4 ≤ length plain → length plain ≤ 6 → asked_plainly k (map now plain) ≡ chain_asked k (slice_index_or plain 0 other).now (map now (take (length plain - 1 - 1) (drop 1 plain))) (slice_index_or plain (length plain - 1) other).now
  chain_words [] other some few = absurd (omega (arith, some))
  chain_words (a ∷ []) other some few = absurd (omega (arith, some))
  chain_words (a ∷ b ∷ []) other some few = absurd (omega (arith, some))
  chain_words (a ∷ b ∷ c ∷ []) other some few = absurd (omega (arith, some))
  chain_words (a ∷ b ∷ c ∷ d ∷ []) other some few = refl
  chain_words (a ∷ b ∷ c ∷ d ∷ e ∷ []) other some few = refl
  chain_words (a ∷ b ∷ c ∷ d ∷ e ∷ f ∷ []) other some few = refl
  chain_words (a ∷ b ∷ c ∷ d ∷ e ∷ f ∷ g ∷ plain) other some few = absurd (omega (arith, few))
