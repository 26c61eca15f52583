-- Records that are read at their last tab: what they emit is within the limits.
use Rattle.std.proofs.Common.{◌≡◌, ℕ, ◌+◌, ◌^◌, ◌<◌, ◌≤◌, Bool, true, false, cond, ◌&&◌, List, [], ◌∷◌, length, Option, Some, None, refl, subst, arith}
use Rattle.std.specs.Prelude.{nat_lt, nat_le, ◌==◌}
use Rattle.std.specs.List.{list_all}
use Rattle.std.proofs.lemmas.List.Elements.{All-nil, All-cons}
use Rattle.std.proofs.lemmas.Bool.{false≢true, ltb-true}
use Rattle.hop_base.specs.declared.value.Pair.{Pair}
use Rattle.hop_base.specs.Order.{IsValidPair}
use Rattle.hop_laws.specs.Laws.{EmitsWell}
use Rattle.hop_jobs.specs.Numbered.{spelled, is_digit, is_number, number_of, tab_before, at_last_tab, key_and_number, numbered_at, numbered_emits}

-- the key is shorter than the line
abbrev IsShortKey : ℕ → Option (List ℕ × List ℕ) → Type 0
IsShortKey n None = Unit {0}
IsShortKey n (Some (key, digits)) = length key ≤ n

short_step : (b n : ℕ) (bs : List ℕ) (o : Option (List ℕ × List ℕ)) → IsShortKey n o → IsShortKey (n + 1) (tab_before b bs o)
short_step b n bs (Some (key, digits)) h = omega arith
short_step b n bs None h = short_at (b == 9)
  where
    short_at : (t : Bool) → IsShortKey (n + 1) (cond t (Some ([], bs)) None)
    short_at true = omega arith
    short_at false = tt

short_key : (line : List ℕ) → IsShortKey (length line) (at_last_tab line)
short_key [] = tt
short_key (b ∷ bs) = let e : length bs + 1 ≡ length (b ∷ bs) = omega arith in subst (λ n. IsShortKey n (tab_before b bs (at_last_tab bs))) e (short_step b (length bs) bs (at_last_tab bs) (short_key bs))

abbrev IsSmall : Option ℕ → Type 0
IsSmall None = Unit {0}
IsSmall (Some n) = n < 2 ^ 64

and_last : (a b c d : Bool) → (a && (b && (c && d))) ≡ true → d ≡ true
and_last true true true d e = e
and_last false b c d e = absurd (false≢true e)
and_last true false c d e = absurd (false≢true e)
and_last true true false d e = absurd (false≢true e)

small_number : (ds : List ℕ) (t : Bool) → is_number ds ≡ t → IsSmall (cond t (Some (spelled 0 ds)) None)
small_number ds true e = ltb-true (spelled 0 ds) (2 ^ 64) (and_last (nat_le 1 (length ds)) (nat_le (length ds) 20) (list_all is_digit ds) (nat_lt (spelled 0 ds) (2 ^ 64)) e)
small_number ds false e = tt

emits_one : (line key : List ℕ) (o : Option ℕ) → length line ≤ 131050 → length key ≤ length line → IsSmall o → EmitsWell line (key_and_number key o)
emits_one line key None short le small = record { few = omega arith; valid = All-nil IsValidPair; keys = All-nil (λ (p : Pair). length p.key ≤ length line); texts = All-nil (λ (p : Pair). length p.val.s ≤ length line) }
emits_one line key (Some n) short le small = record {
  few = omega arith;
  valid = All-cons IsValidPair _ [] (record { key = omega arith; value = record { number = small; text = omega arith } }) (All-nil IsValidPair);
  keys = All-cons (λ (p : Pair). length p.key ≤ length line) _ [] le (All-nil (λ (p : Pair). length p.key ≤ length line));
  texts = All-cons (λ (p : Pair). length p.val.s ≤ length line) _ [] (omega arith) (All-nil (λ (p : Pair). length p.val.s ≤ length line));
}

emits_at : (line : List ℕ) (o : Option (List ℕ × List ℕ)) → length line ≤ 131050 → IsShortKey (length line) o → EmitsWell line (numbered_at o)
emits_at line None short h = emits_one line [] None short (omega arith) tt
emits_at line (Some (key, digits)) short h = emits_one line key (number_of digits) short h (small_number digits (is_number digits) refl)

pub numbered_emits_well : (line : List ℕ) → length line ≤ 131050 → EmitsWell line (numbered_emits line)
numbered_emits_well line short = emits_at line (at_last_tab line) short (short_key line)
