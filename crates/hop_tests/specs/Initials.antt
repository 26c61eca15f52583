-- A job of the tests, which counts records by their first byte.
use Rattle.std.specs.Prelude.{ℕ, ◌≤◌, ◌≢◌, List, [], ◌∷◌, length, take, codes}
use Rattle.std.proofs.Common.{arith}
use Rattle.std.proofs.lemmas.List.{length-take}
use Rattle.std.proofs.lemmas.List.Elements.{All-nil, All-cons, All-from_recursion}
use Rattle.hop_base.specs.declared.value.Pair.{Pair}
use Rattle.hop_base.specs.Meaning.{Meaning}
use Rattle.hop_base.specs.Order.{IsValidPair}
use Rattle.hop_jobs.specs.Adding.{number, sum_combined, sum_reduced}
use Rattle.hop_jobs.specs.AddingLaws.{sum_combines_well, sum_reduces_alike, sum_writes_lines}
use Rattle.hop_laws.specs.Laws.{EmitsWell, IsName, IsLawful}

-- the first byte, or nothing of an empty record, with the number 1
abbrev pub initial_emits : List ℕ → List Pair
initial_emits line = record { key = take 1 line; val = number 1 } ∷ []

-- records are counted by their first byte
abbrev pub initials_meaning : Meaning
initials_meaning = record { name = codes "initials"; emits = initial_emits; combined = sum_combined; reduced = sum_reduced }

initials_named : IsName (codes "initials")
initials_named = record {
  some = omega arith;
  no_line_feed = All-from_recursion (λ b. b ≢ 10) (codes "initials") ((λ e. omega (arith, e)), ((λ e. omega (arith, e)), ((λ e. omega (arith, e)), ((λ e. omega (arith, e)), ((λ e. omega (arith, e)), ((λ e. omega (arith, e)), ((λ e. omega (arith, e)), ((λ e. omega (arith, e)), tt))))))));
  no_space = All-from_recursion (λ b. b ≢ 32) (codes "initials") ((λ e. omega (arith, e)), ((λ e. omega (arith, e)), ((λ e. omega (arith, e)), ((λ e. omega (arith, e)), ((λ e. omega (arith, e)), ((λ e. omega (arith, e)), ((λ e. omega (arith, e)), ((λ e. omega (arith, e)), tt))))))));
}

initial_emits_well : (line : List ℕ) → length line ≤ 131050 → EmitsWell line (initial_emits line)
initial_emits_well line short = record {
  few = omega arith;
  valid = All-cons IsValidPair _ [] (record { key = omega (arith, length-take 1 line); value = record { number = omega arith; text = omega arith } }) (All-nil IsValidPair);
  keys = All-cons (λ (p : Pair). length p.key ≤ length line) _ [] (omega (arith, length-take 1 line)) (All-nil (λ (p : Pair). length p.key ≤ length line));
  texts = All-cons (λ (p : Pair). length p.val.s ≤ length line) _ [] (omega arith) (All-nil (λ (p : Pair). length p.val.s ≤ length line));
}

pub initials_lawful : IsLawful initials_meaning
initials_lawful = record {
  named = initials_named;
  emits_well = initial_emits_well;
  combines_well = sum_combines_well;
  reduces_alike = sum_reduces_alike;
  writes_lines = sum_writes_lines;
}
