-- Where the first record of some bytes ends.
use Rattle.std.proofs.Common.{◌≡◌, ℕ, suc, ◌+◌, ◌<◌, true, List, [], ◌∷◌, length, take, drop, ap, ◌∙◌, arith, nat_eq, get_or}
use Rattle.std.proofs.lemmas.Bool.{false_from_ne_true}
use Rattle.hop_records.proofs.Cuts.{records_of-line, records_of-last}
use Rattle.hop_records.specs.Records.{records_of}

-- up to a line feed
pub first_of_lines : (xs : List ℕ) (k : ℕ) → k < length xs → ((j : ℕ) → j < k → ¬ (nat_eq (get_or xs j 0) 10 ≡ true)) → nat_eq (get_or xs k 0) 10 ≡ true → records_of xs ≡ take k xs ∷ records_of (drop (k + 1) xs)
first_of_lines xs k within none here =
    let s : suc k ≡ k + 1 = omega arith in
    records_of-line xs k within (λ j lt. false_from_ne_true _ (none j lt)) here ∙ ap (λ n. take k xs ∷ records_of (drop n xs)) s

-- with no line feed
pub only_line : (xs : List ℕ) → 0 < length xs → ((j : ℕ) → j < length xs → ¬ (nat_eq (get_or xs j 0) 10 ≡ true)) → records_of xs ≡ xs ∷ []
only_line xs some none = records_of-last xs some (λ j lt. false_from_ne_true _ (none j lt))
