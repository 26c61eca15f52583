-- The attempt with the most records is found by going through the attempts once.
use Rattle.std.proofs.Common.{◌≡◌, ℕ, zero, suc, ◌+◌, ◌<◌, ◌≤◌, Bool, true, false, Option, Some, None, refl, subst, arith, add-one, nat_lt}
use Rattle.std.proofs.lemmas.Bool.Decides.{nat_tests}
use Rattle.hop_event.specs.declared.declared.Declared.{Declared}
use Rattle.hop_event.specs.Coverage.{leader, records_of, IsLeader, Leads}
use Rattle.hop_event.proofs.CoverageLaws.{leader_none, leader_taken, leader_kept}

-- an attempt below one more is below, or the last
below_or_last : (P : ℕ → Type 0) (n b : ℕ) → ((c : ℕ) → c < n → P c) → P n → b < suc n → P b
below_or_last P n b before last k = at (nat_lt b n) refl
  where
    at : (t : Bool) → nat_lt b n ≡ t → P b
    at true e = before b (grind (arith, nat_tests))
    at false e = let same : n ≡ b = grind (arith, nat_tests) in subst P same last

-- no attempt had records, and the next has none
none_yet : (records : ℕ → ℕ) (n : ℕ) → Leads records n None → records n ≤ 0 → Leads records (suc n) None
none_yet records n leads none = λ b k. below_or_last (λ c. records c ≡ 0) n b leads (omega (arith, none)) k

-- the next attempt has no more than the leader
stays : (records : ℕ → ℕ) (n : ℕ) (d : Declared) → IsLeader records n d → records n ≤ d.records → IsLeader records (suc n) d
stays records n d leads few = record {
  below = omega (arith, leads.below);
  its_records = leads.its_records;
  some = leads.some;
  most = λ b k. below_or_last (λ c. records c ≤ d.records) n b leads.most few k;
  least = λ b k. below_or_last (λ c. records c ≡ d.records → d.attempt ≤ c) n b leads.least (λ same. omega (arith, leads.below)) k;
  tentative = leads.tentative;
}

-- the next attempt has more than all before
takes_over : (records : ℕ → ℕ) (n : ℕ) → ((b : ℕ) → b < n → records b < records n) → 0 < records n → IsLeader records (suc n) (record { attempt = n; records = records n; committed = false })
takes_over records n above some = record {
  below = omega arith;
  its_records = refl;
  some = some;
  most = λ b k. below_or_last (λ c. records c ≤ records n) n b (λ c j. omega (arith, above c j)) (omega arith) k;
  least = λ b k. below_or_last (λ c. records c ≡ records n → n ≤ c) n b (λ c j same. absurd (omega (arith, above c j, same))) (λ same. omega arith) k;
  tentative = refl;
}

-- all before the next have fewer
fewer : (records : ℕ → ℕ) (n : ℕ) (o : Option Declared) → Leads records n o → records_of o < records n → (b : ℕ) → b < n → records b < records n
fewer records n None leads more b k = omega (arith, leads b k, more)
fewer records n (Some d) leads more b k = omega (arith, leads.most b k, more)

step : (records : ℕ → ℕ) (n : ℕ) (o : Option Declared) → Leads records n o → records n ≤ records_of o → Leads records (suc n) o
step records n None leads few = none_yet records n leads few
step records n (Some d) leads few = stays records n d leads few

one_more : (records : ℕ → ℕ) (n : ℕ) → Leads records n (leader records n) → Leads records (suc n) (leader records (suc n))
one_more records n before = at (nat_lt (records_of (leader records n)) (records n)) refl
  where
    found : (o : Option Declared) → leader records (n + 1) ≡ o → Leads records (suc n) o → Leads records (suc n) (leader records (suc n))
    found o e leads = subst (λ k. Leads records (suc n) (leader records k)) (add-one n) (rw e leads)

    at : (t : Bool) → nat_lt (records_of (leader records n)) (records n) ≡ t → Leads records (suc n) (leader records (suc n))
    at true e =
        let more : records_of (leader records n) < records n = grind (arith, nat_tests) in
        found _ (leader_taken records n more) (takes_over records n (fewer records n (leader records n) before more) (omega (arith, more)))
    at false e =
        let few : records n ≤ records_of (leader records n) = grind (arith, nat_tests) in
        found _ (leader_kept records n few) (step records n (leader records n) before few)

-- the attempt that is found leads
pub leader_is_leader : (records : ℕ → ℕ) (n : ℕ) → Leads records n (leader records n)
leader_is_leader records zero = rw (leader_none records) (λ b k. absurd (omega (arith, k)))
leader_is_leader records (suc n) = one_more records n (leader_is_leader records n)
