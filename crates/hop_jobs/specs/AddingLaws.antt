-- Adding up numbers meets the laws of combine and reduce.
use Rattle.std.proofs.Common.{◌≡◌, ℕ, ◌+◌, ◌^◌, ◌<◌, ◌≤◌, Bool, true, false, cond, List, [], ◌∷◌, ◌++◌, length, refl, ap, arith, length-append}
use Rattle.std.specs.Prelude.{sum_by, decimal}
use Rattle.std.specs.Ordering.{is_gt}
use Rattle.std.proofs.lemmas.Fmt.{length-decimal-le}
use Rattle.std.proofs.lemmas.List.Sums.{sum_by-cons, sum_by-append}
use Rattle.std.proofs.lemmas.List.Elements.{All-cons, All-nil}
use Rattle.hop_base.specs.declared.value.Val.{Val}
use Rattle.hop_base.specs.Order.{val_cmp, IsValid}
use Rattle.hop_base.specs.Sorted.{ord, insert_in_order}
use Rattle.hop_laws.specs.Laws.{AlwaysCombinesWell, ReducesAlike, WritesLines}
use Rattle.hop_laws.specs.Numbers.{number_val, IsOneForBoth}
use Rattle.hop_laws.proofs.Lines.{lines_none, lines_more}
use Rattle.hop_jobs.specs.Adding.{number, saturating_sum, number_line, sum_combined, sum_reduced}

sum_insert : (v : Val) (vs : List Val) → sum_by (λ v. v.n) (insert_in_order val_cmp v vs) ≡ v.n + sum_by (λ v. v.n) vs
sum_insert v [] = sum_by-cons (λ (v : Val). v.n) v []
sum_insert v (w ∷ vs) = sum_insert_at (is_gt (val_cmp v w)) (sum_insert v vs)
  where
    sum_insert_at : (b : Bool) → sum_by (λ v. v.n) (insert_in_order val_cmp v vs) ≡ v.n + sum_by (λ v. v.n) vs → sum_by (λ v. v.n) (cond b (w ∷ insert_in_order val_cmp v vs) (v ∷ w ∷ vs)) ≡ v.n + sum_by (λ v. v.n) (w ∷ vs)
    sum_insert_at true r = omega (arith, sum_by-cons (λ (v : Val). v.n) w (insert_in_order val_cmp v vs), sum_by-cons (λ (v : Val). v.n) w vs, r)
    sum_insert_at false r = omega (arith, sum_by-cons (λ (v : Val). v.n) v (w ∷ vs))

pub sum_ord : (vs : List Val) → sum_by (λ v. v.n) (ord val_cmp vs) ≡ sum_by (λ v. v.n) vs
sum_ord [] = refl
sum_ord (v ∷ vs) = omega (arith, sum_insert v (ord val_cmp vs), sum_ord vs, sum_by-cons (λ (v : Val). v.n) v vs)

pub sum_combines_well : AlwaysCombinesWell sum_combined
sum_combines_well k vs some valid = record {
  some = omega arith;
  sorted = λ i d lo hi. absurd (omega arith);
  valid = All-cons IsValid _ [] (record { number = omega arith; text = omega arith }) (All-nil IsValid);
  few = omega arith;
  texts = λ n h. All-cons (λ (v : Val). length v.s ≤ n) _ [] (omega arith) (All-nil (λ (v : Val). length v.s ≤ n));
}

same_sum : (vs ws : List Val) → saturating_sum (ord val_cmp (sum_combined [] (ord val_cmp vs) ++ ws)) ≡ saturating_sum (ord val_cmp (vs ++ ws))
same_sum vs ws = omega (arith, sum_ord (number (saturating_sum (ord val_cmp vs)) ∷ ws), sum_ord (vs ++ ws), sum_ord vs, sum_by-append (λ (v : Val). v.n) vs ws, sum_by-cons (λ (v : Val). v.n) (number (saturating_sum (ord val_cmp vs))) ws)

pub sum_reduces_alike : ReducesAlike sum_combined sum_reduced
sum_reduces_alike k vs ws some valid further = ap (number_line k) (same_sum vs ws)

-- the sum of two numbers is one for both
pub sum_joins : (a b n : ℕ) → n ≡ saturating_sum (number_val a ∷ number_val b ∷ []) → IsOneForBoth sum_combined a b n
sum_joins a b n e = record {
  alone = λ key. ap (λ m. number m ∷ []) (omega (arith, e, sum_ord (number_val a ∷ number_val b ∷ [])));
  among = λ key ws valid. ap (λ m. number m ∷ []) (omega (arith, e, sum_ord (number_val a ∷ number_val b ∷ ws), sum_ord (number_val n ∷ ws), sums_of a b ws, sums_of a b [], sum_by-cons (λ (v : Val). v.n) (number_val n) ws));
}
  where
    sums_of : (a b : ℕ) (ws : List Val) → sum_by (λ v. v.n) (number_val a ∷ number_val b ∷ ws) ≡ a + (b + sum_by (λ v. v.n) ws)
    sums_of a b ws = omega (arith, sum_by-cons (λ (v : Val). v.n) (number_val a) (number_val b ∷ ws), sum_by-cons (λ (v : Val). v.n) (number_val b) ws)

-- ---- whole lines

pub short_body : (n m : ℕ) (key : List ℕ) → length key ≤ m → n < 2 ^ 64 → length (key ++ 9 ∷ decimal n) ≤ m + 21
short_body n m key h small = omega (arith, length-append key (9 ∷ decimal n), length-decimal-le 20 n (omega arith))

pub sum_writes_lines : WritesLines sum_reduced
sum_writes_lines m key vs short texts valid =
    lines_more (m + 21) (key ++ 9 ∷ decimal (saturating_sum (ord val_cmp vs))) [] (short_body (saturating_sum (ord val_cmp vs)) m key short (omega arith)) (lines_none (m + 21))
