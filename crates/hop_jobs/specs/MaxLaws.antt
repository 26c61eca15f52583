-- The job that finds the greatest number of each key meets the laws.
use Rattle.std.proofs.Common.{◌≡◌, ℕ, ◌+◌, ◌^◌, ◌<◌, ◌≤◌, Bool, true, false, cond, List, [], ◌∷◌, ◌++◌, length, max, refl, ap, ◌∙◌, arith}
use Rattle.std.specs.Prelude.{◌≢◌, All, codes}
use Rattle.std.specs.List.{AllByRecursion}
use Rattle.std.specs.Ordering.{is_gt}
use Rattle.std.proofs.lemmas.List.Elements.{All-nil, All-cons, All-from_recursion, recursion_from_All}
use Rattle.hop_base.specs.declared.value.Val.{Val}
use Rattle.hop_base.specs.Order.{val_cmp, IsValid}
use Rattle.hop_base.specs.Sorted.{ord, insert_in_order}
use Rattle.hop_base.proofs.Sorted.{All-ord, length-ord}
use Rattle.hop_laws.specs.Laws.{AlwaysCombinesWell, ReducesAlike, WritesLines, IsName, IsLawful}
use Rattle.hop_laws.specs.Numbers.{number_val, IsOneForBoth}
use Rattle.hop_laws.proofs.Lines.{lines_none, lines_more}
use Rattle.std.specs.Prelude.{decimal}
use Rattle.hop_jobs.specs.Adding.{number, number_line}
use Rattle.hop_jobs.specs.AddingLaws.{short_body}
use Rattle.hop_jobs.specs.Max.{greatest, max_combined, max_reduced, max_meaning}
use Rattle.hop_jobs.specs.NumberedLaws.{numbered_emits_well}

greatest_insert : (v : Val) (vs : List Val) → greatest (insert_in_order val_cmp v vs) ≡ max v.n (greatest vs)
greatest_insert v [] = refl
greatest_insert v (w ∷ vs) = insert_at (is_gt (val_cmp v w)) (greatest_insert v vs)
  where
    insert_at : (b : Bool) → greatest (insert_in_order val_cmp v vs) ≡ max v.n (greatest vs) → greatest (cond b (w ∷ insert_in_order val_cmp v vs) (v ∷ w ∷ vs)) ≡ max v.n (max w.n (greatest vs))
    insert_at true r = omega (arith, r)
    insert_at false r = refl

greatest_ord : (vs : List Val) → greatest (ord val_cmp vs) ≡ greatest vs
greatest_ord [] = refl
greatest_ord (v ∷ vs) = greatest_insert v (ord val_cmp vs) ∙ ap (max v.n) (greatest_ord vs)

pub greatest_append : (vs ws : List Val) → greatest (vs ++ ws) ≡ max (greatest vs) (greatest ws)
greatest_append [] ws = omega arith
greatest_append (v ∷ vs) ws = omega (arith, greatest_append vs ws)

greatest_small : (vs : List Val) → AllByRecursion IsValid vs → greatest vs < 2 ^ 64
greatest_small [] h = omega arith
greatest_small (v ∷ vs) h = omega (arith, greatest_small vs h.1, h.0.number)

small_ord : (vs : List Val) → All IsValid vs → greatest (ord val_cmp vs) < 2 ^ 64
small_ord vs valid = greatest_small (ord val_cmp vs) (recursion_from_All IsValid (ord val_cmp vs) (All-ord val_cmp IsValid vs valid))

pub max_combines_well : AlwaysCombinesWell max_combined
max_combines_well k vs some valid = record {
  some = omega arith;
  sorted = λ i d lo hi. absurd (omega arith);
  valid = All-cons IsValid _ [] (record { number = small_ord vs valid; text = omega arith }) (All-nil IsValid);
  few = omega (arith, length-ord val_cmp vs);
  texts = λ n h. All-cons (λ (v : Val). length v.s ≤ n) _ [] (omega arith) (All-nil (λ (v : Val). length v.s ≤ n));
}

same_greatest : (vs ws : List Val) → greatest (ord val_cmp (max_combined [] (ord val_cmp vs) ++ ws)) ≡ greatest (ord val_cmp (vs ++ ws))
same_greatest vs ws = omega (arith, greatest_ord (number (greatest (ord val_cmp vs)) ∷ ws), greatest_ord (vs ++ ws), greatest_ord vs, greatest_append vs ws)

pub max_reduces_alike : ReducesAlike max_combined max_reduced
max_reduces_alike k vs ws some valid further = ap (number_line k) (same_greatest vs ws)

-- the greater of two numbers is one for both
pub max_joins : (a b : ℕ) → a ≤ b → IsOneForBoth max_combined a b b
max_joins a b le = record {
  alone = λ key. ap (λ m. number m ∷ []) (omega (arith, greatest_ord (number_val a ∷ number_val b ∷ [])));
  among = λ key ws valid. ap (λ m. number m ∷ []) (omega (arith, greatest_ord (number_val a ∷ number_val b ∷ ws), greatest_ord (number_val b ∷ ws)));
}

pub max_writes_lines : WritesLines max_reduced
max_writes_lines m key vs short texts valid =
    lines_more (m + 21) (key ++ 9 ∷ decimal (greatest (ord val_cmp vs))) [] (short_body (greatest (ord val_cmp vs)) m key short (small_ord vs valid)) (lines_none (m + 21))

max_named : IsName (codes "max")
max_named = record {
  some = omega arith;
  no_line_feed = All-from_recursion (λ b. b ≢ 10) (codes "max") ((λ e. omega (arith, e)), ((λ e. omega (arith, e)), ((λ e. omega (arith, e)), tt)));
  no_space = All-from_recursion (λ b. b ≢ 32) (codes "max") ((λ e. omega (arith, e)), ((λ e. omega (arith, e)), ((λ e. omega (arith, e)), tt)));
}

pub max_lawful : IsLawful max_meaning
max_lawful = record {
  named = max_named;
  emits_well = numbered_emits_well;
  combines_well = max_combines_well;
  reduces_alike = max_reduces_alike;
  writes_lines = max_writes_lines;
}
