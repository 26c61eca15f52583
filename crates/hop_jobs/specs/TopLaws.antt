-- The job that keeps the best meets the laws.
use Rattle.std.proofs.Common.{◌≡◌, ℕ, ◌+◌, ◌<◌, ◌≤◌, List, [], ◌∷◌, ◌++◌, length, take, sym, ap, ◌∙◌, subst, arith}
use Rattle.std.specs.Prelude.{◌≢◌, All, decimal, codes}
use Rattle.std.specs.List.{flat_map, AllByRecursion}
use Rattle.std.specs.Ordering.{nat_cmp}
use Rattle.std.specs.Char.{digit_value}
use Rattle.std.specs.Str.Parse.{AllDigits}
use Rattle.std.specs.Cmp.{IsTotalOrder}
use Rattle.std.proofs.lemmas.Cmp.{on_total, then_total, back_total, nat_cmp_total, nat_list_cmp_total}
use Rattle.std.proofs.lemmas.Fmt.{decimal_is_IsNumeral}
use Rattle.std.proofs.lemmas.Map.Lookups.{CmpEqualImpliesEq, exact_unsigned, exact_bytes, exact_pairs}
use Rattle.std.proofs.lemmas.List.{length-take, length-map}
use Rattle.std.proofs.lemmas.List.Elements.{All-take, All-map, All-weaker, All-append, All-from_recursion, recursion_from_All}
use Rattle.hop_base.specs.declared.value.Pair.{Pair}
use Rattle.hop_base.specs.declared.value.Val.{Val}
use Rattle.hop_base.specs.Order.{key_cmp, val_cmp, IsValid, IsValidPair}
use Rattle.hop_base.specs.Sorted.{ord}
use Rattle.hop_base.proofs.Best.{first_alike, SameItems-change}
use Rattle.hop_base.proofs.OrderLaws.{val_total, val_exact}
use Rattle.hop_base.proofs.Sorted.{count-append, SameItems, SameItems-ord, ord_same, IsAscending-ord, IsSorted-IsAscending, All-ord, length-ord}
use Rattle.hop_laws.specs.Laws.{EmitsWell, AlwaysCombinesWell, ReducesAlike, WritesLines, IsName, IsLawful}
use Rattle.hop_laws.proofs.Lines.{lines_each}
use Rattle.hop_jobs.specs.AddingLaws.{short_body}
use Rattle.hop_jobs.specs.Numbered.{numbered_emits}
use Rattle.hop_jobs.specs.NumberedLaws.{numbered_emits_well}
use Rattle.hop_jobs.specs.Top.{best_cmp, best_of, top_combined, value_line, top_reduced, under_no_key, line_emits, top_meaning}

pub best_total : IsTotalOrder best_cmp
best_total = then_total (back_total (on_total (λ v. v.n) nat_cmp_total)) (on_total (λ v. v.s) nat_list_cmp_total)

flipped_exact : CmpEqualImpliesEq (λ a b. nat_cmp b a)
flipped_exact a b h = sym (exact_unsigned b a h)

pub best_exact : CmpEqualImpliesEq best_cmp
best_exact a b h = ap (λ (p : ℕ × List ℕ). record { n = p.0; s = p.1 }) (exact_pairs (λ x y. nat_cmp y x) key_cmp flipped_exact exact_bytes (a.n, a.s) (b.n, b.s) h)

-- the best don't depend on the order of the values
best_ord : (vs ws : List Val) → SameItems val_cmp vs ws → ord best_cmp vs ≡ ord best_cmp ws
best_ord vs ws h = ord_same best_cmp best_total best_exact vs ws (SameItems-change val_cmp best_cmp val_total best_total val_exact best_exact vs ws h)

pub top_reduces_alike : (n : ℕ) → ReducesAlike (top_combined n) (top_reduced n)
top_reduces_alike n key vs ws some valid further =
    let kept : List Val = best_of n (ord val_cmp vs) in
    let one : SameItems val_cmp (ord val_cmp (ord val_cmp kept ++ ws)) (kept ++ ws) = record { counts = λ x. omega (arith, (SameItems-ord val_cmp (ord val_cmp kept ++ ws)).counts x, count-append val_cmp x (ord val_cmp kept) ws, count-append val_cmp x kept ws, (SameItems-ord val_cmp kept).counts x) } in
    ap (λ xs. flat_map value_line (take n xs))
    (best_ord (ord val_cmp (ord val_cmp kept ++ ws)) (kept ++ ws) one
    ∙ ap (λ xs. ord best_cmp (take n xs ++ ws)) (best_ord (ord val_cmp vs) vs (SameItems-ord val_cmp vs)))
    ∙ ap (flat_map value_line) (first_alike best_cmp best_total best_exact n vs ws ∙ ap (take n) (sym (best_ord (ord val_cmp (vs ++ ws)) (vs ++ ws) (SameItems-ord val_cmp (vs ++ ws)))))

-- ---- the other laws

kept_all : (P : Val → Type 0) (n : ℕ) (vs : List Val) → All P vs → All P (top_combined n [] (ord val_cmp vs))
kept_all P n vs h = All-ord val_cmp P (best_of n (ord val_cmp vs)) (All-take P n (ord best_cmp (ord val_cmp vs)) (All-ord best_cmp P (ord val_cmp vs) (All-ord val_cmp P vs h)))

kept_length : (n : ℕ) (vs : List Val) → length (top_combined n [] (ord val_cmp vs)) ≡ length (best_of n (ord val_cmp vs))
kept_length n vs = length-ord val_cmp (best_of n (ord val_cmp vs))

pub top_combines_well : (n : ℕ) → 1 ≤ n → AlwaysCombinesWell (top_combined n)
top_combines_well n one key vs some valid = record {
  some = omega (arith, kept_length n vs, length-take n (ord best_cmp (ord val_cmp vs)), length-ord best_cmp (ord val_cmp vs), length-ord val_cmp vs);
  sorted = IsSorted-IsAscending val_cmp val_total (top_combined n [] (ord val_cmp vs)) (IsAscending-ord val_cmp val_total (best_of n (ord val_cmp vs)));
  valid = kept_all IsValid n vs valid;
  few = omega (arith, kept_length n vs, length-take n (ord best_cmp (ord val_cmp vs)), length-ord best_cmp (ord val_cmp vs), length-ord val_cmp vs);
  texts = λ m h. kept_all (λ v. length v.s ≤ m) n vs h;
}

pub line_emits_well : (line : List ℕ) → length line ≤ 131050 → EmitsWell line (line_emits line)
line_emits_well line short =
    let ps : List Pair = numbered_emits line in
    let well : EmitsWell line ps = numbered_emits_well line short in
    record {
      few = omega (arith, length-map ps under_no_key, well.few);
      valid = All-map IsValidPair under_no_key ps (All-weaker IsValidPair (λ p. IsValidPair (under_no_key p)) (λ p v. record { key = omega arith; value = record { number = v.value.number; text = v.key } }) ps well.valid);
      keys = All-map (λ (p : Pair). length p.key ≤ length line) under_no_key ps (All-weaker IsValidPair (λ p. length (under_no_key p).key ≤ length line) (λ p v. omega arith) ps well.valid);
      texts = All-map (λ (p : Pair). length p.val.s ≤ length line) under_no_key ps (All-weaker (λ (p : Pair). length p.key ≤ length line) (λ p. length (under_no_key p).val.s ≤ length line) (λ p v. v) ps well.keys);
    }

-- ---- whole lines

abbrev body_of : Val → List ℕ
body_of v = v.s ++ 9 ∷ decimal v.n

short_bodies : (m : ℕ) (vs : List Val) → AllByRecursion (λ v. length v.s ≤ m) vs → AllByRecursion IsValid vs → AllByRecursion (λ v. length (body_of v) ≤ m + 21) vs
short_bodies m [] h valid = tt
short_bodies m (v ∷ vs) h valid = (short_body v.n m v.s h.0 valid.0.number, short_bodies m vs h.1 valid.1)

best_all : (P : Val → Type 0) (n : ℕ) (vs : List Val) → All P vs → AllByRecursion P (best_of n (ord val_cmp vs))
best_all P n vs h = recursion_from_All P (best_of n (ord val_cmp vs)) (All-take P n (ord best_cmp (ord val_cmp vs)) (All-ord best_cmp P (ord val_cmp vs) (All-ord val_cmp P vs h)))

pub top_writes_lines : (n : ℕ) → WritesLines (top_reduced n)
top_writes_lines n m key vs short texts valid =
    lines_each (m + 21) body_of (best_of n (ord val_cmp vs)) (short_bodies m (best_of n (ord val_cmp vs)) (best_all (λ v. length v.s ≤ m) n vs texts) (best_all IsValid n vs valid))

-- ---- the name

not_line_feed : (ds : List ℕ) → AllDigits 10 ds → AllByRecursion (λ b. b ≢ 10) ds
not_line_feed [] h = tt
not_line_feed (d ∷ ds) h = ((λ e. let bad : digit_value 10 < 10 = subst (λ c. digit_value c < 10) e h.0 in absurd (omega (arith, bad))), not_line_feed ds h.1)

not_space : (ds : List ℕ) → AllDigits 10 ds → AllByRecursion (λ b. b ≢ 32) ds
not_space [] h = tt
not_space (d ∷ ds) h = ((λ e. let bad : digit_value 32 < 10 = subst (λ c. digit_value c < 10) e h.0 in absurd (omega (arith, bad))), not_space ds h.1)

top_named : (n : ℕ) → n ≤ 1000 → IsName (codes "top:" ++ decimal n)
top_named n few =
    let digits : AllDigits 10 (decimal n) = (decimal_is_IsNumeral n (omega arith)).0.1 in
    record {
      some = omega arith;
      no_line_feed = All-append (λ b. b ≢ 10) (codes "top:") (decimal n)
          (All-from_recursion (λ b. b ≢ 10) (codes "top:") ((λ e. omega (arith, e)), ((λ e. omega (arith, e)), ((λ e. omega (arith, e)), ((λ e. omega (arith, e)), tt)))))
          (All-from_recursion (λ b. b ≢ 10) (decimal n) (not_line_feed (decimal n) digits));
      no_space = All-append (λ b. b ≢ 32) (codes "top:") (decimal n)
          (All-from_recursion (λ b. b ≢ 32) (codes "top:") ((λ e. omega (arith, e)), ((λ e. omega (arith, e)), ((λ e. omega (arith, e)), ((λ e. omega (arith, e)), tt)))))
          (All-from_recursion (λ b. b ≢ 32) (decimal n) (not_space (decimal n) digits));
    }

pub top_lawful : (n : ℕ) → 1 ≤ n → n ≤ 1000 → IsLawful (top_meaning n)
top_lawful n some few = record {
  named = top_named n few;
  emits_well = line_emits_well;
  combines_well = top_combines_well n some;
  reduces_alike = top_reduces_alike n;
  writes_lines = top_writes_lines n;
}
