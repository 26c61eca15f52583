-- Parts that follow each other.
use Rattle.std.proofs.Common.{◌≡◌, ℕ, ◌<◌, ◌≤◌, false, List, [], ◌∷◌, ◌++◌, refl, sym, ap, ◌∙◌, subst, arith}
use Rattle.std.specs.List.{AllByRecursion}
use Rattle.std.specs.declared.cmp.Ordering.{Ordering}
use Rattle.std.specs.Ordering.{nat_cmp, ordering_then, is_gt}
use Rattle.std.specs.Cmp.{IsTotalOrder}
use Rattle.std.proofs.lemmas.Cmp.{on_total, then_total, nat_cmp_total}
use Rattle.std.proofs.lemmas.Map.Lookups.{CmpEqualImpliesEq, exact_unsigned, exact_pairs}
use Rattle.std.proofs.lemmas.Bool.Decides.{nat_tests}
use Rattle.hop_base.specs.Sorted.{ord}
use Rattle.hop_base.proofs.Sorted.{IsUptoAll, IsAscending, SameItems, IsAscending-ord, same_ascending, SameItems-ord, SameItems-trans}
use Rattle.hop_base.specs.declared.part.Part.{Part}
use Rattle.hop_shelf.specs.Parts.{part_cmp, IsChain}

pub part_total : IsTotalOrder part_cmp
part_total = then_total (on_total (λ q. q.split) nat_cmp_total) (then_total (on_total (λ q. q.attempt) nat_cmp_total) (then_total (on_total (λ q. q.from) nat_cmp_total) (on_total (λ q. q.to) nat_cmp_total)))

abbrev ends_cmp : ℕ × ℕ → ℕ × ℕ → Ordering
ends_cmp a b = ordering_then (nat_cmp a.0 b.0) (nat_cmp a.1 b.1)

pub part_exact : CmpEqualImpliesEq part_cmp
part_exact a b h =
    let e : ◌≡◌ {A = ℕ × (ℕ × (ℕ × ℕ))} (a.split, (a.attempt, (a.from, a.to))) (b.split, (b.attempt, (b.from, b.to))) =
    exact_pairs nat_cmp (λ (x y : ℕ × (ℕ × ℕ)). ordering_then (nat_cmp x.0 y.0) (ends_cmp x.1 y.1)) exact_unsigned
    (exact_pairs nat_cmp ends_cmp exact_unsigned (exact_pairs nat_cmp nat_cmp exact_unsigned exact_unsigned))
    (a.split, (a.attempt, (a.from, a.to))) (b.split, (b.attempt, (b.from, b.to))) h in
    ap (λ (p : ℕ × (ℕ × (ℕ × ℕ))). record { split = p.0; attempt = p.1.0; from = p.1.1.0; to = p.1.1.1 }) e

-- each is of the attempt
abbrev pub AllOf : ℕ → ℕ → List Part → Type 0
AllOf i a qs = AllByRecursion (λ q. (q.split ≡ i) × (q.attempt ≡ a)) qs

below_not_gt : (x y : Part) → x.split ≡ y.split → x.attempt ≡ y.attempt → x.from < y.from → is_gt (part_cmp x y) ≡ false
below_not_gt x y s a f = grind (arith, nat_tests)

-- the first of a chain is not after the others
upto_chain : (i a : ℕ) (x : Part) (u t : ℕ) (qs : List Part) → x.split ≡ i → x.attempt ≡ a → x.from < u → IsChain u t qs → AllOf i a qs → IsUptoAll part_cmp x qs
upto_chain i a x u t [] s b l c h = tt
upto_chain i a x u t (q ∷ qs) s b l c h = (below_not_gt x q (s ∙ sym h.0.0) (b ∙ sym h.0.1) (omega (arith, c.0)), upto_chain i a x q.to t qs s b (omega (arith, c.0, c.1)) c.2 h.1)

chain_ascending : (i a u t : ℕ) (qs : List Part) → IsChain u t qs → AllOf i a qs → IsAscending part_cmp qs
chain_ascending i a u t [] c h = tt
chain_ascending i a u t (q ∷ qs) c h = (upto_chain i a q q.to t qs h.0.0 h.0.1 c.1 c.2 h.1, chain_ascending i a q.to t qs c.2 h.1)

pub chain-append : (u v t : ℕ) (xs ys : List Part) → IsChain u v xs → IsChain v t ys → IsChain u t (xs ++ ys)
chain-append u v t [] ys c d = subst (λ n. IsChain n t ys) (sym c) d
chain-append u v t (x ∷ xs) ys c d = (c.0, c.1, chain-append x.to v t xs ys c.2 d)

-- what is in a chain is in the order of a chain
pub ord_chain : (i a u t : ℕ) (xs qs : List Part) → SameItems part_cmp xs qs → IsChain u t qs → AllOf i a qs → ord part_cmp xs ≡ qs
ord_chain i a u t xs qs s c h = same_ascending part_cmp part_total part_exact (ord part_cmp xs) qs (IsAscending-ord part_cmp part_total xs) (chain_ascending i a u t qs c h) (SameItems-trans part_cmp _ _ _ (SameItems-ord part_cmp xs) s)

-- a chain that comes to nowhere has no parts
pub chain_backward : (u t : ℕ) (qs : List Part) → IsChain u t qs → u ≤ t
chain_backward u t [] c = omega (arith, c)
chain_backward u t (q ∷ qs) c = omega (arith, c.0, c.1, chain_backward q.to t qs c.2)

pub chain_nowhere : (u : ℕ) (qs : List Part) → IsChain u u qs → qs ≡ []
chain_nowhere u [] c = refl
chain_nowhere u (q ∷ qs) c = absurd (omega (arith, c.0, c.1, chain_backward q.to u qs c.2))
