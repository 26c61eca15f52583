-- Owners that are found equal.
use Rattle.std.proofs.Common.{◌≡◌, ℕ, ◌+◌, ◌<◌, ◌≤◌, ◌⊎◌, inl, inr, Bool, true, false, Option, Some, None, List, ◌&&◌, cond, refl, sym, ap, ◌∙◌, subst, arith, eqb}
use Rattle.std.proofs.lemmas.Bool.{true≢false, false≢true, eqb-true, eq-eqb, cases_lt}
use Rattle.hop_shelf.specs.declared.kept.Kept.{Kept}
use Rattle.hop_shelf.specs.declared.kept.Owner.{Owner}
use Rattle.hop_shelf.specs.declared.kept.Owner.TheVariants.{Committed, Attempt}
use Rattle.hop_shelf.specs.Kept.{kept_at, same_owner}
use Rattle.hop_shelf.specs.contracts.kept.OwnerPartialEq.TheImpl.{eq-value}
use Rattle.hop_base.proofs.Truth.{both_true}

abbrev pub owner_eq : Owner → Owner → Bool
owner_eq = eq-value.it

pub owner_same : (a b : Owner) → owner_eq a b ≡ true → a ≡ b
owner_same Committed Committed h = refl
owner_same Committed (Attempt i a) h = absurd (false≢true h)
owner_same (Attempt i a) Committed h = absurd (false≢true h)
owner_same (Attempt i a) (Attempt j b) h =
    let both = both_true (eqb i j) (eqb a b) h in
    ap (λ n. Attempt n a) (eqb-true i j both.0) ∙ ap (λ n. Attempt j n) (eqb-true a b both.1)

pub owner_itself : (a : Owner) → owner_eq a a ≡ true
owner_itself Committed = refl
owner_itself (Attempt i a) = ap (λ t. t && eqb a a) (eq-eqb i i refl) ∙ eq-eqb a a refl

-- of the first n runs, each owner is found at its place, and no two are equal
pub record AreSeen (kept : List Kept) (at : Owner → Option ℕ) (n : ℕ) : Type 0 where
  pub places : (o : Owner) (m : ℕ) → at o ≡ Some m → (m < n) × ((kept_at kept m).owner ≡ o)
  pub found : (m : ℕ) → m < n → at (kept_at kept m).owner ≡ None → ⊥
  pub apart : (i k : ℕ) → i < k → k < n → (kept_at kept i).owner ≡ (kept_at kept k).owner → ⊥

pub seen_none : (kept : List Kept) (at : Owner → Option ℕ) → ((o : Owner) → at o ≡ None) → AreSeen kept at 0
seen_none kept at h = record {
  places = λ o m e. absurd (let g : None ≡ Some m = sym (h o) ∙ e in cc);
  found = λ m l. absurd (omega (arith, l));
  apart = λ i k l m. absurd (omega (arith, m));
}

place_step : (kept : List Kept) (at : Owner → Option ℕ) (n : ℕ) (o q : Owner) (m : ℕ) (b : Bool) → AreSeen kept at n → o ≡ (kept_at kept n).owner → owner_eq o q ≡ b → cond b (Some n) (at q) ≡ Some m → (m < n + 1) × ((kept_at kept m).owner ≡ q)
place_step kept at n o q m true s e t h =
    let same : n ≡ m = cc in
    (omega (arith, same), subst (λ k. (kept_at kept k).owner ≡ q) same (sym e ∙ owner_same o q t))
place_step kept at n o q m false s e t h = let p = s.places q m h in (omega (arith, p.0), p.1)

found_step : (kept : List Kept) (at : Owner → Option ℕ) (n : ℕ) (o : Owner) (m : ℕ) (b : Bool) → AreSeen kept at n → o ≡ (kept_at kept n).owner → m < n + 1 → owner_eq o (kept_at kept m).owner ≡ b → cond b (Some n) (at (kept_at kept m).owner) ≡ None → ⊥
found_step kept at n o m true s e l t h = absurd (let g : Some n ≡ None = h in cc)
found_step kept at n o m false s e l t h = older (cases_lt m n)
  where
    older : (m < n) ⊎ (n ≤ m) → ⊥
    older (inl k) = s.found m k h
    older (inr k) = let same : m ≡ n = omega arith in true≢false (sym (owner_itself o) ∙ ap (owner_eq o) (e ∙ ap (λ i. (kept_at kept i).owner) (sym same)) ∙ t)

apart_step : (kept : List Kept) (at : Owner → Option ℕ) (n : ℕ) (o : Owner) (i k : ℕ) → AreSeen kept at n → o ≡ (kept_at kept n).owner → at o ≡ None → i < k → k < n + 1 → (kept_at kept i).owner ≡ (kept_at kept k).owner → ⊥
apart_step kept at n o i k s e none l m same = older (cases_lt k n)
  where
    older : (k < n) ⊎ (n ≤ k) → ⊥
    older (inl h) = s.apart i k l h same
    older (inr h) =
        let here : k ≡ n = omega arith in
        let before : i < n = omega arith in
        s.found i before (ap at (same ∙ ap (λ j. (kept_at kept j).owner) here ∙ sym e) ∙ none)

-- one more run, whose owner was not among them
pub seen_more : (kept : List Kept) (at now : Owner → Option ℕ) (n : ℕ) (o : Owner) → AreSeen kept at n → o ≡ (kept_at kept n).owner → at o ≡ None → ((q : Owner) → now q ≡ cond (owner_eq o q) (Some n) (at q)) → AreSeen kept now (n + 1)
seen_more kept at now n o s e none u = record {
  places = λ q m h. place_step kept at n o q m (owner_eq o q) s e refl (sym (u q) ∙ h);
  found = λ m l h. found_step kept at n o m (owner_eq o (kept_at kept m).owner) s e l refl (sym (u (kept_at kept m).owner) ∙ h);
  apart = λ i k l m same. apart_step kept at n o i k s e none l m same;
}

-- equal owners are the same in contracts' words
pub owner_eq_same : (a b : Owner) → owner_eq a b ≡ same_owner a b
owner_eq_same Committed Committed = refl
owner_eq_same Committed (Attempt i a) = refl
owner_eq_same (Attempt i a) Committed = refl
owner_eq_same (Attempt i a) (Attempt j b) = refl

pub same_itself : (a : Owner) → same_owner a a ≡ true
same_itself a = sym (owner_eq_same a a) ∙ owner_itself a

pub same_is : (a b : Owner) → same_owner a b ≡ true → a ≡ b
same_is a b h = owner_same a b (owner_eq_same a b ∙ h)
