-- The spills of a row whose ranges together are a range.
use Rattle.std.proofs.Common.{◌≡◌, ℕ, zero, suc, ◌+◌, ◌-◌, ◌<◌, ◌≤◌, inl, inr, true, false, ltb, List, [], ◌∷◌, ◌++◌, length, take, drop, get_or, refl, sym, ap, subst, ◌∙◌, arith}
use Rattle.std.proofs.Math.Dec.{leb}
use Rattle.std.specs.List.Sorted.{IsNonDecreasingBy, IsPartitionPoint}
use Rattle.std.proofs.lemmas.Bool.{ltb-true, ltb-false, leb-true, leb-false, cases_lt, cases_eq}
use Rattle.std.proofs.lemmas.List.{take-append-drop, length-append}
use Rattle.std.specs.List.{All, AllByRecursion}
use Rattle.std.proofs.lemmas.List.Elements.{All-from_recursion, recursion_from_All}
use Rattle.hop_vault.specs.declared.kept.Kept.{Kept}
use Rattle.hop_vault.specs.Rows.{IsChain, IsStretch}

-- a spill has records
proper : (begin : ℕ) (row : List Kept) (end : ℕ) (i : ℕ) (d : Kept) → IsChain begin row end → i < length row → (get_or row i d).from < (get_or row i d).to
proper begin [] end i d h lt = absurd (omega arith)
proper begin (k ∷ row) end zero d h lt = omega (arith, h.0, h.1)
proper begin (k ∷ row) end (suc i) d h lt = proper k.to row end i d h.2 (omega arith)

-- none begins before the chain does
above : (begin : ℕ) (row : List Kept) (end : ℕ) (i : ℕ) (d : Kept) → IsChain begin row end → i < length row → begin ≤ (get_or row i d).from
above begin [] end i d h lt = absurd (omega arith)
above begin (k ∷ row) end zero d h lt = omega (arith, h.0)
above begin (k ∷ row) end (suc i) d h lt = omega (arith, h.1, above k.to row end i d h.2 (omega arith))

-- an earlier one ends before a later one begins
ordered : (begin : ℕ) (row : List Kept) (end : ℕ) (i j : ℕ) (d : Kept) → IsChain begin row end → i < j → j < length row → (get_or row i d).to ≤ (get_or row j d).from
ordered begin [] end i j d h lt within = absurd (omega arith)
ordered begin (k ∷ row) end i zero d h lt within = absurd (omega arith)
ordered begin (k ∷ row) end zero (suc j) d h lt within = above k.to row end j d h.2 (omega arith)
ordered begin (k ∷ row) end (suc i) (suc j) d h lt within = ordered k.to row end i j d h.2 (omega arith) (omega arith)

pub begins_rise : (begin : ℕ) (row : List Kept) (end : ℕ) → IsChain begin row end → IsNonDecreasingBy (λ (k : Kept). k.from) row
begins_rise begin row end h i j d le lt =
    elim (cases_eq i j) [
      | inl e ↦ let same : (get_or row i d).from ≡ (get_or row j d).from = ap (λ (k : ℕ). (get_or row k d).from) e in omega (arith, same)
      | inr e ↦ let i_lt : i < j = omega arith in omega (arith, proper begin row end i d h (omega arith), ordered begin row end i j d h i_lt lt)
    ]

pub ends_rise : (begin : ℕ) (row : List Kept) (end : ℕ) → IsChain begin row end → IsNonDecreasingBy (λ (k : Kept). k.to) row
ends_rise begin row end h i j d le lt =
    elim (cases_eq i j) [
      | inl e ↦ let same : (get_or row i d).to ≡ (get_or row j d).to = ap (λ (k : ℕ). (get_or row k d).to) e in omega (arith, same)
      | inr e ↦ let i_lt : i < j = omega arith in omega (arith, proper begin row end j d h lt, ordered begin row end i j d h i_lt lt)
    ]

-- ---- some spills of a row are a chain

segment : (begin : ℕ) (row : List Kept) (end : ℕ) (n : ℕ) (d : Kept) → IsChain begin row end → n < length row → IsChain begin (take (suc n) row) (get_or row n d).to
segment begin [] end n d h lt = absurd (omega arith)
segment begin (k ∷ row) end zero d h lt = (h.0, h.1, refl)
segment begin (k ∷ row) end (suc n) d h lt = (h.0, h.1, segment k.to row end n d h.2 (omega arith))

-- those from a on
later : (begin : ℕ) (row : List Kept) (end : ℕ) (a n : ℕ) (d : Kept) → IsChain begin row end → a + n < length row → IsChain (get_or row a d).from (take (suc n) (drop a row)) (get_or row (a + n) d).to
later begin [] end a n d h lt = absurd (omega arith)
later begin (k ∷ row) end zero n d h lt =
    let e : 0 + n ≡ n = omega arith in
    let chain : IsChain begin (take (suc n) (k ∷ row)) (get_or (k ∷ row) n d).to = segment begin (k ∷ row) end n d h (omega arith) in
    subst (λ (m : ℕ). IsChain k.from (take (suc n) (k ∷ row)) (get_or (k ∷ row) m d).to) (sym e) (subst (λ (b : ℕ). IsChain b (take (suc n) (k ∷ row)) (get_or (k ∷ row) n d).to) (sym h.0) chain)
later begin (k ∷ row) end (suc a) n d h lt =
    let e : suc a + n ≡ suc (a + n) = omega arith in
    let chain : IsChain (get_or row a d).from (take (suc n) (drop a row)) (get_or row (a + n) d).to = later k.to row end a n d h.2 (omega arith) in
    subst (λ (m : ℕ). IsChain (get_or row a d).from (take (suc n) (drop a row)) (get_or (k ∷ row) m d).to) (sym e) chain

abbrev no_spills : List Kept
no_spills = []

drop_nil : (n : ℕ) → drop n no_spills ≡ no_spills
drop_nil zero = refl
drop_nil (suc n) = refl

drop_drop : (row : List Kept) (a n : ℕ) → drop n (drop a row) ≡ drop (a + n) row
drop_drop row zero n = let e : n ≡ 0 + n = omega arith in ap (λ (m : ℕ). drop m row) e
drop_drop [] (suc a) n = drop_nil n ∙ sym (drop_nil (suc a + n))
drop_drop (k ∷ row) (suc a) n =
    let e : suc (a + n) ≡ suc a + n = omega arith in
    drop_drop row a n ∙ ap (λ (m : ℕ). drop m (k ∷ row)) e

drop_after : (row : List Kept) (a b : ℕ) → a ≤ b → drop (b - a) (drop a row) ≡ drop b row
drop_after row a b le =
    let e : a + (b - a) ≡ b = omega arith in
    drop_drop row a (b - a) ∙ ap (λ (n : ℕ). drop n row) e

three_parts : (row : List Kept) (a b : ℕ) → a ≤ b → row ≡ take a row ++ (take (b - a) (drop a row) ++ drop b row)
three_parts row a b le =
    let rest : drop a row ≡ take (b - a) (drop a row) ++ drop b row = sym (take-append-drop (b - a) (drop a row)) ∙ ap (λ (r : List Kept). take (b - a) (drop a row) ++ r) (drop_after row a b le) in
    sym (take-append-drop a row) ∙ ap (λ (r : List Kept). take a row ++ r) rest

pub is_stretch : (begin : ℕ) (row : List Kept) (end : ℕ) (a b from to : ℕ) (d : Kept) → IsChain begin row end → a < b → b ≤ length row → (get_or row a d).from ≡ from → (get_or row (b - 1) d).to ≡ to → IsStretch row from to (take (b - a) (drop a row))
is_stretch begin row end a b from to d h lt within begins ends =
    let n_is : suc (b - 1 - a) ≡ b - a = omega arith in
    let last : a + (b - 1 - a) ≡ b - 1 = omega arith in
    let chain : IsChain (get_or row a d).from (take (suc (b - 1 - a)) (drop a row)) (get_or row (a + (b - 1 - a)) d).to = later begin row end a (b - 1 - a) d h (omega arith) in
    let whole : IsChain (get_or row a d).from (take (b - a) (drop a row)) (get_or row (a + (b - 1 - a)) d).to = subst (λ (m : ℕ). IsChain (get_or row a d).from (take m (drop a row)) (get_or row (a + (b - 1 - a)) d).to) n_is chain in
    let to_is : (get_or row (a + (b - 1 - a)) d).to ≡ to = ap (λ (k : ℕ). (get_or row k d).to) last ∙ ends in
    let chain_to : IsChain (get_or row a d).from (take (b - a) (drop a row)) to = subst (λ (t : ℕ). IsChain (get_or row a d).from (take (b - a) (drop a row)) t) to_is whole in
    let some : from < to = omega (arith, begins, ends, begins_rise begin row end h a (b - 1) d (omega arith) (omega arith), proper begin row end (b - 1) d h (omega arith)) in
    record {
      before = take a row;
      after = drop b row;
      parts = three_parts row a b (omega arith);
      chain = subst (λ (f : ℕ). IsChain f (take (b - a) (drop a row)) to) begins chain_to;
      some = some;
    }

-- ---- where the spills of a range are

stretch_first : (from to : ℕ) (before spills after : List Kept) (d : Kept) → IsChain from spills to → from < to → (get_or (before ++ (spills ++ after)) (length before) d).from ≡ from
stretch_first from to [] [] after d h lt = absurd (omega arith)
stretch_first from to [] (k ∷ spills) after d h lt = h.0
stretch_first from to (l ∷ before) spills after d h lt = stretch_first from to before spills after d h lt

chain_last : (from to : ℕ) (spills after : List Kept) (n : ℕ) (d : Kept) → IsChain from spills to → length spills ≡ suc n → (get_or (spills ++ after) n d).to ≡ to
chain_last from to [] after n d h len = absurd (omega arith)
chain_last from to (k ∷ []) after n d h len =
    let e : n ≡ 0 = omega arith in
    ap (λ (m : ℕ). (get_or (k ∷ after) m d).to) e ∙ h.2
chain_last from to (k ∷ l ∷ spills) after zero d h len = absurd (omega arith)
chain_last from to (k ∷ l ∷ spills) after (suc n) d h len = chain_last k.to to (l ∷ spills) after n d h.2 (omega arith)

stretch_last : (from to : ℕ) (before spills after : List Kept) (n : ℕ) (d : Kept) → IsChain from spills to → length spills ≡ suc n → (get_or (before ++ (spills ++ after)) (length before + n) d).to ≡ to
stretch_last from to [] spills after n d h len =
    let e : 0 + n ≡ n = omega arith in
    ap (λ (m : ℕ). (get_or (spills ++ after) m d).to) e ∙ chain_last from to spills after n d h len
stretch_last from to (l ∷ before) spills after n d h len =
    let e : suc (length before) + n ≡ suc (length before + n) = omega arith in
    ap (λ (m : ℕ). (get_or (l ∷ (before ++ (spills ++ after))) m d).to) e ∙ stretch_last from to before spills after n d h len

some_spills : (from to : ℕ) (spills : List Kept) → IsChain from spills to → from < to → 0 < length spills
some_spills from to [] h lt = absurd (omega arith)
some_spills from to (k ∷ spills) h lt = omega arith

-- what a search finds where some spills are a range
pub record IsFound (row : List Kept) (from to a b : ℕ) : Type 0 where
  pub some : a < b
  pub begins : (d : Kept) → (get_or row a d).from ≡ from
  pub ends : (d : Kept) → (get_or row (b - 1) d).to ≡ to

-- a spill of nothing
abbrev pub no_kept : Kept
no_kept = record { from = 0; to = 0; sheets = 0; len = 0; digest = [] }

pub found : (begin : ℕ) (row : List Kept) (end : ℕ) (a b from to : ℕ) (spills : List Kept) → IsChain begin row end → a ≤ length row → b ≤ length row
    → IsPartitionPoint (λ (k : Kept). ltb k.from from ≡ true) (λ (k : Kept). ltb k.from from ≡ false) row a
    → IsPartitionPoint (λ (k : Kept). leb k.to to ≡ true) (λ (k : Kept). leb k.to to ≡ false) row b
    → IsStretch row from to spills → IsFound row from to a b
found begin row end a b from to spills h a_within b_within at_a at_b s =
    let begins : (e : Kept) → (get_or row nb e).from ≡ from = λ e. subst (λ (r : List Kept). (get_or r nb e).from ≡ from) (sym s.parts) (stretch_first from to s.before spills s.after e s.chain s.some) in
    let ends : (e : Kept) → (get_or row (nb + n) e).to ≡ to = λ e. subst (λ (r : List Kept). (get_or r (nb + n) e).to ≡ to) (sym s.parts) (stretch_last from to s.before spills s.after n e s.chain len) in
    let a_is : a ≡ nb = a_place (begins d) in
    let b_is : b ≡ suc (nb + n) = b_place (ends d) in
    record {
      some = omega (arith, a_is, b_is);
      begins = λ e. ap (λ (k : ℕ). (get_or row k e).from) a_is ∙ begins e;
      ends = λ e. let last : b - 1 ≡ nb + n = omega (arith, b_is) in ap (λ (k : ℕ). (get_or row k e).to) last ∙ ends e;
    }
  where
    d : Kept
    d = no_kept

    nb : ℕ
    nb = length s.before

    n : ℕ
    n = length spills - 1

    len : length spills ≡ suc n
    len = omega (arith, some_spills from to spills s.chain s.some)

    whole : length row ≡ nb + (length spills + length s.after)
    whole = omega (arith, ap length s.parts, length-append s.before (spills ++ s.after), length-append spills s.after)

    a_place : (get_or row nb d).from ≡ from → a ≡ nb
    a_place begins =
        elim (cases_lt nb a) [
          | inl lt ↦ absurd (omega (arith, ltb-true _ _ (at_a.0 nb d (omega arith) lt), begins))
          | inr le ↦ elim (cases_eq a nb) [
            | inl e ↦ e
            | inr e ↦
                let lt : a < nb = omega arith in
                let within : nb < length row = omega (arith, whole, len) in
                absurd (omega (arith, begins, ltb-false _ _ (at_a.1 a d (omega arith) (omega arith)), proper begin row end a d h (omega arith), ordered begin row end a nb d h lt within))
          ]
        ]

    b_place : (get_or row (nb + n) d).to ≡ to → b ≡ suc (nb + n)
    b_place ends =
        elim (cases_lt (nb + n) b) [
          | inl lt ↦ elim (cases_eq b (suc (nb + n))) [
            | inl e ↦ e
            | inr e ↦
                let more : suc (nb + n) < b = omega arith in
                absurd (omega (arith, ends, leb-true _ _ (at_b.0 (suc (nb + n)) d (omega arith) more), proper begin row end (suc (nb + n)) d h (omega arith), ordered begin row end (nb + n) (suc (nb + n)) d h (omega arith) (omega arith)))
          ]
          | inr le ↦ absurd (omega (arith, ends, leb-false _ _ (at_b.1 (nb + n) d le (omega (arith, whole, len)))))
        ]

all_spills : (P : Kept → Type 0) (before spills after : List Kept) → AllByRecursion P (before ++ (spills ++ after)) → AllByRecursion P spills
all_spills P [] [] after h = tt
all_spills P [] (k ∷ spills) after h = (h.0, all_spills P [] spills after h.1)
all_spills P (l ∷ before) spills after h = all_spills P before spills after h.1

-- what holds of each spill of a row holds of each of these
pub All-stretch : (P : Kept → Type 0) (row : List Kept) (from to : ℕ) (spills : List Kept) → IsStretch row from to spills → All P row → All P spills
All-stretch P row from to spills s h = All-from_recursion P spills (all_spills P s.before spills s.after (subst (λ (r : List Kept). AllByRecursion P r) s.parts (recursion_from_All P row h)))
