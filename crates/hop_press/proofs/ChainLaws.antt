-- Ranges of whole kept spills that follow each other.
use Rattle.std.proofs.Common.{◌≡◌, ℕ, ◌<◌, ◌≤◌, List, [], ◌∷◌, ◌++◌, refl, sym, ap, ◌∙◌, subst, arith, append_assoc}
use Rattle.hop_base.specs.declared.part.Part.{Part}
use Rattle.hop_vault.specs.declared.kept.Kept.{Kept}
use Rattle.hop_vault.specs.Rows.{Table, row_of, kept_end, IsChain, IsStretch}
use Rattle.hop_press.specs.Fits.{AreChained, IsWhole}

-- a chain ends no earlier than it begins
pub chain_le : (s : ℕ) (xs : List Kept) (e : ℕ) → IsChain s xs e → s ≤ e
chain_le s [] e h = omega (arith, h)
chain_le s (x ∷ xs) e h = let t : x.to ≤ e = chain_le x.to xs e h.2 in let v : s < x.to = h.1 in omega arith

-- a chain of some ends later
chain_lt : (s : ℕ) (x : Kept) (xs : List Kept) (e : ℕ) → IsChain s (x ∷ xs) e → s < e
chain_lt s x xs e h = let t : x.to ≤ e = chain_le x.to xs e h.2 in let v : s < x.to = h.1 in omega arith

-- a chain in two parts
record Parts (s : ℕ) (xs ys : List Kept) (e : ℕ) : Type 0 where
  mid : ℕ
  left : IsChain s xs mid
  right : IsChain mid ys e

parts_of : (s : ℕ) (xs ys : List Kept) (e : ℕ) → IsChain s (xs ++ ys) e → Parts s xs ys e
parts_of s [] ys e h = record { mid = s; left = refl; right = h }
parts_of s (x ∷ xs) ys e h = let t = parts_of x.to xs ys e h.2 in record { mid = t.mid; left = (h.0, h.1, t.left); right = t.right }

chain_joined : (s : ℕ) (xs ys : List Kept) (m e : ℕ) → IsChain s xs m → IsChain m ys e → IsChain s (xs ++ ys) e
chain_joined s [] ys m e g h = subst (λ n. IsChain n ys e) (sym g) h
chain_joined s (x ∷ xs) ys m e g h = (g.0, g.1, chain_joined x.to xs ys m e g.2 h)

-- two chains that begin the same list and end at the same place leave the same behind them
same_behind : (s e : ℕ) (xs ys us vs : List Kept) → IsChain s xs e → IsChain s ys e → xs ++ us ≡ ys ++ vs → us ≡ vs
same_behind s e [] [] us vs g h q = q
same_behind s e [] (y ∷ ys) us vs g h q = let t = chain_lt s y ys e h in absurd (omega (arith, g))
same_behind s e (x ∷ xs) [] us vs g h q = let t = chain_lt s x xs e g in absurd (omega (arith, h))
same_behind s e (x ∷ xs) (y ∷ ys) us vs g h q =
    let heads : x ≡ y = cc in
    let tails : xs ++ us ≡ ys ++ vs = cc in
    same_behind x.to e xs ys us vs g.2 (subst (λ (z : Kept). IsChain z.to ys e) (sym heads) h.2) tails

-- where a chain of some begins
begins_at : (s m e : ℕ) (xs ys : List Kept) (t : ℕ) → s < m → IsChain s xs m → IsChain t (xs ++ ys) e → t ≡ s
begins_at s m e [] ys t lt g h = absurd (omega (arith, g))
begins_at s m e (x ∷ xs) ys t lt g h = sym h.0 ∙ g.0

-- what stands before a stretch ends where it begins
before_it : (row : List Kept) (end from to : ℕ) (spills : List Kept) (x : IsStretch row from to spills) → IsChain 0 row end → IsChain 0 x.before from
before_it row end from to spills x h =
    let t = parts_of 0 x.before (spills ++ x.after) end (subst (λ (r : List Kept). IsChain 0 r end) x.parts h) in
    subst (λ n. IsChain 0 x.before n) (begins_at from to end spills x.after t.mid x.some x.chain t.right) t.left

-- a stretch, and one that follows it, are one
stretches_joined : (row : List Kept) (end a b c : ℕ) (xs ys : List Kept) → IsChain 0 row end → IsStretch row a b xs → IsStretch row b c ys → IsStretch row a c (xs ++ ys)
stretches_joined row end a b c xs ys chain g h =
    let left : IsChain 0 (g.before ++ xs) b = chain_joined 0 g.before xs a b (before_it row end a b xs g chain) g.chain in
    let right : IsChain 0 h.before b = before_it row end b c ys h chain in
    let both : (g.before ++ xs) ++ g.after ≡ h.before ++ (ys ++ h.after) = append_assoc g.before xs g.after ∙ sym g.parts ∙ h.parts in
    let behind : g.after ≡ ys ++ h.after = same_behind 0 b (g.before ++ xs) h.before g.after (ys ++ h.after) left right both in
    record {
      before = g.before;
      after = h.after;
      parts = g.parts ∙ ap (λ (t : List Kept). g.before ++ (xs ++ t)) behind ∙ ap (λ (t : List Kept). g.before ++ t) (sym (append_assoc xs ys h.after));
      chain = chain_joined a xs ys b c g.chain h.chain;
      some = let t = g.some in let u = h.some in omega arith;
    }

abbrev part_at : ℕ → ℕ → ℕ → ℕ → Part
part_at i a from to = record { split = i; attempt = a; from = from; to = to }

-- two ranges of whole kept spills of one attempt that follow each other are one
pub whole_joined : (table : Table) (one other both : Part) → AreChained table → IsWhole table one → IsWhole table other
    → other.split ≡ one.split → other.attempt ≡ one.attempt → other.from ≡ one.to
    → both ≡ record { split = one.split; attempt = one.attempt; from = one.from; to = other.to } → IsWhole table both
whole_joined table one other both chain g h s t u is =
    let moved : IsStretch (row_of table one.split one.attempt) one.to other.to h.spills =
    let P : Part → Type 0 = λ q. IsStretch (row_of table q.split q.attempt) q.from other.to h.spills in
    let at : part_at other.split other.attempt other.from other.to ≡ part_at one.split one.attempt one.to other.to = λ k. record { split = s k; attempt = t k; from = u k; to = other.to } in
    subst P at h.stretch in
    subst (λ (q : Part). IsWhole table q) (sym is) record {
      spills = g.spills ++ h.spills;
      stretch = stretches_joined (row_of table one.split one.attempt) (kept_end table one.split one.attempt) one.from one.to other.to g.spills h.spills (chain one.split one.attempt) g.stretch moved;
    }
