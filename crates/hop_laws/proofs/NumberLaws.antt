-- Pairs by their places, and those that get another number.
use Rattle.std.proofs.Common.{◌≡◌, ℕ, zero, suc, ◌<◌, List, [], ◌∷◌, ◌++◌, length, take, drop, get_or, set, refl, sym, ap, ◌∙◌, arith}
use Rattle.hop_base.specs.declared.value.Pair.{Pair}
use Rattle.hop_base.specs.Fields.{pair_of}
use Rattle.hop_laws.specs.declared.entry.Entry.{Entry}
use Rattle.hop_laws.specs.Entries.{key_in, pair_in, pairs_in}
use Rattle.hop_laws.specs.Numbers.{IsAt, renumbered}

-- an entry with another number
abbrev pub with_number : Entry → ℕ → Entry
with_number e n = record { head = e.head; number = n; at = e.at; stored_len = e.stored_len; text_len = e.text_len }

pub entry_here : (arena : List ℕ) (es : List Entry) (k : ℕ) (d : Entry) (p : Pair) → k < length es → pair_in arena (get_or es k d) ≡ p → IsAt (pairs_in arena es) k p
entry_here arena [] k d p lt e = absurd (omega arith)
entry_here arena (x ∷ es) zero d p lt e = e
entry_here arena (x ∷ es) (suc k) d p lt e = entry_here arena es k d p (omega arith) e

pub renumbered_pairs : (arena : List ℕ) (es : List Entry) (k n : ℕ) (d : Entry) → pairs_in arena (set es k (with_number (get_or es k d) n)) ≡ renumbered (pairs_in arena es) k n
renumbered_pairs arena [] k n d = refl
renumbered_pairs arena (x ∷ es) zero n d = refl
renumbered_pairs arena (x ∷ es) (suc k) n d = ap (λ ps. pair_in arena x ∷ ps) (renumbered_pairs arena es k n d)

pub renumbered_at : (arena : List ℕ) (es : List Entry) (k n : ℕ) (x d : Entry) → x ≡ get_or es k d → pairs_in arena (set es k (with_number x n)) ≡ renumbered (pairs_in arena es) k n
renumbered_at arena es k n x d e = ap (λ y. pairs_in arena (set es k (with_number y n))) e ∙ renumbered_pairs arena es k n d

pub number_here : (arena : List ℕ) (es : List Entry) (k : ℕ) (x d : Entry) (key : List ℕ) → k < length es → x ≡ get_or es k d → x.text_len ≡ 0 → key_in arena x ≡ key → IsAt (pairs_in arena es) k (pair_of key x.number [])
number_here arena es k x d key lt e none same =
    entry_here arena es k d (pair_of key x.number []) lt
    (ap (pair_in arena) (sym e) ∙ ap (λ m. pair_of (key_in arena x) x.number (take m (drop x.stored_len (drop x.at arena)))) none ∙ ap (λ q. pair_of q x.number []) same)

-- pairs around a place
pub record IsAround (ps : List Pair) (k : ℕ) (key : List ℕ) (old : ℕ) : Type 0 where
  pub before : List Pair
  pub behind : List Pair
  pub is : ps ≡ before ++ pair_of key old [] ∷ behind
  pub then : (n : ℕ) → renumbered ps k n ≡ before ++ pair_of key n [] ∷ behind

pub around : (ps : List Pair) (k : ℕ) (key : List ℕ) (old : ℕ) → IsAt ps k (pair_of key old []) → IsAround ps k key old
around [] k key old h = absurd h
around (p ∷ ps) zero key old h = record {
  before = [];
  behind = ps;
  is = ap (λ q. q ∷ ps) h;
  then = λ n. ap (λ (q : Pair). pair_of q.key n q.val.s ∷ ps) h;
}
around (p ∷ ps) (suc k) key old h =
    let a = around ps k key old h in
    record {
      before = p ∷ a.before;
      behind = a.behind;
      is = ap (λ qs. p ∷ qs) a.is;
      then = λ n. ap (λ qs. p ∷ qs) (a.then n);
    }

pub within : (ps : List Pair) (k : ℕ) (p : Pair) → IsAt ps k p → k < length ps
within [] k p h = absurd h
within (q ∷ ps) zero p h = omega arith
within (q ∷ ps) (suc k) p h = let lt = within ps k p h in omega (arith, lt)
