-- Entries as the list of their pairs.
use Rattle.std.proofs.Common.{◌≡◌, ℕ, zero, suc, ◌<◌, List, [], ◌∷◌, ◌++◌, length, take, drop, get_or, sym, ap, ◌∙◌, subst, arith}
use Rattle.std.specs.Prelude.{All, IsSorted}
use Rattle.std.specs.List.{AllByRecursion}
use Rattle.std.specs.List.Sorted.{IsPermutation}
use Rattle.std.proofs.Math.ListN.{get_or-map}
use Rattle.std.proofs.lemmas.List.{take-map, drop-map, length-map, map-append}
use Rattle.std.proofs.lemmas.List.Elements.{All-from_recursion, recursion_from_All, All-append, All-cons, All-nil}
use Rattle.std.proofs.lemmas.List.Sorted.{All-permutation, IsPermutation-map}
use Rattle.hop_base.specs.declared.value.Pair.{Pair}
use Rattle.hop_base.specs.Order.{pair_cmp, IsValidPair}
use Rattle.hop_base.specs.Sorted.{ord}
use Rattle.hop_base.proofs.Sorted.{ord_sorted, IsAscending-ord, IsAscending-IsSorted, IsSorted-IsAscending}
use Rattle.hop_base.proofs.OrderLaws.{pair_total, pair_exact}
use Rattle.hop_laws.specs.declared.entry.Entry.{Entry}
use Rattle.hop_laws.specs.Entries.{key_in, pair_in, pairs_in, IsEntry, entry_cmp}
use Rattle.hop_laws.specs.Groups.{first_key}
use Rattle.hop_laws.proofs.EntryLaws.{sorted_pairs, entries_kept, pairs_kept}
use Rattle.hop_laws.proofs.GroupLaws.{first_at}

-- ---- sorting

pub sorted_exact : (arena : List ℕ) (old new : List Entry) → All (IsEntry arena) old → IsPermutation old new → IsSorted (entry_cmp arena) new → pairs_in arena new ≡ ord pair_cmp (pairs_in arena old)
sorted_exact arena old new h p s =
    let h' : All (IsEntry arena) new = All-permutation (IsEntry arena) old new p h in
    ord_sorted pair_cmp pair_total pair_exact (pairs_in arena old) (pairs_in arena new) (IsPermutation-map (pair_in arena) old new p) (IsAscending-IsSorted pair_cmp pair_total (pairs_in arena new) (sorted_pairs arena new h' s))

valid_each : (arena : List ℕ) (es : List Entry) → AllByRecursion (IsEntry arena) es → AllByRecursion IsValidPair (pairs_in arena es)
valid_each arena [] h = tt
valid_each arena (e ∷ es) h = (h.0.valid, valid_each arena es h.1)

pub valid_pairs : (arena : List ℕ) (es : List Entry) → All (IsEntry arena) es → All IsValidPair (pairs_in arena es)
valid_pairs arena es h = All-from_recursion IsValidPair (pairs_in arena es) (valid_each arena es (recursion_from_All (IsEntry arena) es h))

pub ord_is_sorted : (ps qs : List Pair) → qs ≡ ord pair_cmp ps → IsSorted pair_cmp qs
ord_is_sorted ps qs e = subst (λ (xs : List Pair). IsSorted pair_cmp xs) (sym e) (IsSorted-IsAscending pair_cmp pair_total (ord pair_cmp ps) (IsAscending-ord pair_cmp pair_total ps))

-- ---- groups

pub first_entry : (arena : List ℕ) (es : List Entry) (e : Entry) → 0 < length es → first_key (pairs_in arena es) ≡ key_in arena (get_or es 0 e)
first_entry arena es e h = first_at (pairs_in arena es) (pair_in arena e) (omega (arith, length-map es (pair_in arena), h)) ∙ ap (λ (p : Pair). p.key) (get_or-map (pair_in arena) es 0 e)

pub entry_at : (arena : List ℕ) (es : List Entry) (i : ℕ) (e : Entry) → (get_or (pairs_in arena es) i (pair_in arena e)).key ≡ key_in arena (get_or es i e)
entry_at arena es i e = ap (λ (p : Pair). p.key) (get_or-map (pair_in arena) es i e)

pub taken_pairs : (arena : List ℕ) (es group : List Entry) (n : ℕ) → group ≡ take n es → pairs_in arena group ≡ take n (pairs_in arena es)
taken_pairs arena es group n e = ap (pairs_in arena) e ∙ sym (take-map (pair_in arena) n es)

pub dropped_pairs : (arena : List ℕ) (es later : List Entry) (n : ℕ) → later ≡ drop n es → pairs_in arena later ≡ drop n (pairs_in arena es)
dropped_pairs arena es later n e = ap (pairs_in arena) e ∙ sym (drop-map (pair_in arena) n es)

-- the first key of the first pairs is that of all
pub first_taken : (ps qs : List Pair) (n : ℕ) → 0 < n → qs ≡ take n ps → first_key ps ≡ first_key qs
first_taken ps qs zero h e = absurd (omega arith)
first_taken [] qs (suc n) h e = ap first_key (sym e)
first_taken (p ∷ ps) qs (suc n) h e = ap first_key (sym e)

-- ---- one more entry

pub pushed_entries : (arena grown : List ℕ) (es : List Entry) (e : Entry) → take (length arena) grown ≡ arena → All (IsEntry arena) es → IsEntry grown e → All (IsEntry grown) (es ++ e ∷ [])
pushed_entries arena grown es e k h n = All-append (IsEntry grown) es (e ∷ []) (entries_kept arena grown es k h) (All-cons (IsEntry grown) e [] n (All-nil (IsEntry grown)))

pub pushed_pairs : (arena grown : List ℕ) (es : List Entry) (e : Entry) (p : Pair) → take (length arena) grown ≡ arena → All (IsEntry arena) es → pair_in grown e ≡ p → pairs_in grown (es ++ e ∷ []) ≡ pairs_in arena es ++ p ∷ []
pushed_pairs arena grown es e p k h n = map-append (pair_in grown) es (e ∷ []) ∙ ap (λ ps. ps ++ pair_in grown e ∷ []) (pairs_kept arena grown es k h) ∙ ap (λ q. pairs_in arena es ++ q ∷ []) n
