-- What a sheet is combined to is in order.
use Rattle.std.proofs.Common.{◌≡◌, ℕ, Bool, true, false, ◌||◌, List, [], ◌∷◌, ◌++◌, refl, sym, ap, ◌∙◌}
use Rattle.std.specs.Prelude.{All, IsSorted}
use Rattle.std.specs.List.{list_any, flat_map}
use Rattle.std.specs.Str.{bytes_eq}
use Rattle.std.specs.declared.cmp.Ordering.TheVariants.{Less}
use Rattle.std.specs.Ordering.{is_gt, ordering_then}
use Rattle.std.specs.Cmp.{tied_itself}
use Rattle.hop_base.specs.declared.value.Val.{Val}
use Rattle.hop_base.specs.declared.value.Pair.{Pair}
use Rattle.hop_base.specs.Order.{key_cmp, val_cmp, pair_cmp, IsValidPair}
use Rattle.hop_base.specs.Sorted.{ord}
use Rattle.hop_base.proofs.Sorted.{IsUptoAll, IsAscending, IsAscending-IsSorted, IsSorted-IsAscending}
use Rattle.hop_base.proofs.OrderLaws.{key_total, val_total, pair_total}
use Rattle.hop_laws.specs.Groups.{values_of, keys_of, AllAboveKey}
use Rattle.hop_laws.specs.Laws.{AlwaysCombinesWell}
use Rattle.hop_laws.specs.Stands.{pairs_at, combined_pairs}
use Rattle.hop_laws.proofs.Keys.{IsBelowAll, IsStrict, strict_keys, has_keys}
use Rattle.hop_laws.proofs.Values.{key_itself}
use Rattle.hop_laws.proofs.StandsLaws.{some_values, valid_values}

upto_above : (k : List ℕ) (v : Val) (qs : List Pair) → AllAboveKey k qs → IsUptoAll pair_cmp (record { key = k; val = v }) qs
upto_above k v [] h = tt
upto_above k v (q ∷ qs) h = (ap (λ o. is_gt (ordering_then o (val_cmp v q.val))) h.0, upto_above k v qs h.1)

upto_group : (k : List ℕ) (v : Val) (vs : List Val) (qs : List Pair) → IsUptoAll val_cmp v vs → AllAboveKey k qs → IsUptoAll pair_cmp (record { key = k; val = v }) (pairs_at k vs ++ qs)
upto_group k v [] qs u h = upto_above k v qs h
upto_group k v (w ∷ ws) qs u h = (ap (λ o. is_gt (ordering_then o (val_cmp v w))) (tied_itself key_total k) ∙ u.0, upto_group k v ws qs u.1 h)

-- values of a key in order, and then pairs of greater keys
ascending_group : (k : List ℕ) (vs : List Val) (qs : List Pair) → IsAscending val_cmp vs → IsAscending pair_cmp qs → AllAboveKey k qs → IsAscending pair_cmp (pairs_at k vs ++ qs)
ascending_group k [] qs a b h = b
ascending_group k (v ∷ vs) qs a b h = (upto_group k v vs qs a.0 h, ascending_group k vs qs a.1 b h)

above_group : (k l : List ℕ) (vs : List Val) (qs : List Pair) → key_cmp k l ≡ Less → AllAboveKey k qs → AllAboveKey k (pairs_at l vs ++ qs)
above_group k l [] qs e h = h
above_group k l (v ∷ vs) qs e h = (e, above_group k l vs qs e h)

above_groups : (k : List ℕ) (f : List ℕ → List Val) (ks : List (List ℕ)) → IsBelowAll k ks → AllAboveKey k (flat_map (λ l. pairs_at l (f l)) ks)
above_groups k f [] h = tt
above_groups k f (l ∷ ls) h = above_group k l (f l) (flat_map (λ m. pairs_at m (f m)) ls) h.0 (above_groups k f ls h.1)

or_true : (b : Bool) → (b || true) ≡ true
or_true true = refl
or_true false = refl

ascending_groups : (f : List ℕ → List Val) (ks : List (List ℕ)) → IsStrict ks → ((k : List ℕ) → list_any (bytes_eq k) ks ≡ true → IsAscending val_cmp (f k)) → IsAscending pair_cmp (flat_map (λ k. pairs_at k (f k)) ks)
ascending_groups f [] s h = tt
ascending_groups f (k ∷ ks) s h =
    ascending_group k (f k) (flat_map (λ l. pairs_at l (f l)) ks)
    (h k (ap (λ b. b || list_any (bytes_eq k) ks) (key_itself k)))
    (ascending_groups f ks s.1 (λ l e. h l (ap (λ b. bytes_eq l k || b) e ∙ or_true (bytes_eq l k))))
    (above_groups k f ks s.0)

pub combined_sorted : (combine : List ℕ → List Val → List Val) (ps : List Pair) → AlwaysCombinesWell combine → All IsValidPair ps → IsSorted pair_cmp (combined_pairs combine ps)
combined_sorted combine ps well valid =
    IsSorted-IsAscending pair_cmp pair_total (combined_pairs combine ps)
    (ascending_groups (λ k. combine k (ord val_cmp (values_of k ps))) (keys_of ps) (strict_keys ps)
    (λ k e. IsAscending-IsSorted val_cmp val_total _ (well k (values_of k ps) (some_values k ps (sym (has_keys k ps) ∙ e)) (valid_values k ps valid)).sorted))
