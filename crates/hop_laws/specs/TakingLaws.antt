-- What the lists of the partitions stand for, as they take pairs.
use Rattle.std.proofs.Common.{◌≡◌, ℕ, List, [], ◌++◌, length, get_or, refl, sym, ap, ◌∙◌, subst, arith, append_assoc}
use Rattle.std.specs.Prelude.{◌==◌}
use Rattle.std.proofs.lemmas.List.{append-nil}
use Rattle.std.proofs.lemmas.List.Elements.{All-nil, All-append, All-filter, filter-append}
use Rattle.hop_base.specs.declared.value.Pair.{Pair}
use Rattle.hop_base.specs.declared.value.Val.{Val}
use Rattle.hop_base.specs.Order.{IsValidPair}
use Rattle.hop_laws.specs.Partition.{partition_of, of_partition}
use Rattle.hop_laws.specs.Stands.{StandsFor}
use Rattle.hop_laws.specs.Taking.{TakesIn}

-- no pairs
pub none_taken : {X : Type 0} (reduce : List ℕ → List Val → X) (lists : List (List Pair)) → TakesIn reduce lists [] lists
none_taken reduce lists = record {
  same = refl;
  valid = All-nil IsValidPair;
  stands = λ p below ps valid stands. subst (λ (qs : List Pair). StandsFor reduce (get_or lists p []) qs) (sym (append-nil ps)) stands;
}

-- some pairs and then others
more_taken : {X : Type 0} (reduce : List ℕ → List Val → X) (a b c : List (List Pair)) (ps qs : List Pair) → TakesIn reduce a ps b → TakesIn reduce b qs c → TakesIn reduce a (ps ++ qs) c
more_taken reduce a b c ps qs h k = record {
  same = k.same ∙ h.same;
  valid = All-append IsValidPair ps qs h.valid k.valid;
  stands = λ p below us valid stands.
      let first : List Pair = of_partition p (length a) ps in
      let both : (us ++ first) ++ of_partition p (length b) qs ≡ us ++ of_partition p (length a) (ps ++ qs) =
      append_assoc us first (of_partition p (length b) qs) ∙ ap (λ n. us ++ (first ++ of_partition p n qs)) h.same ∙ ap (λ xs. us ++ xs) (sym (filter-append (λ (pair : Pair). partition_of pair.key (length a) == p) ps qs)) in
      subst (λ (xs : List Pair). StandsFor reduce (get_or c p []) xs) both
      (k.stands p (omega (arith, h.same)) (us ++ first) (All-append IsValidPair us first valid (All-filter (λ (pair : Pair). partition_of pair.key (length a) == p) IsValidPair ps h.valid)) (h.stands p below us valid stands));
}

-- the same where the second step is known by another name of the function
pub more_taken_by : {X : Type 0} (reduce other : List ℕ → List Val → X) (a b c : List (List Pair)) (ps qs : List Pair) → other ≡ reduce → TakesIn reduce a ps b → TakesIn other b qs c → TakesIn reduce a (ps ++ qs) c
more_taken_by {X} reduce other a b c ps qs e h k = more_taken reduce a b c ps qs h (subst (λ (f : List ℕ → List Val → X). TakesIn f b qs c) e k)
