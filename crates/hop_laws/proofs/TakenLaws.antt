-- One more pair of a list, and of the lists of the partitions.
use Rattle.std.proofs.Common.{◌≡◌, ◌≢◌, ℕ, ◌<◌, ◌≤◌, ◌^◌, ◌⊎◌, inl, inr, Bool, true, false, cond, List, [], ◌∷◌, ◌++◌, length, get_or, set, sym, ap, ◌∙◌, subst, length-set}
use Rattle.std.specs.Prelude.{All, ◌==◌}
use Rattle.std.proofs.lemmas.Bool.Decides.{eqb_tells}
use Rattle.std.proofs.lemmas.List.{append-nil, get_or-set_same, get_or-set_other}
use Rattle.std.proofs.lemmas.List.Elements.{All-nil, All-cons}
use Rattle.std.proofs.lemmas.List.Sorted.{IsPermutation-refl}
use Rattle.hop_base.specs.declared.value.Pair.{Pair}
use Rattle.hop_base.specs.declared.value.Val.{Val}
use Rattle.hop_base.specs.Fields.{pair_of}
use Rattle.hop_base.specs.Order.{IsValidPair}
use Rattle.hop_laws.specs.Partition.{partition_of, of_partition}
use Rattle.hop_laws.specs.Stands.{StandsFor, StandsWith}
use Rattle.hop_laws.specs.Taking.{TakesIn}
use Rattle.hop_laws.proofs.StandsLaws.{stands_merged, stands_itself}

-- one more pair, and then perhaps others that keep standing
pub added : {X : Type 0} (reduce : List ℕ → List Val → X) (old mid new : List Pair) (key text : List ℕ) (number : ℕ) → length key ≤ 131071 → length text ≤ 131071 → number < 2 ^ 64 → mid ≡ old ++ pair_of key number text ∷ [] → ((ps : List Pair) → StandsFor reduce mid ps → StandsFor reduce new ps) → StandsWith reduce old (pair_of key number text ∷ []) new
added reduce old mid new key text number short_key short_text small e keeps = λ ps valid stands.
    let one : List Pair = pair_of key number text ∷ [] in
    let valid_one : All IsValidPair one = All-cons IsValidPair (pair_of key number text) [] (record { key = short_key; value = record { number = small; text = short_text } }) (All-nil IsValidPair) in
    keeps (ps ++ one)
    (subst (λ (qs : List Pair). StandsFor reduce qs (ps ++ one)) (sym e)
    (stands_merged reduce old one (old ++ one) ps one valid_one valid (IsPermutation-refl (old ++ one)) stands (stands_itself reduce one)))

-- ---- one more pair of one partition

one_of : (p r : ℕ) (pair : Pair) (b : Bool) → (partition_of pair.key r == p) ≡ b → of_partition p r (pair ∷ []) ≡ cond b (pair ∷ []) []
one_of p r pair b e = ap (λ t. cond t (pair ∷ []) []) e

pub taken_one : {X : Type 0} (reduce : List ℕ → List Val → X) (old new : List (List Pair)) (list : List Pair) (q : ℕ) (pair : Pair) → IsValidPair pair → q < length old → q ≡ partition_of pair.key (length old) → new ≡ set old q list → StandsWith reduce (get_or old q []) (pair ∷ []) list → TakesIn reduce old (pair ∷ []) new
taken_one reduce old new list q pair valid lt e s keeps = record {
  same = ap length s ∙ length-set old q list;
  valid = All-cons IsValidPair pair [] valid (All-nil IsValidPair);
  stands = λ p below. at p (eqb_tells q p);
}
  where
    at : (p : ℕ) → (((q == p) ≡ true) × (q ≡ p)) ⊎ (((q == p) ≡ false) × (q ≢ p)) → StandsWith reduce (get_or old p []) (of_partition p (length old) (pair ∷ [])) (get_or new p [])
    at p (inl (test, is)) = λ ps valid stands.
        let now : get_or new p [] ≡ list = ap (λ ls. get_or ls p []) s ∙ ap (λ i. get_or (set old q list) i []) (sym is) ∙ get_or-set_same old q list [] lt in
        let some : of_partition p (length old) (pair ∷ []) ≡ pair ∷ [] = one_of p (length old) pair true (ap (λ n. n == p) (sym e) ∙ test) in
        subst (λ (qs : List Pair). StandsFor reduce (get_or new p []) (ps ++ qs)) (sym some)
        (subst (λ (qs : List Pair). StandsFor reduce qs (ps ++ pair ∷ [])) (sym now) (keeps ps valid (subst (λ (qs : List Pair). StandsFor reduce qs ps) (ap (λ i. get_or old i []) (sym is)) stands)))
    at p (inr (test, other)) = λ ps valid stands.
        let apart : p ≢ q = λ is. other (sym is) in
        let now : get_or new p [] ≡ get_or old p [] = ap (λ ls. get_or ls p []) s ∙ get_or-set_other old q p list [] apart in
        let none : of_partition p (length old) (pair ∷ []) ≡ [] = one_of p (length old) pair false (ap (λ n. n == p) (sym e) ∙ test) in
        subst (λ (qs : List Pair). StandsFor reduce (get_or new p []) (ps ++ qs)) (sym none)
        (subst (λ (qs : List Pair). StandsFor reduce (get_or new p []) qs) (sym (append-nil ps)) (subst (λ (qs : List Pair). StandsFor reduce qs ps) (sym now) stands))
