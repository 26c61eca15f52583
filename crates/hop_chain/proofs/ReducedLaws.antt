-- What a job writes over short records has lines that are little longer.
use Rattle.std.proofs.Common.{ℕ, ◌+◌, ◌≤◌, Bool, true, false, cond, List, [], ◌∷◌, length, map, arith}
use Rattle.std.specs.Prelude.{All, ◌==◌, filter}
use Rattle.std.specs.List.{AllByRecursion, flat_map, range_with_len}
use Rattle.std.specs.Ordering.{is_gt}
use Rattle.std.specs.Str.{bytes_eq}
use Rattle.std.proofs.lemmas.List.Elements.{All-append, All-filter, All-from_recursion, All-head, All-map, All-nil, All-tail, All-weaker, recursion_from_All}
use Rattle.hop_base.specs.Meaning.{Meaning}
use Rattle.hop_base.specs.Order.{IsValidPair, key_cmp, val_cmp}
use Rattle.hop_base.specs.Sorted.{ord}
use Rattle.hop_base.specs.declared.value.Pair.{Pair}
use Rattle.hop_base.specs.declared.value.Val.{Val}
use Rattle.hop_laws.specs.Blocking.{blocking, blocking_texts, emitted}
use Rattle.hop_laws.specs.Groups.{add_key, keys_of, red, values_of}
use Rattle.hop_laws.specs.Laws.{IsLawful}
use Rattle.hop_laws.specs.Partition.{partition_of}
use Rattle.hop_laws.proofs.Emitted.{valid_emitted}
use Rattle.hop_laws.proofs.StandsLaws.{valid_values}
use Rattle.hop_chain.specs.Chain.{HasShortLines, HasShortRecords}
use Rattle.hop_chain.proofs.RecordLaws.{lines_each, lines_of_whole, records_joined}

-- neither the key nor the text of the value is longer
record IsBrief (n : ℕ) (p : Pair) : Type 0 where
  key : length p.key ≤ n
  text : length p.val.s ≤ n

-- ---- keys and values

key_at : (n : ℕ) (k l : List ℕ) (ls more : List (List ℕ)) (b c : Bool) → length k ≤ n → AllByRecursion (λ k. length k ≤ n) (l ∷ ls) → AllByRecursion (λ k. length k ≤ n) more → AllByRecursion (λ k. length k ≤ n) (cond b (l ∷ ls) (cond c (l ∷ more) (k ∷ l ∷ ls)))
key_at n k l ls more true c h hs ms = hs
key_at n k l ls more false true h hs ms = (hs.0, ms)
key_at n k l ls more false false h hs ms = (h, hs)

key_more : (n : ℕ) (k : List ℕ) (ks : List (List ℕ)) → length k ≤ n → AllByRecursion (λ k. length k ≤ n) ks → AllByRecursion (λ k. length k ≤ n) (add_key k ks)
key_more n k [] h hs = (h, tt)
key_more n k (l ∷ ls) h hs = key_at n k l ls (add_key k ls) (bytes_eq k l) (is_gt (key_cmp k l)) h hs (key_more n k ls h hs.1)

brief_keys : (n : ℕ) (ps : List Pair) → All (IsBrief n) ps → AllByRecursion (λ k. length k ≤ n) (keys_of ps)
brief_keys n [] h = tt
brief_keys n (p ∷ ps) h = key_more n p.key (keys_of ps) (All-head (IsBrief n) p ps h).key (brief_keys n ps (All-tail (IsBrief n) p ps h))

brief_values : (n : ℕ) (k : List ℕ) (ps : List Pair) → All (IsBrief n) ps → All (λ v. length v.s ≤ n) (values_of k ps)
brief_values n k ps h =
    let brief : Pair → Type 0 = λ p. length p.val.s ≤ n in
    All-map (λ (v : Val). length v.s ≤ n) (λ (p : Pair). p.val) (filter (λ p. bytes_eq k p.key) ps) (All-filter (λ (p : Pair). bytes_eq k p.key) brief ps (All-weaker (IsBrief n) brief (λ p b. b.text) ps h))

module _ (meaning : Meaning) (laws : IsLawful meaning) (n : ℕ) where
  -- ---- reduce

  reduced_lines : (ps : List Pair) → All IsValidPair ps → All (IsBrief n) ps → HasShortLines (n + 21) (red meaning.reduced ps)
  reduced_lines ps valid brief =
      let text : List ℕ → List ℕ = λ k. meaning.reduced k (ord val_cmp (values_of k ps)) in
      let keys : All (λ k. length k ≤ n) (keys_of ps) = All-from_recursion (λ k. length k ≤ n) (keys_of ps) (brief_keys n ps brief) in
      lines_each (n + 21) text (keys_of ps)
      (recursion_from_All (λ k. HasShortLines (n + 21) (text k)) (keys_of ps)
      (All-weaker (λ k. length k ≤ n) (λ k. HasShortLines (n + 21) (text k)) (λ k short. lines_of_whole (n + 21) (text k) (laws.writes_lines n k (values_of k ps) short (brief_values n k ps brief) (valid_values k ps valid))) (keys_of ps) keys))

  -- ---- map

  module _ (few : n ≤ 131050) where
    brief_line : (line : List ℕ) → length line ≤ n → All (IsBrief n) (meaning.emits line)
    brief_line line short i d lt =
        let well = laws.emits_well line (omega arith) in
        record { key = omega (arith, well.keys i d lt); text = omega (arith, well.texts i d lt) }

    brief_emitted : (records : List (List ℕ)) → All (λ line. length line ≤ n) records → All (IsBrief n) (flat_map meaning.emits records)
    brief_emitted [] h = All-nil (IsBrief n)
    brief_emitted (line ∷ records) h =
        All-append (IsBrief n) (meaning.emits line) (flat_map meaning.emits records)
        (brief_line line (All-head (λ line. length line ≤ n) line records h))
        (brief_emitted records (All-tail (λ line. length line ≤ n) line records h))

    -- ---- the whole job

    -- its text of a partition
    pub text_lines : (records : List (List ℕ)) → All (λ line. length line ≤ n) records → (p r : ℕ) → HasShortLines (n + 21) (blocking meaning records p r)
    text_lines records h p r =
        let valid = valid_emitted meaning laws records (All-weaker (λ line. length line ≤ n) (λ line. length line ≤ 131050) (λ line short. omega arith) records h) p r in
        reduced_lines (emitted meaning records p r) valid (All-filter (λ (pair : Pair). partition_of pair.key r == p) (IsBrief n) (flat_map meaning.emits records) (brief_emitted records h))

    all_lines : (records : List (List ℕ)) → All (λ line. length line ≤ n) records → (r : ℕ) (ps : List ℕ) → AllByRecursion (HasShortLines (n + 21)) (map (λ p. blocking meaning records p r) ps)
    all_lines records h r [] = tt
    all_lines records h r (p ∷ ps) = (text_lines records h p r, all_lines records h r ps)

    -- its texts, as the next job reads them
    pub texts_short : (records : List (List ℕ)) → All (λ line. length line ≤ n) records → (r : ℕ) → HasShortRecords (n + 21) (blocking_texts meaning records r)
    texts_short records h r =
        records_joined (n + 21) (blocking_texts meaning records r)
        (All-from_recursion (HasShortLines (n + 21)) (blocking_texts meaning records r) (all_lines records h r (range_with_len 0 r)))
