-- The part files of texts, one after another.
use Rattle.std.proofs.Common.{◌≡◌, ℕ, suc, ◌+◌, ◌-◌, ◌<◌, ◌≤◌, Bool, true, false, cond, nat_eq, List, [], ◌∷◌, ◌++◌, length, take, get_or, refl, ap, ◌∙◌, arith}
use Rattle.std.specs.List.{range_with_len}
use Rattle.std.proofs.lemmas.List.{length-map, take_all}
use Rattle.std.proofs.lemmas.List.FromFn.{length-range_with_len}
use Rattle.hop_base.specs.Meaning.{Meaning}
use Rattle.hop_chain.specs.Chain.{chained_first, chained_texts, later_texts, next_texts}
use Rattle.hop_laws.specs.Blocking.{blocking, blocking_texts}
use Rattle.hop_records.specs.Records.{records_of, split_count, with_byte}
use Rattle.hop_writer.proofs.LaterLaws.{others_of}
use Rattle.hop_top.specs.Puts.{part_files, part_name}
use Rattle.hop_top.specs.Runs.{later_parts, stage_name, stage_parts}

-- one more text
pub part_files-push : (p : ℕ) (texts : List (List ℕ)) (text : List ℕ) → part_files p (texts ++ text ∷ []) ≡ part_files p texts ++ (part_name (p + length texts), text) ∷ []
part_files-push p [] text = let e : p ≡ p + 0 = omega arith in ap (λ n. (part_name n, text) ∷ []) e
part_files-push p (t ∷ texts) text =
    let e : (p + 1) + length texts ≡ p + length (t ∷ texts) = omega arith in
    ap (λ files. (part_name p, t) ∷ files) (part_files-push (p + 1) texts text ∙ ap (λ n. part_files (p + 1) texts ++ (part_name n, text) ∷ []) e)

-- there are no more records than bytes
with_byte-length : (c : ℕ) (rs : List (List ℕ)) (n : ℕ) → length rs ≤ n → length (with_byte c rs) ≤ n + 1
with_byte-length c [] n h = omega arith
with_byte-length c (r ∷ rs) n h = omega arith

few_records : (bytes : List ℕ) → length (records_of bytes) ≤ length bytes
few_records [] = omega arith
few_records (c ∷ cs) = at (nat_eq c 10) (few_records cs)
  where
    at : (b : Bool) → length (records_of cs) ≤ length cs → length (cond b ([] ∷ records_of cs) (with_byte c (records_of cs))) ≤ length (c ∷ cs)
    at true h = omega arith
    at false h = omega (arith, with_byte-length c (records_of cs) (length cs) h)

-- so they make one split at most
pub one_split : (bytes : List ℕ) (count : ℕ) → length bytes ≤ 16777216 → count ≡ split_count 16777216 (length (records_of bytes)) → 1024 < count → ⊥
one_split bytes count few is many = omega (arith, few_records bytes)

-- a text for each partition
pub blocking_texts-length : (meaning : Meaning) (records : List (List ℕ)) (r : ℕ) → length (blocking_texts meaning records r) ≡ r
blocking_texts-length meaning records r = length-map (range_with_len 0 r) (λ p. blocking meaning records p r) ∙ length-range_with_len 0 r

-- # Part files of the later jobs of a chain

others-are : {A : Type 0} (x : A) (xs : List A) → others_of (x ∷ xs) ≡ xs
others-are x xs = let e : suc (length xs) - 1 ≡ length xs = omega arith in ap (λ n. take n xs) e ∙ take_all (length xs) xs (omega arith)

-- the first text of a job, and the others
pub stage-more : (j p : ℕ) (texts : List (List ℕ)) (d text : List ℕ) → 1 ≤ length texts → text ≡ get_or texts 0 d → (stage_name j p, text) ∷ stage_parts j (p + 1) (others_of texts) ≡ stage_parts j p texts
stage-more j p [] d text some is = absurd (omega (arith, some))
stage-more j p (x ∷ texts) d text some is = λ i. (stage_name j p, is i) ∷ stage_parts j (p + 1) (others-are x texts i)

-- the texts of the first job, and those of the others
pub later-more : (j : ℕ) (all : List (List (List ℕ))) (d texts : List (List ℕ)) → 1 ≤ length all → texts ≡ get_or all 0 d → stage_parts j 0 texts ++ later_parts (j + 1) (others_of all) ≡ later_parts j all
later-more j [] d texts some is = absurd (omega (arith, some))
later-more j (x ∷ all) d texts some is = λ i. stage_parts j 0 (is i) ++ later_parts (j + 1) (others-are x all i)

-- as many texts as later jobs
later-count : (meanings : List Meaning) (texts : List (List ℕ)) (r : ℕ) → length (later_texts meanings texts r) ≡ length meanings
later-count [] texts r = refl
later-count (meaning ∷ meanings) texts r = ap suc (later-count meanings (next_texts meaning texts r) r)

pub chained-count : (meanings : List Meaning) (texts : List (List ℕ)) (r : ℕ) → length (chained_texts meanings texts r) ≡ length meanings
chained-count [] texts r = refl
chained-count (meaning ∷ meanings) texts r = ap suc (later-count meanings (chained_first meaning texts r) r)
