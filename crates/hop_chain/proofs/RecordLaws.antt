-- The records of texts that end their lines.
use Rattle.std.proofs.Common.{◌≡◌, ℕ, ◌≤◌, Bool, true, false, cond, List, [], ◌∷◌, ◌++◌, length, nat_eq, refl, sym, ap, subst, ◌∙◌, inl, inr}
use Rattle.std.specs.Prelude.{All, ◌==◌, ◌⊎◌}
use Rattle.std.specs.List.{slice_split, onto_first, AllByRecursion, concat, flat_map}
use Rattle.std.proofs.lemmas.List.Elements.{All-append, All-from_recursion, All-nil, All-same, recursion_from_All}
use Rattle.hop_laws.specs.Laws.{EndsLine, IsWholeLines}
use Rattle.hop_records.specs.Records.{records_of, with_byte}
use Rattle.hop_chain.specs.Chain.{HasShortLines, HasShortRecords}

-- ---- records and pieces

-- the pieces are the records, and maybe an empty one
abbrev AreRecords : List (List ℕ) → List (List ℕ) → Type 0
AreRecords pieces records = (pieces ≡ records) ⊎ (pieces ≡ records ++ [] ∷ [])

onto_same : (x : ℕ) (records : List (List ℕ)) → onto_first x records ≡ with_byte x records
onto_same x [] = refl
onto_same x (first ∷ others) = refl

onto_more : (x : ℕ) (pieces records : List (List ℕ)) → pieces ≡ records ++ [] ∷ [] → AreRecords (onto_first x pieces) (with_byte x records)
onto_more x pieces [] e = inl (ap (onto_first x) e)
onto_more x pieces (first ∷ others) e = inr (ap (onto_first x) e)

one_byte : (x : ℕ) (b : Bool) (pieces records : List (List ℕ)) → AreRecords pieces records → AreRecords (cond b ([] ∷ pieces) (onto_first x pieces)) (cond b ([] ∷ records) (with_byte x records))
one_byte x true pieces records (inl e) = inl (ap (λ ps. [] ∷ ps) e)
one_byte x true pieces records (inr e) = inr (ap (λ ps. [] ∷ ps) e)
one_byte x false pieces records (inl e) = inl (ap (onto_first x) e ∙ onto_same x records)
one_byte x false pieces records (inr e) = onto_more x pieces records e

are_records : (text : List ℕ) → AreRecords (slice_split (λ b. b == 10) text) (records_of text)
are_records [] = inr refl
are_records (x ∷ text) = one_byte x (x == 10) (slice_split (λ b. b == 10) text) (records_of text) (are_records text)

all_front : {X : Type 0} (P : X → Type 0) (xs ys : List X) → AllByRecursion P (xs ++ ys) → AllByRecursion P xs
all_front P [] ys h = tt
all_front P (x ∷ xs) ys h = (h.0, all_front P xs ys h.1)

short_records : (n : ℕ) (pieces records : List (List ℕ)) → AreRecords pieces records → All (λ line. length line ≤ n) pieces → All (λ line. length line ≤ n) records
short_records n pieces records (inl e) h = All-same (λ line. length line ≤ n) records pieces (sym e) h
short_records n pieces records (inr e) h =
    let with_last : All (λ line. length line ≤ n) (records ++ [] ∷ []) = All-same (λ line. length line ≤ n) (records ++ [] ∷ []) pieces (sym e) h in
    All-from_recursion (λ line. length line ≤ n) records (all_front (λ line. length line ≤ n) records ([] ∷ []) (recursion_from_All (λ line. length line ≤ n) (records ++ [] ∷ []) with_last))

-- what is true of whole lines
pub lines_of_whole : (n : ℕ) (text : List ℕ) → IsWholeLines n text → HasShortLines n text
lines_of_whole n text h = record {
  ended = h.ended;
  short = short_records n (slice_split (λ b. b == 10) text) (records_of text) (are_records text) h.short;
}

-- ---- one text behind another

first_kept : (x y : ℕ) (b : Bool) (records more : List (List ℕ)) → with_byte x (cond b ([] ∷ records) (with_byte y records) ++ more) ≡ with_byte x (cond b ([] ∷ records) (with_byte y records)) ++ more
first_kept x y true records more = refl
first_kept x y false [] more = refl
first_kept x y false (first ∷ others) more = refl

byte_behind : (x : ℕ) (b : Bool) (joined records more : List (List ℕ)) → joined ≡ records ++ more → with_byte x (records ++ more) ≡ with_byte x records ++ more → cond b ([] ∷ joined) (with_byte x joined) ≡ cond b ([] ∷ records) (with_byte x records) ++ more
byte_behind x true joined records more e kept = ap (λ rs. [] ∷ rs) e
byte_behind x false joined records more e kept = ap (with_byte x) e ∙ kept

records_behind : (a b : List ℕ) → EndsLine a → records_of (a ++ b) ≡ records_of a ++ records_of b
records_behind [] b h = refl
records_behind (x ∷ []) b h = subst (λ c. records_of (c ∷ b) ≡ records_of (c ∷ []) ++ records_of b) (sym h) refl
records_behind (x ∷ y ∷ a) b h =
    byte_behind x (nat_eq x 10) (records_of (y ∷ (a ++ b))) (records_of (y ∷ a)) (records_of b) (records_behind (y ∷ a) b h) (first_kept x y (nat_eq y 10) (records_of a) (records_of b))

ends_behind : (a b : List ℕ) → EndsLine a → EndsLine b → EndsLine (a ++ b)
ends_behind [] b h k = k
ends_behind (x ∷ []) [] h k = h
ends_behind (x ∷ []) (y ∷ b) h k = k
ends_behind (x ∷ y ∷ a) b h k = ends_behind (y ∷ a) b h k

lines_behind : (n : ℕ) (a b : List ℕ) → HasShortLines n a → HasShortLines n b → HasShortLines n (a ++ b)
lines_behind n a b h k = record {
  ended = ends_behind a b h.ended k.ended;
  short = All-same (λ line. length line ≤ n) (records_of (a ++ b)) (records_of a ++ records_of b) (records_behind a b h.ended)
      (All-append (λ line. length line ≤ n) (records_of a) (records_of b) h.short k.short);
}

lines_none : (n : ℕ) → HasShortLines n []
lines_none n = record { ended = tt; short = All-nil (λ line. length line ≤ n) }

-- texts that are made of items, joined
pub lines_each : {X : Type 0} (n : ℕ) (text : X → List ℕ) (xs : List X) → AllByRecursion (λ x. HasShortLines n (text x)) xs → HasShortLines n (flat_map text xs)
lines_each n text [] h = lines_none n
lines_each n text (x ∷ xs) h = lines_behind n (text x) (flat_map text xs) h.0 (lines_each n text xs h.1)

lines_joined : (n : ℕ) (texts : List (List ℕ)) → AllByRecursion (HasShortLines n) texts → HasShortLines n (concat texts)
lines_joined n [] h = lines_none n
lines_joined n (text ∷ texts) h = lines_behind n text (concat texts) h.0 (lines_joined n texts h.1)

-- texts, joined
pub records_joined : (n : ℕ) (texts : List (List ℕ)) → All (HasShortLines n) texts → HasShortRecords n texts
records_joined n texts h = (lines_joined n texts (recursion_from_All (HasShortLines n) texts h)).short
