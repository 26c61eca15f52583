-- Where reading a spill fails no spill's text that begins so can go on.
use Rattle.std.proofs.Common.{◌≡◌, ◌≢◌, ℕ, suc, ◌+◌, ◌-◌, ◌<◌, ◌≤◌, ◌⊎◌, inl, inr, Bool, true, false, cond, eqb, List, [], ◌∷◌, ◌++◌, length, take, drop, Result, Ok, Err, refl, sym, ap, subst, ◌∙◌, append_assoc, arith}
use Rattle.std.specs.List.{concat, flat_map}
use Rattle.std.proofs.lemmas.List.{length-append, length-drop, take-append-drop}
use Rattle.hop_base.specs.declared.value.Pair.{Pair}
use Rattle.hop_spill.specs.declared.spill.Spill.{Spill}
use Rattle.hop_spill.specs.declared.decoding.Head.{Head}
use Rattle.hop_spill.specs.declared.spill.SpillFault.{SpillFault}
use Rattle.hop_spill.specs.declared.spill.SpillFault.TheVariants as fault
use Rattle.hop_spill.specs.Pieces.{pieces, sheet_pieces, StopsAt}
use Rattle.hop_base.specs.Fields.{word}
use Rattle.hop_spill.specs.Spelling.{magic, IsSpill}
use Rattle.hop_spill.specs.Reading.{◌>>=◌, word_within, head_at, sheets_at, front_at, spill_at}
use Rattle.hop_spill.proofs.FieldLaws.{word_within_again}
use Rattle.hop_spill.proofs.PieceLaws.{Skips, skips_ok, skips_bind, word_within_within, sheets_within, PassesAll, passes_more, word_here, sheets_pass, err_is, ok_not_err}

abbrev spill_of : Head → List (List Pair) → Spill
spill_of h sheets = record { split = h.split; attempt = h.attempt; from = h.from; to = h.to; sheets = sheets }

abbrev head_of : Spill → Head
head_of s = record { split = s.split; attempt = s.attempt; from = s.from; to = s.to; reducers = length s.sheets }

-- what is done behind each field of the head
abbrev with_sheets : Head → List (List Pair) × List ℕ → Result (Spill × List ℕ) ℕ
with_sheets head sheets = Ok (spill_of head sheets.0, sheets.1)

abbrev behind_head : Head × List ℕ → Result (Spill × List ℕ) ℕ
behind_head head = sheets_at head.0.reducers 0 head.0.reducers head.1 >>= with_sheets head.0

abbrev behind_reducers : ℕ → ℕ → ℕ → ℕ → ℕ × List ℕ → Result (Head × List ℕ) ℕ
behind_reducers split attempt from to reducers = Ok (record { split = split; attempt = attempt; from = from; to = to; reducers = reducers.0 }, reducers.1)

abbrev behind_to : ℕ → ℕ → ℕ → ℕ × List ℕ → Result (Head × List ℕ) ℕ
behind_to split attempt from to = word_within 1 8 to.1 >>= behind_reducers split attempt from to.0

abbrev behind_from : ℕ → ℕ → ℕ × List ℕ → Result (Head × List ℕ) ℕ
behind_from split attempt from = word_within (from.0 + 1) 16777216 from.1 >>= behind_to split attempt from.0

abbrev behind_attempt : ℕ → ℕ × List ℕ → Result (Head × List ℕ) ℕ
behind_attempt split attempt = word_within 0 16777215 attempt.1 >>= behind_from split attempt.0

abbrev behind_split : ℕ × List ℕ → Result (Head × List ℕ) ℕ
behind_split split = word_within 0 15 split.1 >>= behind_attempt split.0

abbrev behind_letters : ℕ × List ℕ → Result (Head × List ℕ) ℕ
behind_letters letters = word_within 0 1023 letters.1 >>= behind_split

-- ---- each of them leaves fewer bytes

head_within : (head : Head × List ℕ) (n m : ℕ) → length head.1 ≤ n → Skips (behind_head head) n m
head_within head n m le = skips_bind (sheets_at head.0.reducers 0 head.0.reducers head.1) (with_sheets head.0) n m (sheets_within head.0.reducers 0 head.0.reducers head.1 n m le) (λ sheets h. skips_ok (spill_of head.0 sheets.0, sheets.1) n m h)

to_within : (split attempt from : ℕ) (to : ℕ × List ℕ) (n m : ℕ) → length to.1 ≤ n → Skips (behind_to split attempt from to) n m
to_within split attempt from to n m le = skips_bind (word_within 1 8 to.1) (behind_reducers split attempt from to.0) n m (word_within_within 1 8 to.1 n m le) (λ x h. skips_ok _ n m h)

from_within : (split attempt : ℕ) (from : ℕ × List ℕ) (n m : ℕ) → length from.1 ≤ n → Skips (behind_from split attempt from) n m
from_within split attempt from n m le = skips_bind (word_within (from.0 + 1) 16777216 from.1) (behind_to split attempt from.0) n m (word_within_within (from.0 + 1) 16777216 from.1 n m le) (λ x h. to_within split attempt from.0 x n m h)

attempt_within : (split : ℕ) (attempt : ℕ × List ℕ) (n m : ℕ) → length attempt.1 ≤ n → Skips (behind_attempt split attempt) n m
attempt_within split attempt n m le = skips_bind (word_within 0 16777215 attempt.1) (behind_from split attempt.0) n m (word_within_within 0 16777215 attempt.1 n m le) (λ x h. from_within split attempt.0 x n m h)

split_within : (split : ℕ × List ℕ) (n m : ℕ) → length split.1 ≤ n → Skips (behind_split split) n m
split_within split n m le = skips_bind (word_within 0 15 split.1) (behind_attempt split.0) n m (word_within_within 0 15 split.1 n m le) (λ x h. attempt_within split.0 x n m h)

letters_within : (letters : ℕ × List ℕ) (n m : ℕ) → length letters.1 ≤ n → Skips (behind_letters letters) n m
letters_within letters n m le = skips_bind (word_within 0 1023 letters.1) behind_split n m (word_within_within 0 1023 letters.1 n m le) (λ x h. split_within x n m h)

-- what was read of a head, with what is done behind it
whole_within : (r : Result (Head × List ℕ) ℕ) (n m : ℕ) → Skips r n m → Skips (r >>= behind_head) n m
whole_within r n m s = skips_bind r behind_head n m s (λ x h. head_within x n m h)

front_within : (bytes : List ℕ) (n m : ℕ) → length bytes ≤ n → Skips (front_at bytes) n m
unfolding front_at head_at
front_within bytes n m le =
    whole_within (word_within magic magic bytes >>= behind_letters) n m (skips_bind (word_within magic magic bytes) behind_letters n m (word_within_within magic magic bytes n m le) (λ x h. letters_within x n m h))

-- ---- the pieces of a spill are passed

module _ (s : Spill) (is : IsSpill s) where
  sheets_passed : PassesAll (flat_map sheet_pieces s.sheets) (λ rest. behind_head (head_of s, rest))
  sheets_passed = sheets_pass 0 (length s.sheets) s.sheets is.sheets (with_sheets (head_of s)) (λ x n m h. skips_ok (spill_of (head_of s) x.0, x.1) n m h)

  -- one field of the head more in front
  field_more : (k low high : ℕ) (texts : List (List ℕ)) (reader : List ℕ → Result (Spill × List ℕ) ℕ) (behind : ℕ × List ℕ → Result (Head × List ℕ) ℕ) → low ≤ k → k ≤ high → high < 4294967296
      → ((rest : List ℕ) → reader rest ≡ ((word_within low high rest >>= behind) >>= behind_head))
      → ((x : ℕ × List ℕ) (n m : ℕ) → length x.1 ≤ n → Skips (behind x) n m)
      → PassesAll texts (λ rest. behind (k, rest) >>= behind_head) → PassesAll (word k ∷ texts) reader
  field_more k low high texts reader behind lo hi few is_reader within others =
      let next : List ℕ → Result (Spill × List ℕ) ℕ = λ rest. behind (k, rest) >>= behind_head in
      let reads : (rest : List ℕ) → reader (word k ++ rest) ≡ next rest = λ rest. is_reader (word k ++ rest) ∙ ap (λ (a : Result (ℕ × List ℕ) ℕ). (a >>= behind) >>= behind_head) (word_within_again low high k rest lo hi few) in
      passes_more (word k) texts reader next reads (word_here k reader next reads (λ rest n m h. whole_within (behind (k, rest)) n m (within (k, rest) n m h))) others

  pieces_passed : PassesAll (pieces s) front_at
  unfolding front_at head_at
  pieces_passed =
      field_more magic magic magic _ front_at behind_letters (omega arith) (omega arith) (omega arith) (λ rest. refl) letters_within
      (field_more s.split 0 1023 _ _ behind_split (omega arith) is.split (omega arith) (λ rest. refl) split_within
      (field_more s.attempt 0 15 _ _ (behind_attempt s.split) (omega arith) is.attempt (omega arith) (λ rest. refl) (attempt_within s.split)
      (field_more s.from 0 16777215 _ _ (behind_from s.split s.attempt) (omega arith) (omega (arith, is.from)) (omega arith) (λ rest. refl) (from_within s.split s.attempt)
      (field_more s.to (s.from + 1) 16777216 _ _ (behind_to s.split s.attempt s.from) (omega (arith, is.some)) is.to (omega arith) (λ rest. refl) (to_within s.split s.attempt s.from)
      (field_more (length s.sheets) 1 8 _ _ (behind_reducers s.split s.attempt s.from s.to) is.some_reducer is.few_reducers (omega arith) (λ rest. refl) (λ x n m h. skips_ok _ n m h)
      sheets_passed)))))

-- ---- the place

-- where a spill's reading fails, seen from what its front leaves
fails_so : (front : Result (Spill × List ℕ) ℕ) (n m left : ℕ) → Skips front n m → (front >>= λ spill. cond (eqb (length spill.1) 0) (Ok spill.0) (Err (length spill.1))) ≡ Err left → (left ≤ n) ⊎ (m ≤ left)
fails_so (Err d) n m left s e = s.fails left (ap (λ (k : ℕ). Err k) (err_is d left e))
fails_so (Ok x) n m left s e = at (eqb (length x.1) 0) e
  where
    at : (b : Bool) → cond b (Ok x.0) (Err (length x.1)) ≡ Err left → (left ≤ n) ⊎ (m ≤ left)
    at true f = absurd (ok_not_err x.0 left f)
    at false f = inl (subst (λ (k : ℕ). k ≤ n) (err_is (length x.1) left f) (s.rests x refl))

some_bytes : (piece : List ℕ) → piece ≢ [] → 0 < length piece
some_bytes [] some = absurd (some refl)
some_bytes (b ∷ bs) some = omega arith

-- no spill's text that begins as the bytes do before the place goes on with a piece that stands there
stops_where_it_fails : (bytes : List ℕ) (left : ℕ) → spill_at bytes ≡ Err left → StopsAt bytes (length bytes - left)
unfolding spill_at
stops_where_it_fails bytes left e s piece more is goes stands =
    let place : ℕ = length bytes - left in
    let before : bytes ≡ take place bytes ++ drop place bytes = sym (take-append-drop place bytes) in
    let grouped : bytes ≡ concat goes.next.done ++ (goes.inside ++ (piece ++ more)) =
    before ∙ ap (λ (t : List ℕ). take place bytes ++ t) stands ∙ ap (λ (t : List ℕ). t ++ (piece ++ more)) goes.before_is ∙ append_assoc goes.start goes.inside (piece ++ more) ∙ ap (λ (t : List ℕ). t ++ (goes.inside ++ (piece ++ more))) goes.next.before_is in
    let passed = pieces_passed s is goes.next.done goes.text goes.next.later goes.inside piece more goes.next.texts_are goes.place in
    let far : Skips (front_at bytes) (length more) (suc (length piece + length more)) = subst (λ (t : List ℕ). Skips (front_at t) (length more) (suc (length piece + length more))) (sym grouped) passed in
    let near : (left ≤ length bytes) ⊎ (suc left ≤ left) = fails_so (front_at bytes) (length bytes) (suc left) left (front_within bytes (length bytes) (suc left) (omega arith)) e in
    let most : left ≤ length bytes = elim near [
      | inl h ↦ h
      | inr h ↦ absurd (omega (arith, h))
    ] in
    let rest : length (drop place bytes) ≡ left = omega (arith, length-drop place bytes, most) in
    let size : left ≡ length piece + length more = sym rest ∙ ap {B = ℕ} length stands ∙ length-append piece more in
    elim (fails_so (front_at bytes) (length more) (suc (length piece + length more)) left far e) [
      | inl h ↦ omega (arith, h, size, some_bytes piece goes.some)
      | inr h ↦ omega (arith, h, size)
    ]

damaged_is : {S : Type 0} (a b : ℕ) → ◌≡◌ {A = Result S SpillFault} (Err (fault.Damaged a)) (Err (fault.Damaged b)) → a ≡ b
damaged_is a b e = cc

-- the place that is answered
pub stops_as_answered : {S : Type 0} (bytes : List ℕ) (left found place : ℕ) → spill_at bytes ≡ Err left → found ≡ length bytes - left → ◌≡◌ {A = Result S SpillFault} (Err (fault.Damaged found)) (Err (fault.Damaged place)) → StopsAt bytes place
stops_as_answered bytes left found place e is answer = subst (StopsAt bytes) (sym is ∙ damaged_is found place answer) (stops_where_it_fails bytes left e)
