-- The laws of spill texts: what is read is spelled so, what is spelled so is read, and no text begins
-- another.
use Rattle.std.proofs.Common.{◌≡◌, ℕ, ◌+◌, ◌≤◌, cond, eqb, List, [], ◌++◌, length, Result, Ok, Err, refl, sym, ap, subst, ◌∙◌, append_assoc, arith}
use Rattle.std.specs.List.{flat_map}
use Rattle.std.proofs.lemmas.Bool.{eqb-true}
use Rattle.std.proofs.lemmas.List.{append-nil, nil_from_length}
use Rattle.hop_base.specs.declared.value.Pair.{Pair}
use Rattle.hop_spill.specs.declared.spill.Spill.{Spill}
use Rattle.hop_spill.specs.declared.decoding.Head.{Head}
use Rattle.hop_base.specs.Fields.{word}
use Rattle.hop_spill.specs.Spelling.{magic, sheet_text, head_text, spill_text, IsSpill, AreSheetsFrom}
use Rattle.hop_spill.specs.Reading.{◌>>=◌, word_within, head_at, sheets_at, front_at, spill_at}
use Rattle.hop_spill.proofs.FieldLaws.{IsBytes, bind_ok, passed_ok, ok_is, Takes, Takes-then, word_within_takes, word_within_again}
use Rattle.hop_spill.proofs.SheetLaws.{sheets_take, sheets_again}

-- ---- the head

abbrev head_words : Head → List ℕ
head_words h = word magic ++ (word h.split ++ (word h.attempt ++ (word h.from ++ (word h.to ++ word h.reducers))))

record IsHeadRange (h : Head) : Type 0 where
  pub split : h.split ≤ 1023
  pub attempt : h.attempt ≤ 15
  pub from : h.from ≤ 16777215
  pub some : h.from + 1 ≤ h.to
  pub to : h.to ≤ 16777216
  pub some_reducer : 1 ≤ h.reducers
  pub few_reducers : h.reducers ≤ 8

abbrev made_head : ℕ → ℕ → ℕ → ℕ → ℕ × List ℕ → Result (Head × List ℕ) ℕ
made_head split attempt from to reducers = Ok (record { split = split; attempt = attempt; from = from; to = to; reducers = reducers.0 }, reducers.1)

abbrev behind_to : ℕ → ℕ → ℕ → ℕ × List ℕ → Result (Head × List ℕ) ℕ
behind_to split attempt from to = word_within 1 8 to.1 >>= made_head split attempt from to.0

abbrev behind_from : ℕ → ℕ → ℕ × List ℕ → Result (Head × List ℕ) ℕ
behind_from split attempt from = word_within (from.0 + 1) 16777216 from.1 >>= behind_to split attempt from.0

abbrev behind_attempt : ℕ → ℕ × List ℕ → Result (Head × List ℕ) ℕ
behind_attempt split attempt = word_within 0 16777215 attempt.1 >>= behind_from split attempt.0

abbrev behind_split : ℕ × List ℕ → Result (Head × List ℕ) ℕ
behind_split split = word_within 0 15 split.1 >>= behind_attempt split.0

abbrev behind_letters : ℕ × List ℕ → Result (Head × List ℕ) ℕ
behind_letters letters = word_within 0 1023 letters.1 >>= behind_split

head_takes : (bytes : List ℕ) (x : Head × List ℕ) → IsBytes bytes → head_at bytes ≡ Ok x → Takes bytes (head_words x.0) x.1 × IsHeadRange x.0
unfolding head_at
head_takes bytes x fits e =
    let a = bind_ok (word_within magic magic bytes) behind_letters x e in
    let b = bind_ok (word_within 0 1023 a.0.1) behind_split x a.2 in
    let c = bind_ok (word_within 0 15 b.0.1) (behind_attempt b.0.0) x b.2 in
    let d = bind_ok (word_within 0 16777215 c.0.1) (behind_from b.0.0 c.0.0) x c.2 in
    let f = bind_ok (word_within (d.0.0 + 1) 16777216 d.0.1) (behind_to b.0.0 c.0.0 d.0.0) x d.2 in
    let g = bind_ok (word_within 1 8 f.0.1) (made_head b.0.0 c.0.0 d.0.0 f.0.0) x f.2 in
    let t0 = word_within_takes magic magic bytes a.0 fits a.1 in
    let t1 = word_within_takes 0 1023 a.0.1 b.0 t0.0.rest_fits b.1 in
    let t2 = word_within_takes 0 15 b.0.1 c.0 t1.0.rest_fits c.1 in
    let t3 = word_within_takes 0 16777215 c.0.1 d.0 t2.0.rest_fits d.1 in
    let t4 = word_within_takes (d.0.0 + 1) 16777216 d.0.1 f.0 t3.0.rest_fits f.1 in
    let t5 = word_within_takes 1 8 f.0.1 g.0 t4.0.rest_fits g.1 in
    let letters : a.0.0 ≡ magic = omega (arith, t0.1, t0.2) in
    let e45 = Takes-then d.0.1 (word f.0.0) f.0.1 (word g.0.0) g.0.1 t4.0 t5.0 in
    let e35 = Takes-then c.0.1 (word d.0.0) d.0.1 (word f.0.0 ++ word g.0.0) g.0.1 t3.0 e45 in
    let e25 = Takes-then b.0.1 (word c.0.0) c.0.1 (word d.0.0 ++ (word f.0.0 ++ word g.0.0)) g.0.1 t2.0 e35 in
    let e15 = Takes-then a.0.1 (word b.0.0) b.0.1 (word c.0.0 ++ (word d.0.0 ++ (word f.0.0 ++ word g.0.0))) g.0.1 t1.0 e25 in
    let first : Takes bytes (word magic) a.0.1 = subst (λ (n : ℕ). Takes bytes (word n) a.0.1) letters t0.0 in
    let e05 = Takes-then bytes (word magic) a.0.1 (word b.0.0 ++ (word c.0.0 ++ (word d.0.0 ++ (word f.0.0 ++ word g.0.0)))) g.0.1 first e15 in
    let made : Head × List ℕ = (record { split = b.0.0; attempt = c.0.0; from = d.0.0; to = f.0.0; reducers = g.0.0 }, g.0.1) in
    let range : IsHeadRange made.0 = record { split = t1.2; attempt = t2.2; from = t3.2; some = t4.1; to = t4.2; some_reducer = t5.1; few_reducers = t5.2 } in
    subst (λ (y : Head × List ℕ). Takes bytes (head_words y.0) y.1 × IsHeadRange y.0) (ok_is made x g.2) (e05, range)

head_again : (h : Head) (rest : List ℕ) → IsHeadRange h → head_at (head_words h ++ rest) ≡ Ok (h, rest)
unfolding head_at
head_again h rest range =
    let w5 = word h.reducers ++ rest in
    let w4 = word h.to ++ w5 in
    let w3 = word h.from ++ w4 in
    let w2 = word h.attempt ++ w3 in
    let w1 = word h.split ++ w2 in
    let regrouped : head_words h ++ rest ≡ word magic ++ w1 = simp append_assoc in
    let r0 : word_within magic magic (word magic ++ w1) ≡ Ok (magic, w1) = word_within_again magic magic magic w1 (omega arith) (omega arith) (omega arith) in
    let r1 : word_within 0 1023 w1 ≡ Ok (h.split, w2) = word_within_again 0 1023 h.split w2 (omega arith) range.split (omega arith) in
    let r2 : word_within 0 15 w2 ≡ Ok (h.attempt, w3) = word_within_again 0 15 h.attempt w3 (omega arith) range.attempt (omega arith) in
    let r3 : word_within 0 16777215 w3 ≡ Ok (h.from, w4) = word_within_again 0 16777215 h.from w4 (omega arith) range.from (omega arith) in
    let r4 : word_within (h.from + 1) 16777216 w4 ≡ Ok (h.to, w5) = word_within_again (h.from + 1) 16777216 h.to w5 range.some range.to (omega arith) in
    let r5 : word_within 1 8 w5 ≡ Ok (h.reducers, rest) = word_within_again 1 8 h.reducers rest range.some_reducer range.few_reducers (omega arith) in
    rw (regrouped, r0, r1, r2, r3, r4, r5) refl

-- ---- a spill, whatever follows it

abbrev head_of : Spill → Head
head_of s = record { split = s.split; attempt = s.attempt; from = s.from; to = s.to; reducers = length s.sheets }

abbrev spill_of : Head → List (List Pair) → Spill
spill_of h sheets = record { split = h.split; attempt = h.attempt; from = h.from; to = h.to; sheets = sheets }

is_spill : (h : Head) (sheets : List (List Pair)) → IsHeadRange h → length sheets ≡ h.reducers → AreSheetsFrom 0 h.reducers sheets → IsSpill (spill_of h sheets)
is_spill h sheets range len each = record {
  split = range.split;
  attempt = range.attempt;
  from = omega (arith, range.from);
  some = omega (arith, range.some);
  to = range.to;
  some_reducer = omega (arith, range.some_reducer, len);
  few_reducers = omega (arith, range.few_reducers, len);
  sheets = subst (λ (r : ℕ). AreSheetsFrom 0 r sheets) (sym len) each;
}

front_takes : (bytes : List ℕ) (x : Spill × List ℕ) → IsBytes bytes → front_at bytes ≡ Ok x → Takes bytes (spill_text x.0) x.1 × IsSpill x.0
unfolding front_at spill_text head_text
front_takes bytes x fits e =
    let a = bind_ok (head_at bytes) (λ head. sheets_at head.0.reducers 0 head.0.reducers head.1 >>= λ sheets. Ok (spill_of head.0 sheets.0, sheets.1)) x e in
    let b = bind_ok (sheets_at a.0.0.reducers 0 a.0.0.reducers a.0.1) (λ sheets. Ok (spill_of a.0.0 sheets.0, sheets.1)) x a.2 in
    let t0 = head_takes bytes a.0 fits a.1 in
    let t1 = sheets_take a.0.0.reducers 0 a.0.0.reducers a.0.1 b.0 t0.0.rest_fits b.1 in
    let made : Spill × List ℕ = (spill_of a.0.0 b.0.0, b.0.1) in
    let head_is : head_words a.0.0 ≡ head_words (head_of made.0) = ap (λ (n : ℕ). word magic ++ (word a.0.0.split ++ (word a.0.0.attempt ++ (word a.0.0.from ++ (word a.0.0.to ++ word n))))) (sym t1.1) in
    let front : Takes bytes (head_words (head_of made.0)) a.0.1 = subst (λ (t : List ℕ). Takes bytes t a.0.1) head_is t0.0 in
    let both = Takes-then bytes (head_words (head_of made.0)) a.0.1 (flat_map sheet_text b.0.0) b.0.1 front t1.0 in
    subst (λ (y : Spill × List ℕ). Takes bytes (head_words (head_of y.0) ++ flat_map sheet_text y.0.sheets) y.1 × IsSpill y.0) (ok_is made x b.2) (both, is_spill a.0.0 b.0.0 t0.1 t1.1 t1.2)

head_range : (s : Spill) → IsSpill s → IsHeadRange (head_of s)
head_range s h = record {
  split = h.split;
  attempt = h.attempt;
  from = omega (arith, h.from);
  some = omega (arith, h.some);
  to = h.to;
  some_reducer = h.some_reducer;
  few_reducers = h.few_reducers;
}

pub front_again : (s : Spill) (rest : List ℕ) → IsSpill s → front_at (spill_text s ++ rest) ≡ Ok (s, rest)
unfolding front_at spill_text head_text
front_again s rest h =
    let regrouped : (head_words (head_of s) ++ flat_map sheet_text s.sheets) ++ rest ≡ head_words (head_of s) ++ (flat_map sheet_text s.sheets ++ rest) = append_assoc (head_words (head_of s)) (flat_map sheet_text s.sheets) rest in
    let head : head_at (head_words (head_of s) ++ (flat_map sheet_text s.sheets ++ rest)) ≡ Ok (head_of s, flat_map sheet_text s.sheets ++ rest) = head_again (head_of s) (flat_map sheet_text s.sheets ++ rest) (head_range s h) in
    let sheets : sheets_at (length s.sheets) 0 (length s.sheets) (flat_map sheet_text s.sheets ++ rest) ≡ Ok (s.sheets, rest) = sheets_again 0 (length s.sheets) s.sheets rest h.sheets in
    rw (regrouped, head, sheets) refl

-- ---- the laws

pub spill_takes : (bytes : List ℕ) (s : Spill) → IsBytes bytes → spill_at bytes ≡ Ok s → IsSpill s × (bytes ≡ spill_text s)
unfolding spill_at
spill_takes bytes s fits e =
    let a = bind_ok (front_at bytes) (λ spill. cond (eqb (length spill.1) 0) (Ok spill.0) (Err (length spill.1))) s e in
    let p = passed_ok (eqb (length a.0.1) 0) (length a.0.1) a.0.0 s a.2 in
    let t = front_takes bytes a.0 fits a.1 in
    let none : a.0.1 ≡ [] = nil_from_length a.0.1 (eqb-true _ _ p.0) in
    let whole : bytes ≡ spill_text a.0.0 = t.0.parts ∙ ap (λ (rest : List ℕ). spill_text a.0.0 ++ rest) none ∙ append-nil (spill_text a.0.0) in
    subst (λ (y : Spill). IsSpill y × (bytes ≡ spill_text y)) p.1 (t.1, whole)

pub spill_again : (s : Spill) → IsSpill s → spill_at (spill_text s) ≡ Ok s
unfolding spill_at
spill_again s h =
    let front : front_at (spill_text s) ≡ Ok (s, []) = subst (λ (t : List ℕ). front_at t ≡ Ok (s, [])) (append-nil (spill_text s)) (front_again s [] h) in
    rw front refl

-- what is read doesn't stop
pub not_stopped : {A : Type 0} (r : Result A ℕ) (x : A) (left : ℕ) → r ≡ Ok x → r ≡ Err left → ⊥
not_stopped (Ok y) x left e h = cc
not_stopped (Err k) x left e h = cc

-- no text begins another
pub no_prefix : (s other : Spill) (rest : List ℕ) → IsSpill s → IsSpill other → spill_text other ≡ spill_text s ++ rest → (rest ≡ []) × (other ≡ s)
no_prefix s other rest h k e =
    let one : front_at (spill_text other) ≡ Ok (other, []) = subst (λ (t : List ℕ). front_at t ≡ Ok (other, [])) (append-nil (spill_text other)) (front_again other [] k) in
    let two : front_at (spill_text other) ≡ Ok (s, rest) = subst (λ (t : List ℕ). front_at t ≡ Ok (s, rest)) (sym e) (front_again s rest h) in
    let same : other ≡ s = ap (λ (x : Spill × List ℕ). x.0) (ok_is (other, []) (s, rest) (sym one ∙ two)) in
    let none : [] ≡ rest = ap (λ (x : Spill × List ℕ). x.1) (ok_is (other, []) (s, rest) (sym one ∙ two)) in
    (sym none, same)
