-- Where reading fails no piece of a spill's text stands that comes next there.
use Rattle.std.proofs.Common.{◌≡◌, ◌≢◌, ℕ, zero, suc, ◌+◌, ◌≤◌, ◌⊎◌, inl, inr, Bool, true, false, cond, ltb, ◌&&◌, List, [], ◌∷◌, ◌++◌, length, map, take, drop, Option, Some, None, Result, Ok, Err, refl, sym, ap, subst, ◌∙◌, append_assoc, arith}
use Rattle.std.proofs.Math.Dec.{leb}
use Rattle.std.specs.Int.{Width, byte_len}
use Rattle.std.specs.List.{concat}
use Rattle.std.proofs.lemmas.List.{append-nil, length-append, length-drop}
use Rattle.hop_base.specs.declared.value.Pair.{Pair}
use Rattle.std.specs.List.{flat_map}
use Rattle.std.proofs.lemmas.List.Concat.{flat_map-cons}
use Rattle.std.specs.Int.{w32, w64}
use Rattle.hop_base.specs.Order.{IsValidPair}
use Rattle.hop_spill.specs.Pieces.{sheet_pieces, pair_pieces, IsField}
use Rattle.hop_base.specs.Fields.{word, long, counted, pair_text, pair_of}
use Rattle.hop_spill.specs.Spelling.{AreSheetsFrom}
use Rattle.hop_spill.proofs.FieldLaws.{word_again, long_again, blob_again, word_within_again}
use Rattle.hop_spill.proofs.PairLaws.{Follow, pair_again, follow_from_sheet}
use Rattle.hop_spill.specs.Reading.{◌>>=◌, number_at, word_within, blob_at, may_follow, pair_at, pairs_at, sheet_at, sheets_at}

-- a reader's answer: it fails with at most n bytes left or with m or more, or leaves at most n
pub record Skips {A : Type 0} (r : Result (A × List ℕ) ℕ) (n m : ℕ) : Type 0 where
  pub fails : (left : ℕ) → r ≡ Err left → (left ≤ n) ⊎ (m ≤ left)
  pub rests : (x : A × List ℕ) → r ≡ Ok x → length x.1 ≤ n

pub err_is : {A : Type 0} (a b : ℕ) → ◌≡◌ {A = Result A ℕ} (Err a) (Err b) → a ≡ b
err_is a b e = cc

pub ok_not_err : {A : Type 0} (x : A) (b : ℕ) → ◌≡◌ {A = Result A ℕ} (Ok x) (Err b) → ⊥
ok_not_err x b e = cc

ok_is : {A : Type 0} (x y : A) → ◌≡◌ {A = Result A ℕ} (Ok x) (Ok y) → x ≡ y
ok_is x y e = cc

pub skips_ok : {A : Type 0} (x : A × List ℕ) (n m : ℕ) → length x.1 ≤ n → Skips (Ok x) n m
skips_ok x n m le = record { fails = λ left e. absurd (ok_not_err x left e); rests = λ y e. subst (λ (z : _ × List ℕ). length z.1 ≤ n) (ok_is x y e) le }

pub skips_err : {A : Type 0} (d n m : ℕ) → (d ≤ n) ⊎ (m ≤ d) → Skips {A = A} (Err d) n m
skips_err d n m h = record { fails = λ left e. subst (λ (k : ℕ). (k ≤ n) ⊎ (m ≤ k)) (err_is d left e) h; rests = λ y e. absurd (ok_not_err y d (sym e)) }

pub skips_bind : {A B : Type 0} (r : Result (A × List ℕ) ℕ) (f : A × List ℕ → Result (B × List ℕ) ℕ) (n m : ℕ) → Skips r n m → ((x : A × List ℕ) → length x.1 ≤ n → Skips (f x) n m) → Skips (r >>= f) n m
skips_bind (Ok x) f n m s h = h x (s.rests x refl)
skips_bind (Err d) f n m s h = skips_err d n m (s.fails d refl)

-- a test of what was read
skips_guard : {A : Type 0} (b : Bool) (d : ℕ) (x : A × List ℕ) (n m : ℕ) → (d ≤ n) ⊎ (m ≤ d) → length x.1 ≤ n → Skips (cond b (Err d) (Ok x)) n m
skips_guard true d x n m h le = skips_err d n m h
skips_guard false d x n m h le = skips_ok x n m le

skips_test : {A : Type 0} (b : Bool) (d : ℕ) (x : A × List ℕ) (n m : ℕ) → (d ≤ n) ⊎ (m ≤ d) → length x.1 ≤ n → Skips (cond b (Ok x) (Err d)) n m
skips_test true d x n m h le = skips_ok x n m le
skips_test false d x n m h le = skips_err d n m h

drop_less : (k : ℕ) (bytes : List ℕ) (n : ℕ) → length bytes ≤ n → length (drop k bytes) ≤ n
drop_less k bytes n le = omega (arith, length-drop k bytes, le)

-- ---- readers of few bytes leave fewer

pub number_within : (w : Width) (bytes : List ℕ) (n m : ℕ) → length bytes ≤ n → Skips (number_at w bytes) n m
number_within w bytes n m le = skips_guard _ (length bytes) _ n m (inl le) (drop_less (byte_len w) bytes n le)

pub word_within_within : (low high : ℕ) (bytes : List ℕ) (n m : ℕ) → length bytes ≤ n → Skips (word_within low high bytes) n m
unfolding word_within
word_within_within low high bytes n m le =
    skips_bind (number_at w32 bytes) (λ x. cond (leb low x.0 && leb x.0 high) (Ok x) (Err (length bytes))) n m (number_within w32 bytes n m le)
    (λ x h. skips_test (leb low x.0 && leb x.0 high) (length bytes) x n m (inl le) h)

pub blob_within : (bytes : List ℕ) (n m : ℕ) → length bytes ≤ n → Skips (blob_at bytes) n m
unfolding blob_at
blob_within bytes n m le =
    skips_bind (word_within 0 131071 bytes) (λ x. cond (ltb (length x.1) x.0) (Err (length x.1)) (Ok (take x.0 x.1, drop x.0 x.1))) n m (word_within_within 0 131071 bytes n m le)
    (λ x h. skips_guard (ltb (length x.1) x.0) (length x.1) (take x.0 x.1, drop x.0 x.1) n m (inl h) (drop_less x.0 x.1 n h))

-- what is done behind a pair's key, and behind its number
abbrev behind_number : ℕ → ℕ → Option Pair → ℕ → List ℕ → ℕ × List ℕ → Result (Pair × List ℕ) ℕ
behind_number p r before len key n = blob_at n.1 >>= λ text. cond (may_follow p r before (pair_of key n.0 text.0)) (Ok (pair_of key n.0 text.0, text.1)) (Err len)

abbrev behind_key : ℕ → ℕ → Option Pair → ℕ → List ℕ × List ℕ → Result (Pair × List ℕ) ℕ
behind_key p r before len key = number_at w64 key.1 >>= behind_number p r before len key.0

number_skips : (p r : ℕ) (before : Option Pair) (len : ℕ) (key : List ℕ) (x : ℕ × List ℕ) (n m : ℕ) → (len ≤ n) ⊎ (m ≤ len) → length x.1 ≤ n → Skips (behind_number p r before len key x) n m
number_skips p r before len key x n m h le =
    skips_bind (blob_at x.1) (λ text. cond (may_follow p r before (pair_of key x.0 text.0)) (Ok (pair_of key x.0 text.0, text.1)) (Err len)) n m (blob_within x.1 n m le)
    (λ text ht. skips_test (may_follow p r before (pair_of key x.0 text.0)) len (pair_of key x.0 text.0, text.1) n m h ht)

key_skips : (p r : ℕ) (before : Option Pair) (len : ℕ) (key : List ℕ × List ℕ) (n m : ℕ) → (len ≤ n) ⊎ (m ≤ len) → length key.1 ≤ n → Skips (behind_key p r before len key) n m
key_skips p r before len key n m h le =
    skips_bind (number_at w64 key.1) (behind_number p r before len key.0) n m (number_within w64 key.1 n m le) (λ x hx. number_skips p r before len key.0 x n m h hx)

pub pair_within : (p r : ℕ) (before : Option Pair) (bytes : List ℕ) (n m : ℕ) → length bytes ≤ n → Skips (pair_at p r before bytes) n m
unfolding pair_at
pair_within p r before bytes n m le =
    skips_bind (blob_at bytes) (behind_key p r before (length bytes)) n m (blob_within bytes n m le) (λ key hk. key_skips p r before (length bytes) key n m (inl le) hk)

abbrev with_first : Pair → List Pair × List ℕ → Result (List Pair × List ℕ) ℕ
with_first first others = Ok (first ∷ others.0, others.1)

pub pairs_within : (count p r : ℕ) (before : Option Pair) (bytes : List ℕ) (n m : ℕ) → length bytes ≤ n → Skips (pairs_at count p r before bytes) n m
unfolding pairs_at
pairs_within zero p r before bytes n m le = skips_ok ([], bytes) n m le
pairs_within (suc count) p r before bytes n m le =
    skips_bind (pair_at p r before bytes) (λ first. pairs_at count p r (Some first.0) first.1 >>= with_first first.0) n m (pair_within p r before bytes n m le) (λ first h.
    skips_bind (pairs_at count p r (Some first.0) first.1) (with_first first.0) n m (pairs_within count p r (Some first.0) first.1 n m h) (λ others k. skips_ok (first.0 ∷ others.0, others.1) n m k))

pub sheet_within : (p r : ℕ) (bytes : List ℕ) (n m : ℕ) → length bytes ≤ n → Skips (sheet_at p r bytes) n m
unfolding sheet_at
sheet_within p r bytes n m le =
    skips_bind (number_at w32 bytes) (λ count. pairs_at count.0 p r None count.1) n m (number_within w32 bytes n m le) (λ count h. pairs_within count.0 p r None count.1 n m h)

abbrev with_sheet : List Pair → List (List Pair) × List ℕ → Result (List (List Pair) × List ℕ) ℕ
with_sheet first others = Ok (first ∷ others.0, others.1)

pub sheets_within : (count p r : ℕ) (bytes : List ℕ) (n m : ℕ) → length bytes ≤ n → Skips (sheets_at count p r bytes) n m
unfolding sheets_at
sheets_within zero p r bytes n m le = skips_ok ([], bytes) n m le
sheets_within (suc count) p r bytes n m le =
    skips_bind (sheet_at p r bytes) (λ first. sheets_at count (p + 1) r first.1 >>= with_sheet first.0) n m (sheet_within p r bytes n m le) (λ first h.
    skips_bind (sheets_at count (p + 1) r first.1) (with_sheet first.0) n m (sheets_within count (p + 1) r first.1 n m h) (λ others k. skips_ok (first.0 ∷ others.0, others.1) n m k))

-- ---- a reader of some texts, one after another

-- whatever stands at a piece of one of the texts, or at a field of a pair among them, reading doesn't fail there
abbrev pub IsIn : List ℕ → List ℕ → List ℕ → Type 0
IsIn text inside piece = ((inside ≡ []) × (piece ≡ text)) ⊎ IsField text inside piece

abbrev pub Passes : {A : Type 0} → (List ℕ → Result (A × List ℕ) ℕ) → List ℕ → List ℕ → List ℕ → Type 0
Passes reader before piece more = Skips (reader (before ++ (piece ++ more))) (length more) (suc (length piece + length more))

abbrev pub PassesAll : {A : Type 0} → List (List ℕ) → (List ℕ → Result (A × List ℕ) ℕ) → Type 0
PassesAll texts reader = (done : List (List ℕ)) (text : List ℕ) (later : List (List ℕ)) (inside piece more : List ℕ) → texts ≡ done ++ (text ∷ later) → IsIn text inside piece
    → Skips (reader (concat done ++ (inside ++ (piece ++ more)))) (length more) (suc (length piece + length more))

nil_is_more : {X : Type 0} (done : List X) (x : X) (later : List X) → [] ≡ done ++ (x ∷ later) → ⊥
nil_is_more [] x later e = absurd cc
nil_is_more (d ∷ done) x later e = absurd cc

passes_none : {A : Type 0} (reader : List ℕ → Result (A × List ℕ) ℕ) → PassesAll [] reader
passes_none reader done text later inside piece more e h = absurd (nil_is_more done text later e)

head_is : {X : Type 0} (x y : X) (xs ys : List X) → x ∷ xs ≡ y ∷ ys → (x ≡ y) × (xs ≡ ys)
head_is x y xs ys e = (cc, cc)

-- one text more in front
pub passes_more : {A : Type 0} (first : List ℕ) (texts : List (List ℕ)) (reader next : List ℕ → Result (A × List ℕ) ℕ)
    → ((rest : List ℕ) → reader (first ++ rest) ≡ next rest)
    → ((inside piece more : List ℕ) → IsIn first inside piece → Skips (reader (inside ++ (piece ++ more))) (length more) (suc (length piece + length more)))
    → PassesAll texts next → PassesAll (first ∷ texts) reader
passes_more first texts reader next reads here others [] text later inside piece more e h =
    let same = head_is first text texts later e in
    here inside piece more (subst (λ (t : List ℕ). IsIn t inside piece) (sym same.0) h)
passes_more first texts reader next reads here others (d ∷ done) text later inside piece more e h =
    let same = head_is first d texts (done ++ (text ∷ later)) e in
    let after : List ℕ = concat done ++ (inside ++ (piece ++ more)) in
    let regrouped : (d ++ concat done) ++ (inside ++ (piece ++ more)) ≡ first ++ after = append_assoc d (concat done) (inside ++ (piece ++ more)) ∙ ap (λ (t : List ℕ). t ++ after) (sym same.0) in
    subst (λ (r : Result (_ × List ℕ) ℕ). Skips r (length more) (suc (length piece + length more))) (sym (ap reader regrouped ∙ reads after)) (others done text later inside piece more same.1 h)

-- a number of four bytes in front: no pair is so short
word_length : (k : ℕ) → length (word k) ≡ 4
unfolding word
word_length k = refl

pair_length : (pair : Pair) → 16 ≤ length (pair_text pair)
unfolding pair_text counted word long
pair_length pair = omega (arith, length-append pair.key (long pair.val.n ++ counted pair.val.s), length-append (word (length pair.key)) (pair.key ++ (long pair.val.n ++ counted pair.val.s)))

pub word_here : {A : Type 0} (k : ℕ) (reader next : List ℕ → Result (A × List ℕ) ℕ) → ((rest : List ℕ) → reader (word k ++ rest) ≡ next rest)
    → ((rest : List ℕ) (n m : ℕ) → length rest ≤ n → Skips (next rest) n m)
    → (inside piece more : List ℕ) → IsIn (word k) inside piece → Skips (reader (inside ++ (piece ++ more))) (length more) (suc (length piece + length more))
word_here k reader next reads within inside piece more (inl h) =
    let at : reader (inside ++ (piece ++ more)) ≡ next more = ap (λ (t : List ℕ). reader (t ++ (piece ++ more))) h.0 ∙ ap (λ (t : List ℕ). reader (t ++ more)) h.1 ∙ reads more in
    subst (λ (r : Result (_ × List ℕ) ℕ). Skips r (length more) (suc (length piece + length more))) (sym at) (within more (length more) _ (omega arith))
word_here k reader next reads within inside piece more (inr field) =
    absurd (omega (arith, word_length k, pair_length field.pair, ap {B = ℕ} length field.text_is))

-- ---- a pair

-- a text belongs to one pair
one_pair : (x y : Pair) → IsValidPair x → IsValidPair y → pair_text x ≡ pair_text y → x ≡ y
unfolding pair_text
one_pair x y valid_x valid_y e =
    let key = ok_is (x.key, long x.val.n ++ counted x.val.s) (y.key, long y.val.n ++ counted y.val.s) (sym (blob_again x.key (long x.val.n ++ counted x.val.s) valid_x.key) ∙ ap blob_at e ∙ blob_again y.key (long y.val.n ++ counted y.val.s) valid_y.key) in
    let rest : long x.val.n ++ counted x.val.s ≡ long y.val.n ++ counted y.val.s = ap (λ (k : List ℕ × List ℕ). k.1) key in
    let number = ok_is (x.val.n, counted x.val.s) (y.val.n, counted y.val.s) (sym (long_again x.val.n (counted x.val.s) valid_x.value.number) ∙ ap (number_at w64) rest ∙ long_again y.val.n (counted y.val.s) valid_y.value.number) in
    let texts : counted x.val.s ++ [] ≡ counted y.val.s ++ [] = ap (λ (k : ℕ × List ℕ). k.1 ++ []) number in
    let text = ok_is (x.val.s, []) (y.val.s, []) (sym (blob_again x.val.s [] valid_x.value.text) ∙ ap blob_at texts ∙ blob_again y.val.s [] valid_y.value.text) in
    same_pair x y (ap (λ (k : List ℕ × List ℕ). k.0) key) (ap (λ (k : ℕ × List ℕ). k.0) number) (ap (λ (k : List ℕ × List ℕ). k.0) text)
  where
    same_pair : (x y : Pair) → x.key ≡ y.key → x.val.n ≡ y.val.n → x.val.s ≡ y.val.s → x ≡ y
    same_pair x y k n t = λ i. record { key = k i; val = record { n = n i; s = t i } }

-- a length that may be one, and bytes behind it
length_skips : (k : ℕ) (more : List ℕ) (m : ℕ) → k ≤ 131071 → Skips (blob_at (word k ++ more)) (length more) m
unfolding blob_at
length_skips k more m le =
    let read : word_within 0 131071 (word k ++ more) ≡ Ok (k, more) = word_within_again 0 131071 k more (omega arith) le (omega arith) in
    rw read (skips_guard (ltb (length more) k) (length more) (take k more, drop k more) (length more) m (inl (omega arith)) (drop_less k more (length more) (omega arith)))

module _ (p r : ℕ) (before : Option Pair) (y : Pair) (valid : IsValidPair y) where
  -- bytes that begin with the key, in a pair
  key_read : (rest : List ℕ) (n m : ℕ) → (len : ℕ) → len ≡ length (word (length y.key) ++ (y.key ++ rest)) → Skips (behind_key p r before len (y.key, rest)) n m → Skips (pair_at p r before (word (length y.key) ++ (y.key ++ rest))) n m
  unfolding pair_at counted
  key_read rest n m len is s =
      let grouped : word (length y.key) ++ (y.key ++ rest) ≡ counted y.key ++ rest = sym (append_assoc (word (length y.key)) y.key rest) in
      let read : blob_at (word (length y.key) ++ (y.key ++ rest)) ≡ Ok (y.key, rest) = ap blob_at grouped ∙ blob_again y.key rest valid.key in
      rw read (subst (λ (l : ℕ). Skips (behind_key p r before l (y.key, rest)) n m) is s)

  number_read : (rest : List ℕ) (n m len : ℕ) → Skips (behind_number p r before len y.key (y.val.n, rest)) n m → Skips (behind_key p r before len (y.key, long y.val.n ++ rest)) n m
  number_read rest n m len s =
      let read : number_at w64 (long y.val.n ++ rest) ≡ Ok (y.val.n, rest) = long_again y.val.n rest valid.value.number in
      rw read s

  long_length : length (long y.val.n) ≡ 8
  unfolding long
  long_length = refl

  whole : (more : List ℕ) → (word (length y.key) ++ (y.key ++ (long y.val.n ++ word (length y.val.s)))) ++ (y.val.s ++ more) ≡ pair_text y ++ more
  unfolding pair_text counted
  whole more = simp append_assoc

  -- at each field but the first
  field_here : (done later : List (List ℕ)) (inside piece more : List ℕ) → pair_pieces y ≡ done ++ (piece ∷ later) → inside ≡ concat done → inside ≢ [] → may_follow p r before y ≡ true
      → Skips (pair_at p r before (inside ++ (piece ++ more))) (length more) (suc (length piece + length more))
  field_here [] later inside piece more e is some may = absurd (some is)
  field_here (d0 ∷ []) later inside piece more e is some may =
      let a = head_is (word (length y.key)) d0 _ _ e in
      let b = head_is y.key piece _ _ a.1 in
      let front : inside ≡ word (length y.key) = is ∙ append-nil d0 ∙ sym a.0 in
      let bytes : inside ++ (piece ++ more) ≡ word (length y.key) ++ (y.key ++ more) = ap (λ (t : List ℕ). t ++ (piece ++ more)) front ∙ ap (λ (t : List ℕ). word (length y.key) ++ (t ++ more)) (sym b.0) in
      let size : length piece ≡ length y.key = ap {B = ℕ} length (sym b.0) in
      let far : suc (length piece + length more) ≤ length (word (length y.key) ++ (y.key ++ more)) = omega (arith, size, word_length (length y.key), length-append (word (length y.key)) (y.key ++ more), length-append y.key more) in
      subst (λ (t : List ℕ). Skips (pair_at p r before t) (length more) (suc (length piece + length more))) (sym bytes)
      (key_read more (length more) _ _ refl (key_skips p r before _ (y.key, more) (length more) _ (inr far) (omega arith)))
  field_here (d0 ∷ d1 ∷ []) later inside piece more e is some may =
      let a = head_is (word (length y.key)) d0 _ _ e in
      let b = head_is y.key d1 _ _ a.1 in
      let c = head_is (long y.val.n) piece _ _ b.1 in
      let front : inside ≡ word (length y.key) ++ y.key = is ∙ ap (λ (t : List ℕ). d0 ++ t) (append-nil d1) ∙ ap (λ (t : List ℕ). t ++ d1) (sym a.0) ∙ ap (λ (t : List ℕ). word (length y.key) ++ t) (sym b.0) in
      let bytes : inside ++ (piece ++ more) ≡ word (length y.key) ++ (y.key ++ (long y.val.n ++ more)) =
      ap (λ (t : List ℕ). t ++ (piece ++ more)) front ∙ append_assoc (word (length y.key)) y.key (piece ++ more) ∙ ap (λ (t : List ℕ). word (length y.key) ++ (y.key ++ (t ++ more))) (sym c.0) in
      let size : length piece ≡ 8 = ap {B = ℕ} length (sym c.0) ∙ long_length in
      let far : suc (length piece + length more) ≤ length (word (length y.key) ++ (y.key ++ (long y.val.n ++ more))) = omega (arith, size, long_length, word_length (length y.key), length-append (word (length y.key)) (y.key ++ (long y.val.n ++ more)), length-append y.key (long y.val.n ++ more), length-append (long y.val.n) more) in
      subst (λ (t : List ℕ). Skips (pair_at p r before t) (length more) (suc (length piece + length more))) (sym bytes)
      (key_read (long y.val.n ++ more) (length more) _ _ refl (number_read more (length more) _ _ (number_skips p r before _ y.key (y.val.n, more) (length more) _ (inr far) (omega arith))))
  field_here (d0 ∷ d1 ∷ d2 ∷ []) later inside piece more e is some may =
      let a = head_is (word (length y.key)) d0 _ _ e in
      let b = head_is y.key d1 _ _ a.1 in
      let c = head_is (long y.val.n) d2 _ _ b.1 in
      let d = head_is (word (length y.val.s)) piece _ _ c.1 in
      let front : inside ≡ word (length y.key) ++ (y.key ++ long y.val.n) = is ∙ ap (λ (t : List ℕ). d0 ++ (d1 ++ t)) (append-nil d2) ∙ ap (λ (t : List ℕ). t ++ (d1 ++ d2)) (sym a.0) ∙ ap (λ (t : List ℕ). word (length y.key) ++ (t ++ d2)) (sym b.0) ∙ ap (λ (t : List ℕ). word (length y.key) ++ (y.key ++ t)) (sym c.0) in
      let bytes : inside ++ (piece ++ more) ≡ word (length y.key) ++ (y.key ++ (long y.val.n ++ (word (length y.val.s) ++ more))) =
      ap (λ (t : List ℕ). t ++ (piece ++ more)) front ∙ append_assoc (word (length y.key)) (y.key ++ long y.val.n) (piece ++ more) ∙ ap (λ (t : List ℕ). word (length y.key) ++ t) (append_assoc y.key (long y.val.n) (piece ++ more))
      ∙ ap (λ (t : List ℕ). word (length y.key) ++ (y.key ++ (long y.val.n ++ (t ++ more)))) (sym d.0) in
      let size : length piece ≡ 4 = ap {B = ℕ} length (sym d.0) ∙ word_length (length y.val.s) in
      let after : List ℕ = word (length y.val.s) ++ more in
      let len : ℕ = length (word (length y.key) ++ (y.key ++ (long y.val.n ++ after))) in
      let far : suc (length piece + length more) ≤ len = omega (arith, size, long_length, word_length (length y.key), word_length (length y.val.s), length-append (word (length y.key)) (y.key ++ (long y.val.n ++ after)), length-append y.key (long y.val.n ++ after), length-append (long y.val.n) after, length-append (word (length y.val.s)) more) in
      subst (λ (t : List ℕ). Skips (pair_at p r before t) (length more) (suc (length piece + length more))) (sym bytes)
      (key_read (long y.val.n ++ after) (length more) _ len refl (number_read after (length more) _ len
      (skips_bind (blob_at after) (λ text. cond (may_follow p r before (pair_of y.key y.val.n text.0)) (Ok (pair_of y.key y.val.n text.0, text.1)) (Err len)) (length more) _ (length_skips (length y.val.s) more _ valid.value.text)
      (λ text ht. skips_test (may_follow p r before (pair_of y.key y.val.n text.0)) len (pair_of y.key y.val.n text.0, text.1) (length more) _ (inr far) ht))))
  field_here (d0 ∷ d1 ∷ d2 ∷ d3 ∷ []) later inside piece more e is some may =
      let a = head_is (word (length y.key)) d0 _ _ e in
      let b = head_is y.key d1 _ _ a.1 in
      let c = head_is (long y.val.n) d2 _ _ b.1 in
      let d = head_is (word (length y.val.s)) d3 _ _ c.1 in
      let f = head_is y.val.s piece _ _ d.1 in
      let front : inside ≡ word (length y.key) ++ (y.key ++ (long y.val.n ++ word (length y.val.s))) =
      is ∙ ap (λ (t : List ℕ). d0 ++ (d1 ++ (d2 ++ t))) (append-nil d3) ∙ ap (λ (t : List ℕ). t ++ (d1 ++ (d2 ++ d3))) (sym a.0) ∙ ap (λ (t : List ℕ). word (length y.key) ++ (t ++ (d2 ++ d3))) (sym b.0)
      ∙ ap (λ (t : List ℕ). word (length y.key) ++ (y.key ++ (t ++ d3))) (sym c.0) ∙ ap (λ (t : List ℕ). word (length y.key) ++ (y.key ++ (long y.val.n ++ t))) (sym d.0) in
      let bytes : inside ++ (piece ++ more) ≡ pair_text y ++ more = ap (λ (t : List ℕ). inside ++ (t ++ more)) (sym f.0) ∙ ap (λ (t : List ℕ). t ++ (y.val.s ++ more)) front ∙ whole more in
      rw (bytes, pair_again p r before y more valid may) (skips_ok (y, more) (length more) _ (omega arith))
  field_here (d0 ∷ d1 ∷ d2 ∷ d3 ∷ d4 ∷ done) later inside piece more e is some may =
      let a = head_is (word (length y.key)) d0 _ _ e in
      let b = head_is y.key d1 _ _ a.1 in
      let c = head_is (long y.val.n) d2 _ _ b.1 in
      let d = head_is (word (length y.val.s)) d3 _ _ c.1 in
      let f = head_is y.val.s d4 _ _ d.1 in
      absurd (nil_is_more done piece later f.1)

-- a pair in front, and what is done behind it
pair_here : {A : Type 0} (p r : ℕ) (before : Option Pair) (y : Pair) → IsValidPair y → may_follow p r before y ≡ true → (next : Pair × List ℕ → Result (A × List ℕ) ℕ)
    → ((x : Pair × List ℕ) (n m : ℕ) → length x.1 ≤ n → Skips (next x) n m)
    → (inside piece more : List ℕ) → IsIn (pair_text y) inside piece → Skips (pair_at p r before (inside ++ (piece ++ more)) >>= next) (length more) (suc (length piece + length more))
pair_here p r before y valid may next within inside piece more (inl h) =
    let bytes : inside ++ (piece ++ more) ≡ pair_text y ++ more = ap (λ (t : List ℕ). t ++ (piece ++ more)) h.0 ∙ ap (λ (t : List ℕ). t ++ more) h.1 in
    rw (bytes, pair_again p r before y more valid may) (within (y, more) (length more) _ (omega arith))
pair_here p r before y valid may next within inside piece more (inr field) =
    let same : y ≡ field.pair = one_pair y field.pair valid field.valid field.text_is in
    let fields : pair_pieces y ≡ field.next.done ++ (piece ∷ field.next.later) = ap pair_pieces same ∙ field.next.texts_are in
    skips_bind (pair_at p r before (inside ++ (piece ++ more))) next (length more) _
    (field_here p r before y valid field.next.done field.next.later inside piece more fields field.next.before_is field.some may)
    (λ x h. within x (length more) _ h)

-- ---- pairs, and sheets

bind_assoc : {A B C : Type 0} (a : Result A ℕ) (f : A → Result B ℕ) (g : B → Result C ℕ) → ((a >>= f) >>= g) ≡ (a >>= λ x. f x >>= g)
bind_assoc (Ok x) f g = refl
bind_assoc (Err d) f g = refl

-- pairs one behind another, and what is done behind them
pairs_pass : {A : Type 0} (p r : ℕ) (before : Option Pair) (ys : List Pair) → Follow p r before ys → (texts : List (List ℕ)) (next : List Pair × List ℕ → Result (A × List ℕ) ℕ)
    → ((x : List Pair × List ℕ) (n m : ℕ) → length x.1 ≤ n → Skips (next x) n m)
    → PassesAll texts (λ rest. next (ys, rest)) → PassesAll (map pair_text ys ++ texts) (λ bytes. pairs_at (length ys) p r before bytes >>= next)
unfolding pairs_at
pairs_pass p r before [] follow texts next within others = others
pairs_pass p r before (y ∷ ys) follow texts next within others =
    let behind : List Pair × List ℕ → Result (_ × List ℕ) ℕ = λ others. next (y ∷ others.0, others.1) in
    let after : Pair × List ℕ → Result (_ × List ℕ) ℕ = λ first. pairs_at (length ys) p r (Some first.0) first.1 >>= λ others. next (first.0 ∷ others.0, others.1) in
    let grouped : (bytes : List ℕ) → (pairs_at (length (y ∷ ys)) p r before bytes >>= next) ≡ (pair_at p r before bytes >>= after) = λ bytes.
    bind_assoc (pair_at p r before bytes) (λ first. pairs_at (length ys) p r (Some first.0) first.1 >>= with_first first.0) next
    ∙ ap (λ (f : Pair × List ℕ → Result (_ × List ℕ) ℕ). pair_at p r before bytes >>= f) (λ i first. bind_assoc (pairs_at (length ys) p r (Some first.0) first.1) (with_first first.0) next i) in
    let ends : (x : Pair × List ℕ) (n m : ℕ) → length x.1 ≤ n → Skips (after x) n m = λ x n m h.
    skips_bind (pairs_at (length ys) p r (Some x.0) x.1) (λ others. next (x.0 ∷ others.0, others.1)) n m (pairs_within (length ys) p r (Some x.0) x.1 n m h) (λ others k. within (x.0 ∷ others.0, others.1) n m k) in
    passes_more (pair_text y) (map pair_text ys ++ texts) (λ bytes. pairs_at (length (y ∷ ys)) p r before bytes >>= next) (λ bytes. pairs_at (length ys) p r (Some y) bytes >>= behind)
    (λ rest. grouped (pair_text y ++ rest) ∙ ap (λ (a : Result (Pair × List ℕ) ℕ). a >>= after) (pair_again p r before y rest follow.0 follow.1))
    (λ inside piece more h. subst (λ (a : Result (_ × List ℕ) ℕ). Skips a (length more) (suc (length piece + length more))) (sym (grouped (inside ++ (piece ++ more)))) (pair_here p r before y follow.0 follow.1 after ends inside piece more h))
    (pairs_pass p r (Some y) ys follow.2 texts behind (λ x n m h. within (y ∷ x.0, x.1) n m h) others)

-- sheets one behind another, and what is done behind them
pub sheets_pass : {A : Type 0} (p r : ℕ) (xs : List (List Pair)) → AreSheetsFrom p r xs → (next : List (List Pair) × List ℕ → Result (A × List ℕ) ℕ)
    → ((x : List (List Pair) × List ℕ) (n m : ℕ) → length x.1 ≤ n → Skips (next x) n m)
    → PassesAll (flat_map sheet_pieces xs) (λ bytes. sheets_at (length xs) p r bytes >>= next)
unfolding sheets_at sheet_at
sheets_pass p r [] sheets next within = passes_none (λ bytes. sheets_at 0 p r bytes >>= next)
sheets_pass p r (x ∷ xs) sheets next within =
    let behind : List (List Pair) × List ℕ → Result (_ × List ℕ) ℕ = λ others. next (x ∷ others.0, others.1) in
    let after : List Pair × List ℕ → Result (_ × List ℕ) ℕ = λ first. sheets_at (length xs) (p + 1) r first.1 >>= λ others. next (first.0 ∷ others.0, others.1) in
    let reader : List ℕ → Result (_ × List ℕ) ℕ = λ bytes. sheets_at (length (x ∷ xs)) p r bytes >>= next in
    let second : List ℕ → Result (_ × List ℕ) ℕ = λ bytes. pairs_at (length x) p r None bytes >>= after in
    let grouped : (bytes : List ℕ) → reader bytes ≡ (sheet_at p r bytes >>= after) = λ bytes.
    bind_assoc (sheet_at p r bytes) (λ first. sheets_at (length xs) (p + 1) r first.1 >>= with_sheet first.0) next
    ∙ ap (λ (f : List Pair × List ℕ → Result (_ × List ℕ) ℕ). sheet_at p r bytes >>= f) (λ i first. bind_assoc (sheets_at (length xs) (p + 1) r first.1) (with_sheet first.0) next i) in
    let counted_off : (rest : List ℕ) → reader (word (length x) ++ rest) ≡ second rest = λ rest.
    grouped (word (length x) ++ rest) ∙ ap (λ (a : Result (ℕ × List ℕ) ℕ). (a >>= λ count. pairs_at count.0 p r None count.1) >>= after) (word_again (length x) rest sheets.0.few) in
    let ends : (x : List Pair × List ℕ) (n m : ℕ) → length x.1 ≤ n → Skips (after x) n m = λ x n m h.
    skips_bind (sheets_at (length xs) (p + 1) r x.1) (λ others. next (x.0 ∷ others.0, others.1)) n m (sheets_within (length xs) (p + 1) r x.1 n m h) (λ others k. within (x.0 ∷ others.0, others.1) n m k) in
    rw (flat_map-cons sheet_pieces x xs)
    (passes_more (word (length x)) (map pair_text x ++ flat_map sheet_pieces xs) reader second counted_off
    (word_here (length x) reader second counted_off (λ rest n m h. skips_bind (pairs_at (length x) p r None rest) after n m (pairs_within (length x) p r None rest n m h) (λ y k. ends y n m k)))
    (pairs_pass p r None x (follow_from_sheet p r x sheets.0) (flat_map sheet_pieces xs) after ends (sheets_pass (p + 1) r xs sheets.1 behind (λ y n m h. within (x ∷ y.0, y.1) n m h))))
