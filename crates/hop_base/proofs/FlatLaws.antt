-- Pairs as bytes: what was written at a place stands there.
use Rattle.std.proofs.Common.{◌≡◌, ℕ, zero, suc, ◌+◌, ◌<◌, ◌≤◌, ◌^◌, List, [], ◌∷◌, ◌++◌, length, get_or, take, drop, refl, sym, ap, subst, ◌∙◌, append_assoc, arith}
use Rattle.std.specs.Prelude.{slice_get, Some}
use Rattle.std.specs.List.{AllByRecursion}
use Rattle.std.specs.Int.{w32, w64, to_be_bytes, from_be_bytes}
use Rattle.std.proofs.lemmas.List.{append-nil, take_at, drop_at, length-append, drop_more, take_more, take-append-drop}
use Rattle.std.proofs.lemmas.List.Concat.{flat_map-append}
use Rattle.std.proofs.lemmas.List.Elements.{recursion_from_All, All-push, All-nil, All-get_or}
use Rattle.std.proofs.lemmas.Option.{slice_get-get_or, get_or_from_slice_get}
use Rattle.std.proofs.lemmas.Nat.{from_be_bytes-to_be_bytes_4, from_be_bytes-to_be_bytes_8}
use Rattle.hop_base.specs.declared.value.Pair.{Pair}
use Rattle.hop_base.specs.Order.{IsValidPair}
use Rattle.hop_base.specs.Fields.{word, long, counted, pair_text, pair_of, word_front, long_front, counted_front, behind_counted, pair_front}
use Rattle.hop_base.specs.Flat.{pairs_text, starts_from, pairs_in, IsTextOf}

pub length-word : (n : ℕ) → length (word n) ≡ 4
unfolding word
length-word n = refl

pub length-long : (n : ℕ) → length (long n) ≡ 8
unfolding long
length-long n = refl

pub word_front-word : (n : ℕ) (rest : List ℕ) → n < 2 ^ 32 → word_front (word n ++ rest) ≡ n
unfolding word word_front
word_front-word n rest lt = ap (from_be_bytes w32) (take_at (to_be_bytes w32 n) rest 4 refl) ∙ from_be_bytes-to_be_bytes_4 n lt

pub long_front-long : (n : ℕ) (rest : List ℕ) → n < 2 ^ 64 → long_front (long n ++ rest) ≡ n
unfolding long long_front
long_front-long n rest lt = ap (from_be_bytes w64) (take_at (to_be_bytes w64 n) rest 8 refl) ∙ from_be_bytes-to_be_bytes_8 n lt

-- ---- bytes behind their number

pub length-counted : (b : List ℕ) → length (counted b) ≡ 4 + length b
unfolding counted
length-counted b = omega (arith, length-append (word (length b)) b, length-word (length b))

pub word_front-counted : (b rest : List ℕ) → length b ≤ 131071 → word_front (counted b ++ rest) ≡ length b
unfolding counted
word_front-counted b rest short = ap word_front (append_assoc (word (length b)) b rest) ∙ word_front-word (length b) (b ++ rest) (omega arith)

pub drop-counted : (b rest : List ℕ) → drop 4 (counted b ++ rest) ≡ b ++ rest
unfolding counted
drop-counted b rest = ap (drop 4) (append_assoc (word (length b)) b rest) ∙ drop_at (word (length b)) (b ++ rest) 4 (length-word (length b))

pub counted_front-counted : (b rest : List ℕ) → length b ≤ 131071 → counted_front (counted b ++ rest) ≡ b
counted_front-counted b rest short =
    ap (λ n. take n (drop 4 (counted b ++ rest))) (word_front-counted b rest short)
    ∙ ap (take (length b)) (drop-counted b rest)
    ∙ take_at b rest (length b) refl

pub behind_counted-counted : (b rest : List ℕ) → length b ≤ 131071 → behind_counted (counted b ++ rest) ≡ rest
behind_counted-counted b rest short =
    ap (λ n. drop n (drop 4 (counted b ++ rest))) (word_front-counted b rest short)
    ∙ ap (drop (length b)) (drop-counted b rest)
    ∙ drop_at b rest (length b) refl

-- ---- pairs

pub length-pair_text : (p : Pair) → length (pair_text p) ≡ 16 + length p.key + length p.val.s
unfolding pair_text
length-pair_text p =
    omega (arith, length-append (counted p.key) (long p.val.n ++ counted p.val.s), length-append (long p.val.n) (counted p.val.s), length-counted p.key, length-long p.val.n, length-counted p.val.s)

-- the text of a pair, and what follows it, field by field
pub pair_text_fields : (p : Pair) (rest : List ℕ) → pair_text p ++ rest ≡ counted p.key ++ (long p.val.n ++ (counted p.val.s ++ rest))
unfolding pair_text
pair_text_fields p rest =
    append_assoc (counted p.key) (long p.val.n ++ counted p.val.s) rest
    ∙ ap (λ t. counted p.key ++ t) (append_assoc (long p.val.n) (counted p.val.s) rest)

pub pair_front-pair_text : (p : Pair) (rest : List ℕ) → IsValidPair p → pair_front (pair_text p ++ rest) ≡ p
unfolding pair_front
pair_front-pair_text p rest valid =
    let later : List ℕ = counted p.val.s ++ rest in
    let key : counted_front (pair_text p ++ rest) ≡ p.key = ap counted_front (pair_text_fields p rest) ∙ counted_front-counted p.key (long p.val.n ++ later) valid.key in
    let behind : behind_counted (pair_text p ++ rest) ≡ long p.val.n ++ later = ap behind_counted (pair_text_fields p rest) ∙ behind_counted-counted p.key (long p.val.n ++ later) valid.key in
    let number : long_front (behind_counted (pair_text p ++ rest)) ≡ p.val.n = ap long_front behind ∙ long_front-long p.val.n later valid.value.number in
    let after : drop 8 (behind_counted (pair_text p ++ rest)) ≡ later = ap (drop 8) behind ∙ drop_at (long p.val.n) later 8 (length-long p.val.n) in
    let text : counted_front (drop 8 (behind_counted (pair_text p ++ rest))) ≡ p.val.s = ap counted_front after ∙ counted_front-counted p.val.s rest valid.value.text in
    ap (λ k. pair_of k (long_front (behind_counted (pair_text p ++ rest))) (counted_front (drop 8 (behind_counted (pair_text p ++ rest))))) key
    ∙ ap (λ n. pair_of p.key n (counted_front (drop 8 (behind_counted (pair_text p ++ rest))))) number
    ∙ ap (pair_of p.key p.val.n) text

-- ---- many pairs

-- what stands at the places is what was written there
pairs_behind : (front : List ℕ) (ps : List Pair) → AllByRecursion IsValidPair ps → pairs_in (front ++ pairs_text ps) (starts_from (length front) ps) ≡ ps
pairs_behind front [] valid = refl
pairs_behind front (p ∷ ps) valid =
    let here : drop (length front) (front ++ (pair_text p ++ pairs_text ps)) ≡ pair_text p ++ pairs_text ps = drop_at front (pair_text p ++ pairs_text ps) (length front) refl in
    let first : pair_front (drop (length front) (front ++ (pair_text p ++ pairs_text ps))) ≡ p = ap pair_front here ∙ pair_front-pair_text p (pairs_text ps) valid.0 in
    let regrouped : front ++ (pair_text p ++ pairs_text ps) ≡ (front ++ pair_text p) ++ pairs_text ps = sym (append_assoc front (pair_text p) (pairs_text ps)) in
    let len : length front + length (pair_text p) ≡ length (front ++ pair_text p) = sym (length-append front (pair_text p)) in
    let others : pairs_in (front ++ (pair_text p ++ pairs_text ps)) (starts_from (length front + length (pair_text p)) ps) ≡ ps =
    ap (λ b. pairs_in b (starts_from (length front + length (pair_text p)) ps)) regrouped
    ∙ ap (λ n. pairs_in ((front ++ pair_text p) ++ pairs_text ps) (starts_from n ps)) len
    ∙ pairs_behind (front ++ pair_text p) ps valid.1 in
    ap (λ q. q ∷ pairs_in (front ++ (pair_text p ++ pairs_text ps)) (starts_from (length front + length (pair_text p)) ps)) first
    ∙ ap (λ qs. p ∷ qs) others

pub pairs_in_text : (bytes starts : List ℕ) (ps : List Pair) → IsTextOf bytes starts ps → pairs_in bytes starts ≡ ps
pairs_in_text bytes starts ps h =
    ap (λ b. pairs_in b starts) h.text ∙ ap (pairs_in (pairs_text ps)) h.places ∙ pairs_behind [] ps (recursion_from_All IsValidPair ps h.valid)

starts_push : (at : ℕ) (ps : List Pair) (p : Pair) → starts_from at (ps ++ p ∷ []) ≡ starts_from at ps ++ (at + length (pairs_text ps)) ∷ []
starts_push at [] p = let e : at ≡ at + 0 = omega arith in ap (λ n. n ∷ []) e
starts_push at (q ∷ ps) p =
    let e : (at + length (pair_text q)) + length (pairs_text ps) ≡ at + length (pair_text q ++ pairs_text ps) = omega (arith, length-append (pair_text q) (pairs_text ps)) in
    ap (λ ns. at ∷ ns) (starts_push (at + length (pair_text q)) ps p ∙ ap (λ n. starts_from (at + length (pair_text q)) ps ++ n ∷ []) e)

pub text_none : IsTextOf [] [] []
text_none = record { text = refl; places = refl; valid = All-nil IsValidPair }

-- one more pair
pub text_more : (bytes starts : List ℕ) (ps : List Pair) (p : Pair) → IsTextOf bytes starts ps → IsValidPair p → IsTextOf (bytes ++ pair_text p) (starts ++ length bytes ∷ []) (ps ++ p ∷ [])
text_more bytes starts ps p h valid = record {
  text = ap (λ b. b ++ pair_text p) h.text ∙ ap (λ t. pairs_text ps ++ t) (sym (append-nil (pair_text p))) ∙ sym (flat_map-append pair_text ps (p ∷ []));
  places = ap (λ s. s ++ length bytes ∷ []) h.places ∙ ap (λ b. starts_from 0 ps ++ length b ∷ []) h.text ∙ ap (λ n. starts_from 0 ps ++ n ∷ []) from_zero ∙ sym (starts_push 0 ps p);
  valid = All-push IsValidPair ps p h.valid valid;
}
  where
    from_zero : length (pairs_text ps) ≡ 0 + length (pairs_text ps)
    from_zero = omega arith

-- the same of the pairs that stand there
pub pairs_more : (bytes starts : List ℕ) (p : Pair) → IsTextOf bytes starts (pairs_in bytes starts) → IsValidPair p → pairs_in (bytes ++ pair_text p) (starts ++ length bytes ∷ []) ≡ pairs_in bytes starts ++ p ∷ []
pairs_more bytes starts p h valid = pairs_in_text _ _ _ (text_more bytes starts (pairs_in bytes starts) p h valid)

pub is_text_more : (bytes starts : List ℕ) (p : Pair) → IsTextOf bytes starts (pairs_in bytes starts) → IsValidPair p → IsTextOf (bytes ++ pair_text p) (starts ++ length bytes ∷ []) (pairs_in (bytes ++ pair_text p) (starts ++ length bytes ∷ []))
is_text_more bytes starts p h valid =
    subst (IsTextOf (bytes ++ pair_text p) (starts ++ length bytes ∷ [])) (sym (pairs_more bytes starts p h valid)) (text_more bytes starts (pairs_in bytes starts) p h valid)

-- ---- one pair

start_is : (at : ℕ) (ps : List Pair) (k d : ℕ) → k < length ps → get_or (starts_from at ps) k d ≡ at + length (pairs_text (take k ps))
start_is at [] k d lt = absurd (omega arith)
start_is at (p ∷ ps) zero d lt = omega arith
start_is at (p ∷ ps) (suc k) d lt =
    start_is (at + length (pair_text p)) ps k d (omega arith) ∙ omega (arith, length-append (pair_text p) (pairs_text (take k ps)))

text_at : (ps : List Pair) (k : ℕ) → drop (length (pairs_text (take k ps))) (pairs_text ps) ≡ pairs_text (drop k ps)
text_at ps zero = refl
text_at [] (suc k) = refl
text_at (p ∷ ps) (suc k) =
    let len : length (pair_text p ++ pairs_text (take k ps)) ≡ length (pair_text p) + length (pairs_text (take k ps)) = length-append (pair_text p) (pairs_text (take k ps)) in
    ap (λ n. drop n (pair_text p ++ pairs_text ps)) len
    ∙ drop_both (pair_text p) (pairs_text ps) (length (pairs_text (take k ps)))
    ∙ text_at ps k
  where
    drop_both : (xs ys : List ℕ) (n : ℕ) → drop (length xs + n) (xs ++ ys) ≡ drop n ys
    drop_both [] ys n = let e : 0 + n ≡ n = omega arith in ap (λ m. drop m ys) e
    drop_both (x ∷ xs) ys n = let e : suc (length xs) + n ≡ suc (length xs + n) = omega arith in ap (λ m. drop m (x ∷ (xs ++ ys))) e ∙ drop_both xs ys n

-- the text of a pair stands at its place, and those of the later ones behind it
pub text_there : (bytes starts : List ℕ) (ps : List Pair) (k d : ℕ) (e : Pair) → IsTextOf bytes starts ps → k < length ps → drop (get_or starts k d) bytes ≡ pair_text (get_or ps k e) ++ pairs_text (drop (k + 1) ps)
text_there bytes starts ps k d e h lt =
    ap (λ s. drop (get_or s k d) bytes) h.places
    ∙ ap (λ n. drop n bytes) (start_is 0 ps k d lt ∙ zero_add)
    ∙ ap (drop (length (pairs_text (take k ps)))) h.text
    ∙ text_at ps k
    ∙ ap pairs_text (drop_one ps k e lt)
  where
    zero_add : 0 + length (pairs_text (take k ps)) ≡ length (pairs_text (take k ps))
    zero_add = omega arith

    drop_one : (ps : List Pair) (k : ℕ) (e : Pair) → k < length ps → drop k ps ≡ get_or ps k e ∷ drop (k + 1) ps
    drop_one ps k e lt = drop_more ps k e lt

pub start_within : (bytes starts : List ℕ) (ps : List Pair) (k d : ℕ) → IsTextOf bytes starts ps → k < length ps → get_or starts k d ≤ length bytes
start_within bytes starts ps k d h lt =
    let here : get_or starts k d ≡ 0 + length (pairs_text (take k ps)) = ap (λ s. get_or s k d) h.places ∙ start_is 0 ps k d lt in
    let whole : length (pairs_text (take k ps)) + length (pairs_text (drop k ps)) ≡ length bytes =
    sym (length-append (pairs_text (take k ps)) (pairs_text (drop k ps)))
    ∙ ap length (sym (flat_map-append pair_text (take k ps) (drop k ps)))
    ∙ ap (λ qs. length (pairs_text qs)) (take-append-drop k ps)
    ∙ ap length (sym h.text) in
    omega (arith, here, whole)

-- the text of a pair ends where that of the next one begins
pub text_ends : (bytes starts : List ℕ) (ps : List Pair) (k d d' : ℕ) (e : Pair) → IsTextOf bytes starts ps → k + 1 < length ps → get_or starts (k + 1) d ≡ get_or starts k d' + length (pair_text (get_or ps k e))
text_ends bytes starts ps k d d' e h lt =
    let p : Pair = get_or ps k e in
    let below : k < length ps = omega arith in
    let next : get_or starts (k + 1) d ≡ 0 + length (pairs_text (take (k + 1) ps)) = ap (λ s. get_or s (k + 1) d) h.places ∙ start_is 0 ps (k + 1) d lt in
    let here : get_or starts k d' ≡ 0 + length (pairs_text (take k ps)) = ap (λ s. get_or s k d') h.places ∙ start_is 0 ps k d' below in
    let more : pairs_text (take (k + 1) ps) ≡ pairs_text (take k ps) ++ pair_text p =
    ap pairs_text (take_more ps k e below) ∙ flat_map-append pair_text (take k ps) (p ∷ []) ∙ ap (λ t. pairs_text (take k ps) ++ t) (append-nil (pair_text p)) in
    omega (arith, next, here, ap length more, length-append (pairs_text (take k ps)) (pair_text p))

-- up to there it is the text of that pair
pub text_cut : (bytes starts rest text : List ℕ) (ps : List Pair) (k d d' at n : ℕ) (e : Pair) → IsTextOf bytes starts ps → k + 1 < length ps → at ≡ get_or starts k d' → rest ≡ drop at bytes → n + at ≡ get_or starts (k + 1) d → text ≡ take n rest → text ≡ pair_text (get_or ps k e)
text_cut bytes starts rest text ps k d d' at n e h lt a r m t =
    let p : Pair = get_or ps k e in
    let below : k < length ps = omega arith in
    let len : length (pair_text p) ≡ n = omega (arith, m, a, text_ends bytes starts ps k d d' e h lt) in
    t ∙ ap (take n) (r ∙ ap (λ i. drop i bytes) a ∙ text_there bytes starts ps k d' e h below) ∙ take_at (pair_text p) (pairs_text (drop (k + 1) ps)) n len

-- it lies in the bytes
pub text_within : (bytes starts rest : List ℕ) (ps : List Pair) (k d d' at : ℕ) → IsTextOf bytes starts ps → k + 1 < length ps → at ≡ get_or starts k d' → rest ≡ drop at bytes → (at ≤ get_or starts (k + 1) d) × (get_or starts (k + 1) d ≤ at + length rest)
text_within bytes starts rest ps k d d' at h lt a r =
    let e : Pair = pair_of [] 0 [] in
    let p : Pair = get_or ps k e in
    let below : k < length ps = omega arith in
    let ends : get_or starts (k + 1) d ≡ get_or starts k d' + length (pair_text p) = text_ends bytes starts ps k d d' e h lt in
    let whole : rest ≡ pair_text p ++ pairs_text (drop (k + 1) ps) = r ∙ ap (λ i. drop i bytes) a ∙ text_there bytes starts ps k d' e h below in
    (omega (arith, a, ends), omega (arith, a, ends, ap length whole, length-append (pair_text p) (pairs_text (drop (k + 1) ps))))

-- that of the last pair ends with the bytes
pub text_last : (bytes starts rest : List ℕ) (ps : List Pair) (k d at : ℕ) (e : Pair) → IsTextOf bytes starts ps → k < length ps → length ps ≤ k + 1 → at ≡ get_or starts k d → rest ≡ drop at bytes → rest ≡ pair_text (get_or ps k e)
text_last bytes starts rest ps k d at e h below lt a r =
    r ∙ ap (λ i. drop i bytes) a ∙ text_there bytes starts ps k d e h below
    ∙ ap (λ qs. pair_text (get_or ps k e) ++ pairs_text qs) (drop_over ps (k + 1) lt)
    ∙ append-nil (pair_text (get_or ps k e))
  where
    drop_over : (qs : List Pair) (n : ℕ) → length qs ≤ n → drop n qs ≡ []
    drop_over [] zero lt = refl
    drop_over [] (suc n) lt = refl
    drop_over (q ∷ qs) zero lt = absurd (omega arith)
    drop_over (q ∷ qs) (suc n) lt = drop_over qs n (omega arith)

-- what is read at a place is the pair that begins there
pub pair_there : (bytes starts : List ℕ) (ps : List Pair) (k d : ℕ) (r : Pair) → IsTextOf bytes starts ps → k < length ps → r ≡ pair_front (drop (get_or starts k d) bytes) → slice_get ps k ≡ Some r
pair_there bytes starts ps k d r h lt e =
    let p : Pair = get_or ps k r in
    let valid : IsValidPair p = All-get_or IsValidPair ps k r lt h.valid in
    let is : r ≡ p = e ∙ ap pair_front (text_there bytes starts ps k d r h lt) ∙ pair_front-pair_text p (pairs_text (drop (k + 1) ps)) valid in
    slice_get-get_or ps k r lt ∙ ap Some (sym is)

-- ---- the parts of a pair's text

pub behind_is : (p : Pair) (rest b : List ℕ) → IsValidPair p → b ≡ pair_text p ++ rest → behind_counted b ≡ long p.val.n ++ (counted p.val.s ++ rest)
behind_is p rest b valid e = ap behind_counted (e ∙ pair_text_fields p rest) ∙ behind_counted-counted p.key (long p.val.n ++ (counted p.val.s ++ rest)) valid.key

pub counted_fits : (s rest b : List ℕ) → length s ≤ 131071 → b ≡ counted s ++ rest → 4 + word_front b ≤ length b
counted_fits s rest b short e =
    let front : word_front b ≡ length s = ap word_front e ∙ word_front-counted s rest short in
    let len : length b ≡ length (counted s) + length rest = ap length e ∙ length-append (counted s) rest in
    omega (arith, front, len, length-counted s)

pub key_fits : (p : Pair) (rest b : List ℕ) → IsValidPair p → b ≡ pair_text p ++ rest → 4 + word_front b ≤ length b
key_fits p rest b valid e = counted_fits p.key (long p.val.n ++ (counted p.val.s ++ rest)) b valid.key (e ∙ pair_text_fields p rest)

pub number_fits : (p : Pair) (rest b : List ℕ) → IsValidPair p → b ≡ pair_text p ++ rest → 8 ≤ length (behind_counted b)
number_fits p rest b valid e =
    let len : length (behind_counted b) ≡ length (long p.val.n) + length (counted p.val.s ++ rest) = ap length (behind_is p rest b valid e) ∙ length-append (long p.val.n) (counted p.val.s ++ rest) in
    omega (arith, len, length-long p.val.n)

pub text_fits : (p : Pair) (rest b : List ℕ) → IsValidPair p → b ≡ pair_text p ++ rest → 4 + word_front (drop 8 (behind_counted b)) ≤ length (drop 8 (behind_counted b))
text_fits p rest b valid e =
    let after : drop 8 (behind_counted b) ≡ counted p.val.s ++ rest = ap (drop 8) (behind_is p rest b valid e) ∙ drop_at (long p.val.n) (counted p.val.s ++ rest) 8 (length-long p.val.n) in
    counted_fits p.val.s rest (drop 8 (behind_counted b)) valid.value.text after

-- the fields that are read make the pair
pub read_valid : (p : Pair) (rest b key r later text : List ℕ) (n : ℕ) → IsValidPair p → b ≡ pair_text p ++ rest → key ≡ counted_front b → r ≡ behind_counted b → n ≡ long_front r → later ≡ drop 8 r → text ≡ counted_front later → IsValidPair (pair_of key n text)
unfolding pair_front
read_valid p rest b key r later text n valid e key_is r_is n_is later_is text_is =
    let n-at : n ≡ long_front (behind_counted b) = n_is ∙ ap long_front r_is in
    let text-at : text ≡ counted_front (drop 8 (behind_counted b)) = text_is ∙ ap counted_front (later_is ∙ ap (drop 8) r_is) in
    let read : pair_of key n text ≡ pair_front b =
    ap (λ k. pair_of k n text) key_is ∙ ap (λ m. pair_of (counted_front b) m text) n-at ∙ ap (pair_of (counted_front b) (long_front (behind_counted b))) text-at in
    subst IsValidPair (sym (read ∙ ap pair_front e ∙ pair_front-pair_text p rest valid)) valid

-- ---- a pair that is written

pub view_more : (bytes starts more places : List ℕ) (at : ℕ) (p : Pair) → IsTextOf bytes starts (pairs_in bytes starts) → IsValidPair p → more ≡ bytes ++ pair_text p → places ≡ starts ++ at ∷ [] → at ≡ length bytes → pairs_in more places ≡ pairs_in bytes starts ++ p ∷ []
view_more bytes starts more places at p h valid m s a =
    ap (λ b. pairs_in b places) m
    ∙ ap (pairs_in (bytes ++ pair_text p)) (s ∙ ap (λ n. starts ++ n ∷ []) a)
    ∙ pairs_more bytes starts p h valid

pub text_stays : (bytes starts more places : List ℕ) (at : ℕ) (p : Pair) → IsTextOf bytes starts (pairs_in bytes starts) → IsValidPair p → more ≡ bytes ++ pair_text p → places ≡ starts ++ at ∷ [] → at ≡ length bytes → IsTextOf more places (pairs_in more places)
text_stays bytes starts more places at p h valid m s a =
    let P : List ℕ → Type 0 = λ b. IsTextOf b places (pairs_in b places) in
    let Q : List ℕ → Type 0 = λ ns. IsTextOf (bytes ++ pair_text p) ns (pairs_in (bytes ++ pair_text p) ns) in
    subst P (sym m) (subst Q (sym (s ∙ ap (λ n. starts ++ n ∷ []) a)) (is_text_more bytes starts p h valid))

pub five_fields : (b k1 k2 n t1 t2 b1 b2 b3 b4 b5 : List ℕ) → b1 ≡ b ++ k1 → b2 ≡ b1 ++ k2 → b3 ≡ b2 ++ n → b4 ≡ b3 ++ t1 → b5 ≡ b4 ++ t2 → b5 ≡ b ++ ((k1 ++ k2) ++ (n ++ (t1 ++ t2)))
five_fields b k1 k2 n t1 t2 b1 b2 b3 b4 b5 e1 e2 e3 e4 e5 =
    let all : b5 ≡ ((((b ++ k1) ++ k2) ++ n) ++ t1) ++ t2 = rw (e5, e4, e3, e2, e1) refl in
    all ∙ simp append_assoc

-- ---- one pair after the other

pub taken_more : (xs ys zs : List Pair) (k : ℕ) (x y : Pair) → ys ≡ take k xs → k < length xs → slice_get xs k ≡ Some x → zs ≡ ys ++ y ∷ [] → y ≡ x → zs ≡ take (k + 1) xs
taken_more xs ys zs k x y e lt there z is =
    z ∙ ap (λ ps. ps ++ y ∷ []) e ∙ ap (λ p. take k xs ++ p ∷ []) (is ∙ sym (get_or_from_slice_get xs k x x there)) ∙ sym (take_more xs k x lt)
