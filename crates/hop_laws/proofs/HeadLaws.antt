-- Heads compare like their keys, and hold the short ones.
use Rattle.std.proofs.Common.{◌≡◌, ◌≢◌, ℕ, zero, suc, ◌+◌, ◌*◌, ◌/◌, ◌%◌, ◌^◌, ◌<◌, ◌≤◌, List, [], ◌∷◌, ◌++◌, length, take, drop, get_or, min, refl, sym, ap, ◌∙◌, subst, arith, length-append, append_assoc}
use Rattle.std.specs.Int.{w64, to_be_bytes}
use Rattle.std.specs.List.{AllByRecursion}
use Rattle.std.specs.declared.cmp.Ordering.{Ordering}
use Rattle.std.specs.declared.cmp.Ordering.TheVariants.{Less, Equal, Greater}
use Rattle.std.specs.Ordering.{nat_cmp, ordering_then, MatchOrdering}
use Rattle.std.specs.Cmp.{nat_cmp_is, ranked}
use Rattle.std.specs.Cmp.Lexicographic.{slice_cmp}
use Rattle.std.proofs.lemmas.List.{take_more, take-append-le}
use Rattle.std.proofs.lemmas.Nat.{pow-add}
use Rattle.std.proofs.Math.Pow.{pow_mono}
use Rattle.std.proofs.lemmas.Map.Lookups.{exact_unsigned}
use Rattle.hop_base.specs.Order.{key_cmp}
use Rattle.hop_laws.specs.declared.head.Head.{Head}
use Rattle.hop_laws.specs.Heads.{spelled_bytes, padded, head_of, short_key}

-- ---- spelling

pub spelled-append : (n : ℕ) (xs ys : List ℕ) → spelled_bytes n (xs ++ ys) ≡ spelled_bytes (spelled_bytes n xs) ys
spelled-append n [] ys = refl
spelled-append n (x ∷ xs) ys = spelled-append (256 * n + x) xs ys

pub spelled_more : (bs : List ℕ) (i : ℕ) → i < length bs → spelled_bytes 0 (take (i + 1) bs) ≡ 256 * spelled_bytes 0 (take i bs) + get_or bs i 0
spelled_more bs i lt = ap (spelled_bytes 0) (take_more bs i 0 lt) ∙ spelled-append 0 (take i bs) (get_or bs i 0 ∷ [])

pub byte_more : (i : ℕ) → 2 ^ (8 * (i + 1)) ≡ 256 * 2 ^ (8 * i)
byte_more i =
    let e : 8 * (i + 1) ≡ 8 + 8 * i = omega arith in
    ap (λ n. 2 ^ n) e ∙ pow-add 2 8 (8 * i)

pub bytes_fit : (i : ℕ) → i ≤ 8 → 2 ^ (8 * i) ≤ 2 ^ 64
bytes_fit i h = let e : 8 * i ≤ 64 = omega arith in pow_mono e

pub as_much : (number i j : ℕ) → i ≡ j → number < 2 ^ (8 * i) → number < 2 ^ (8 * j)
as_much number i j e h = subst (λ n. number < 2 ^ (8 * n)) e h

pub padded_more : (n : ℕ) (bs : List ℕ) → length bs ≤ n → padded (suc n) bs ≡ padded n bs ++ 0 ∷ []
padded_more zero [] h = refl
padded_more zero (b ∷ bs) h = absurd (omega arith)
padded_more (suc n) [] h = ap (λ bs. 0 ∷ bs) (padded_more n [] (omega arith))
padded_more (suc n) (b ∷ bs) h = ap (λ cs. b ∷ cs) (padded_more n bs (omega arith))

pub spelled_padded : (n : ℕ) (bs : List ℕ) → length bs ≤ n → spelled_bytes 0 (padded (n + 1) bs) ≡ 256 * spelled_bytes 0 (padded n bs)
spelled_padded n bs h =
    let e : n + 1 ≡ suc n = omega arith in
    let s : spelled_bytes 0 (padded n bs ++ 0 ∷ []) ≡ 256 * spelled_bytes 0 (padded n bs) + 0 = spelled-append 0 (padded n bs) (0 ∷ []) in
    ap (λ m. spelled_bytes 0 (padded m bs)) e ∙ ap (spelled_bytes 0) (padded_more n bs h) ∙ omega (arith, s)

pub padded_whole : (bs : List ℕ) → padded (length bs) bs ≡ bs
padded_whole [] = refl
padded_whole (b ∷ bs) = let e : length (b ∷ bs) ≡ suc (length bs) = omega arith in ap (λ n. padded n (b ∷ bs)) e ∙ ap (λ cs. b ∷ cs) (padded_whole bs)

padded_front : (n m : ℕ) (bs : List ℕ) → m ≡ min (length bs) n → padded n (take m bs) ≡ padded n bs
padded_front zero m bs e = refl
padded_front (suc n) zero [] e = refl
padded_front (suc n) (suc m) [] e = absurd (omega arith)
padded_front (suc n) zero (b ∷ bs) e = absurd (omega arith)
padded_front (suc n) (suc m) (b ∷ bs) e = ap (λ cs. b ∷ cs) (padded_front n m bs (omega arith))

drop_at_most : (n m : ℕ) (bs : List ℕ) → m ≡ min (length bs) n → drop m bs ≡ drop n bs
drop_at_most zero zero bs e = refl
drop_at_most zero (suc m) bs e = absurd (omega arith)
drop_at_most (suc n) zero [] e = refl
drop_at_most (suc n) (suc m) [] e = absurd (omega arith)
drop_at_most (suc n) zero (b ∷ bs) e = absurd (omega arith)
drop_at_most (suc n) (suc m) (b ∷ bs) e = drop_at_most n m bs (omega arith)

length_taken : (n m : ℕ) (bs : List ℕ) → m ≡ min (length bs) n → length (take m bs) ≤ n
length_taken zero zero bs e = omega arith
length_taken zero (suc m) bs e = absurd (omega arith)
length_taken (suc n) zero bs e = omega arith
length_taken (suc n) (suc m) [] e = absurd (omega arith)
length_taken (suc n) (suc m) (b ∷ bs) e = omega (arith, length_taken n m bs (omega arith))

-- the number of the second seven bytes, with room for the length
second_number : (key rest back : List ℕ) (m i : ℕ) → m ≡ min (length key) 8 → i ≡ min (length rest) 7 → rest ≡ drop m key → back ≡ take i rest → spelled_bytes 0 (padded 8 back) ≡ 256 * spelled_bytes 0 (padded 7 (drop 8 key))
second_number key rest back m i em ei er eb =
    let short : length back ≤ 7 = subst (λ bs. length bs ≤ 7) (sym eb) (length_taken 7 i rest ei) in
    spelled_padded 7 back short
    ∙ ap (λ bs. 256 * spelled_bytes 0 (padded 7 bs)) eb
    ∙ ap (λ bs. 256 * spelled_bytes 0 bs) (padded_front 7 i rest ei)
    ∙ ap (λ bs. 256 * spelled_bytes 0 (padded 7 bs)) (er ∙ drop_at_most 8 m key em)

pub second_fits : (key rest back : List ℕ) (m i word : ℕ) → m ≡ min (length key) 8 → i ≡ min (length rest) 7 → rest ≡ drop m key → back ≡ take i rest → word ≡ spelled_bytes 0 (padded 8 back) → word < 2 ^ 64 → word + min (length key) 16 < 2 ^ 64
second_fits key rest back m i word em ei er eb ew lt = omega (arith, ew ∙ second_number key rest back m i em ei er eb)

pub head_made : (key front rest back : List ℕ) (m i j first second : ℕ) → m ≡ min (length key) 8 → i ≡ min (length rest) 7 → j ≡ min (length key) 16 → front ≡ take m key → rest ≡ drop m key → back ≡ take i rest → first ≡ spelled_bytes 0 (padded 8 front) → second ≡ spelled_bytes 0 (padded 8 back) → ◌≡◌ {A = Head} (record { first = first; second = second + j }) (head_of key)
unfolding head_of
head_made key front rest back m i j first second em ei ej ef er eb e1 e2 =
    let one : first ≡ spelled_bytes 0 (padded 8 key) = e1 ∙ ap (λ bs. spelled_bytes 0 (padded 8 bs)) ef ∙ ap (spelled_bytes 0) (padded_front 8 m key em) in
    let s : spelled_bytes 0 (padded 7 (drop 8 key) ++ min (length key) 16 ∷ []) ≡ 256 * spelled_bytes 0 (padded 7 (drop 8 key)) + min (length key) 16 = spelled-append 0 (padded 7 (drop 8 key)) (min (length key) 16 ∷ []) in
    let two : second + j ≡ spelled_bytes 0 (padded 7 (drop 8 key) ++ min (length key) 16 ∷ []) = omega (arith, s, e2 ∙ second_number key rest back m i em ei er eb, ej) in
    cc

-- ---- order

abbrev pub AreBytes : List ℕ → Type 0
AreBytes bs = AllByRecursion (λ b. b < 256) bs

then_assoc : (o p q : Ordering) → ordering_then (ordering_then o p) q ≡ ordering_then o (ordering_then p q)
then_assoc Less p q = refl
then_assoc Equal p q = refl
then_assoc Greater p q = refl

then_equal : (o : Ordering) → ordering_then o Equal ≡ o
then_equal Less = refl
then_equal Equal = refl
then_equal Greater = refl

step_at : (m n x y : ℕ) → x < 256 → y < 256 → (o p : Ordering) → MatchOrdering o (m < n) (m ≡ n) (n < m) → MatchOrdering p (x < y) (x ≡ y) (y < x) → MatchOrdering (ordering_then o p) (256 * m + x < 256 * n + y) (256 * m + x ≡ 256 * n + y) (256 * n + y < 256 * m + x)
step_at m n x y sx sy Less p h k = omega arith
step_at m n x y sx sy Equal Less h k = omega arith
step_at m n x y sx sy Equal Equal h k = omega arith
step_at m n x y sx sy Equal Greater h k = omega arith
step_at m n x y sx sy Greater p h k = omega arith

nat_cmp_tells : (x y : ℕ) → MatchOrdering (nat_cmp x y) (x < y) (x ≡ y) (y < x)
nat_cmp_tells x y = ranked x y (nat_cmp x y) refl

step_cmp : (m n x y : ℕ) → x < 256 → y < 256 → nat_cmp (256 * m + x) (256 * n + y) ≡ ordering_then (nat_cmp m n) (nat_cmp x y)
step_cmp m n x y sx sy = sym (nat_cmp_is (256 * m + x) (256 * n + y) (ordering_then (nat_cmp m n) (nat_cmp x y)) (step_at m n x y sx sy (nat_cmp m n) (nat_cmp x y) (nat_cmp_tells m n) (nat_cmp_tells x y)))

-- numbers compare like the bytes that they are spelled by
spelled_cmp : (m n : ℕ) (xs ys : List ℕ) → length xs ≡ length ys → AreBytes xs → AreBytes ys → nat_cmp (spelled_bytes m xs) (spelled_bytes n ys) ≡ ordering_then (nat_cmp m n) (slice_cmp nat_cmp xs ys)
spelled_cmp m n [] [] e h k = sym (then_equal (nat_cmp m n))
spelled_cmp m n [] (y ∷ ys) e h k = absurd (omega arith)
spelled_cmp m n (x ∷ xs) [] e h k = absurd (omega arith)
spelled_cmp m n (x ∷ xs) (y ∷ ys) e h k =
    spelled_cmp (256 * m + x) (256 * n + y) xs ys (omega arith) h.1 k.1
    ∙ ap (λ o. ordering_then o (slice_cmp nat_cmp xs ys)) (step_cmp m n x y h.0 k.0)
    ∙ then_assoc (nat_cmp m n) (nat_cmp x y) (slice_cmp nat_cmp xs ys)

cmp-append : (xs ys us vs : List ℕ) → length xs ≡ length ys → slice_cmp nat_cmp (xs ++ us) (ys ++ vs) ≡ ordering_then (slice_cmp nat_cmp xs ys) (slice_cmp nat_cmp us vs)
cmp-append [] [] us vs e = refl
cmp-append [] (y ∷ ys) us vs e = absurd (omega arith)
cmp-append (x ∷ xs) [] us vs e = absurd (omega arith)
cmp-append (x ∷ xs) (y ∷ ys) us vs e =
    ap (ordering_then (nat_cmp x y)) (cmp-append xs ys us vs (omega arith))
    ∙ sym (then_assoc (nat_cmp x y) (slice_cmp nat_cmp xs ys) (slice_cmp nat_cmp us vs))

length-padded : (n : ℕ) (bs : List ℕ) → length (padded n bs) ≡ n
length-padded zero bs = refl
length-padded (suc n) [] = omega (arith, length-padded n [])
length-padded (suc n) (b ∷ bs) = omega (arith, length-padded n bs)

bytes_padded : (n : ℕ) (bs : List ℕ) → AreBytes bs → AreBytes (padded n bs)
bytes_padded zero bs h = tt
bytes_padded (suc n) [] h = (omega arith, bytes_padded n [] tt)
bytes_padded (suc n) (b ∷ bs) h = (h.0, bytes_padded n bs h.1)

bytes_drop : (n : ℕ) (bs : List ℕ) → AreBytes bs → AreBytes (drop n bs)
bytes_drop zero bs h = h
bytes_drop (suc n) [] h = tt
bytes_drop (suc n) (b ∷ bs) h = bytes_drop n bs h.1

bytes-append : (xs ys : List ℕ) → AreBytes xs → AreBytes ys → AreBytes (xs ++ ys)
bytes-append [] ys h k = k
bytes-append (x ∷ xs) ys h k = (h.0, bytes-append xs ys h.1 k)

drop_none : (m : ℕ) → drop {A = ℕ} m [] ≡ drop (suc m) []
drop_none zero = refl
drop_none (suc m) = refl

padded_split : (m n t : ℕ) (bs : List ℕ) → t ≡ m + n → padded t bs ≡ padded m bs ++ padded n (drop m bs)
padded_split zero n t bs e = let s : t ≡ n = omega arith in ap (λ k. padded k bs) s
padded_split (suc m) n zero bs e = absurd (omega arith)
padded_split (suc m) n (suc t) [] e = ap (λ cs. 0 ∷ cs) (padded_split m n t [] (omega arith) ∙ ap (λ cs. padded m [] ++ padded n cs) (drop_none m))
padded_split (suc m) n (suc t) (b ∷ bs) e = ap (λ cs. b ∷ cs) (padded_split m n t bs (omega arith))

-- a head's comparison, by the bytes
abbrev pub head_cmp : Head → Head → Ordering
head_cmp h g = ordering_then (nat_cmp h.first g.first) (nat_cmp h.second g.second)

head_cmp_is : (k l : List ℕ) → AreBytes k → AreBytes l → head_cmp (head_of k) (head_of l) ≡ ordering_then (slice_cmp nat_cmp (padded 15 k) (padded 15 l)) (nat_cmp (min (length k) 16) (min (length l) 16))
unfolding head_of
head_cmp_is k l bk bl =
    let back : List ℕ → List ℕ = λ key. padded 7 (drop 8 key) ++ min (length key) 16 ∷ [] in
    let ends : (key : List ℕ) → AreBytes key → AreBytes (back key) = λ key h. bytes-append (padded 7 (drop 8 key)) (min (length key) 16 ∷ []) (bytes_padded 7 (drop 8 key) (bytes_drop 8 key h)) (omega arith, tt) in
    let eight : length (padded 8 k) ≡ length (padded 8 l) = length-padded 8 k ∙ sym (length-padded 8 l) in
    let seven : length (padded 7 (drop 8 k)) ≡ length (padded 7 (drop 8 l)) = length-padded 7 (drop 8 k) ∙ sym (length-padded 7 (drop 8 l)) in
    let same : length (back k) ≡ length (back l) = omega (arith, seven, length-append (padded 7 (drop 8 k)) (min (length k) 16 ∷ []), length-append (padded 7 (drop 8 l)) (min (length l) 16 ∷ [])) in
    let one : nat_cmp (head_of k).first (head_of l).first ≡ slice_cmp nat_cmp (padded 8 k) (padded 8 l) = spelled_cmp 0 0 (padded 8 k) (padded 8 l) eight (bytes_padded 8 k bk) (bytes_padded 8 l bl) in
    let two : nat_cmp (head_of k).second (head_of l).second ≡ slice_cmp nat_cmp (back k) (back l) = spelled_cmp 0 0 (back k) (back l) same (ends k bk) (ends l bl) in
    let three : slice_cmp nat_cmp (back k) (back l) ≡ ordering_then (slice_cmp nat_cmp (padded 7 (drop 8 k)) (padded 7 (drop 8 l))) (nat_cmp (min (length k) 16) (min (length l) 16)) = cmp-append (padded 7 (drop 8 k)) (padded 7 (drop 8 l)) (min (length k) 16 ∷ []) (min (length l) 16 ∷ []) seven ∙ ap (ordering_then (slice_cmp nat_cmp (padded 7 (drop 8 k)) (padded 7 (drop 8 l)))) (then_equal (nat_cmp (min (length k) 16) (min (length l) 16))) in
    let four : slice_cmp nat_cmp (padded 15 k) (padded 15 l) ≡ ordering_then (slice_cmp nat_cmp (padded 8 k) (padded 8 l)) (slice_cmp nat_cmp (padded 7 (drop 8 k)) (padded 7 (drop 8 l))) = ap (λ xs. slice_cmp nat_cmp xs (padded 15 l)) (padded_split 8 7 15 k (omega arith)) ∙ ap (slice_cmp nat_cmp (padded 8 k ++ padded 7 (drop 8 k))) (padded_split 8 7 15 l (omega arith)) ∙ cmp-append (padded 8 k) (padded 8 l) (padded 7 (drop 8 k)) (padded 7 (drop 8 l)) eight in
    ap (λ o. ordering_then o (nat_cmp (head_of k).second (head_of l).second)) one
    ∙ ap (ordering_then (slice_cmp nat_cmp (padded 8 k) (padded 8 l))) (two ∙ three)
    ∙ sym (then_assoc (slice_cmp nat_cmp (padded 8 k) (padded 8 l)) (slice_cmp nat_cmp (padded 7 (drop 8 k)) (padded 7 (drop 8 l))) (nat_cmp (min (length k) 16) (min (length l) 16)))
    ∙ ap (λ o. ordering_then o (nat_cmp (min (length k) 16) (min (length l) 16))) (sym four)

-- ---- what a head's bytes tell of its key

equal_less : Equal ≡ Less → ⊥
equal_less e = subst (λ (o : Ordering). MatchOrdering o ⊥ (Unit {0}) (Unit {0})) e tt

greater_less : Greater ≡ Less → ⊥
greater_less e = subst (λ (o : Ordering). MatchOrdering o ⊥ (Unit {0}) (Unit {0})) e tt

above_zero : (x : ℕ) (o : Ordering) → MatchOrdering o (suc x < 0) (suc x ≡ 0) (0 < suc x) → o ≡ Greater
above_zero x Less h = absurd (omega arith)
above_zero x Equal h = absurd (omega arith)
above_zero x Greater h = refl

-- zeros are above nothing
zeros_least : (n : ℕ) (xs : List ℕ) → slice_cmp nat_cmp (padded n xs) (padded n []) ≢ Less
zeros_least zero xs e = equal_less e
zeros_least (suc n) [] e = zeros_least n [] e
zeros_least (suc n) (zero ∷ xs) e = zeros_least n xs e
zeros_least (suc n) (suc x ∷ xs) e = greater_less (sym (ap (λ o. ordering_then o (slice_cmp nat_cmp (padded n xs) (padded n []))) (above_zero x (nat_cmp (suc x) 0) (nat_cmp_tells (suc x) 0))) ∙ e)

pads_less : (n : ℕ) (k l : List ℕ) → slice_cmp nat_cmp (padded n k) (padded n l) ≡ Less → key_cmp k l ≡ Less
pads_less zero k l e = cc
pads_less (suc n) [] [] e = absurd (zeros_least (suc n) [] e)
pads_less (suc n) [] (y ∷ ys) e = refl
pads_less (suc n) (x ∷ xs) [] e = absurd (zeros_least (suc n) (x ∷ xs) e)
pads_less (suc n) (x ∷ xs) (y ∷ ys) e = at (nat_cmp x y) (pads_less n xs ys) e
  where
    at : (o : Ordering) → (slice_cmp nat_cmp (padded n xs) (padded n ys) ≡ Less → key_cmp xs ys ≡ Less) → ordering_then o (slice_cmp nat_cmp (padded n xs) (padded n ys)) ≡ Less → ordering_then o (key_cmp xs ys) ≡ Less
    at Less r e = refl
    at Equal r e = r e
    at Greater r e = cc

both_equal : (o p : Ordering) → ordering_then o p ≡ Equal → (o ≡ Equal) × (p ≡ Equal)
both_equal Less p e = cc
both_equal Equal p e = (refl, e)
both_equal Greater p e = cc

lens_less : (n : ℕ) (k l : List ℕ) → slice_cmp nat_cmp (padded n k) (padded n l) ≡ Equal → min (length k) (n + 1) < min (length l) (n + 1) → key_cmp k l ≡ Less
lens_less n [] [] e h = absurd (omega arith)
lens_less n [] (y ∷ ys) e h = refl
lens_less n (x ∷ xs) [] e h = absurd (omega arith)
lens_less zero (x ∷ xs) (y ∷ ys) e h = absurd (omega arith)
lens_less (suc n) (x ∷ xs) (y ∷ ys) e h =
    let b = both_equal (nat_cmp x y) (slice_cmp nat_cmp (padded n xs) (padded n ys)) e in
    ap (λ o. ordering_then o (key_cmp xs ys)) b.0 ∙ lens_less n xs ys b.1 (omega arith)

pads_same : (n : ℕ) (k l : List ℕ) → slice_cmp nat_cmp (padded n k) (padded n l) ≡ Equal → min (length k) (n + 1) ≡ min (length l) (n + 1) → length k ≤ n → k ≡ l
pads_same n [] [] e h s = refl
pads_same n [] (y ∷ ys) e h s = absurd (omega arith)
pads_same n (x ∷ xs) [] e h s = absurd (omega arith)
pads_same zero (x ∷ xs) (y ∷ ys) e h s = absurd (omega arith)
pads_same (suc n) (x ∷ xs) (y ∷ ys) e h s =
    let b = both_equal (nat_cmp x y) (slice_cmp nat_cmp (padded n xs) (padded n ys)) e in
    let one : x ≡ y = exact_unsigned x y b.0 in
    let others : xs ≡ ys = pads_same n xs ys b.1 (omega arith) (omega arith) in
    cc

-- a head that is less: so is the key
pub heads_less : (k l : List ℕ) → AreBytes k → AreBytes l → head_cmp (head_of k) (head_of l) ≡ Less → key_cmp k l ≡ Less
heads_less k l bk bl e = at (slice_cmp nat_cmp (padded 15 k) (padded 15 l)) refl (nat_cmp (min (length k) 16) (min (length l) 16)) (nat_cmp_tells (min (length k) 16) (min (length l) 16)) (sym (head_cmp_is k l bk bl) ∙ e)
  where
    at : (o : Ordering) → slice_cmp nat_cmp (padded 15 k) (padded 15 l) ≡ o → (p : Ordering) → MatchOrdering p (min (length k) 16 < min (length l) 16) (min (length k) 16 ≡ min (length l) 16) (min (length l) 16 < min (length k) 16) → ordering_then o p ≡ Less → key_cmp k l ≡ Less
    at Less s p m e = pads_less 15 k l s
    at Equal s Less m e = lens_less 15 k l s m
    at Equal s Equal m e = cc
    at Equal s Greater m e = cc
    at Greater s p m e = cc

-- equal heads: keys of at most 15 bytes are the same, and no other is as short
pub heads_same : (k l : List ℕ) → AreBytes k → AreBytes l → head_cmp (head_of k) (head_of l) ≡ Equal → length k ≤ 15 → k ≡ l
heads_same k l bk bl e short =
    let b = both_equal (slice_cmp nat_cmp (padded 15 k) (padded 15 l)) (nat_cmp (min (length k) 16) (min (length l) 16)) (sym (head_cmp_is k l bk bl) ∙ e) in
    pads_same 15 k l b.0 (exact_unsigned (min (length k) 16) (min (length l) 16) b.1) short

-- ---- the short key that a head holds

-- the bytes of the number that eight bytes spell
spelled_from : (n a b c d e f g h : ℕ) → n ≡ spelled_bytes 0 (a ∷ b ∷ c ∷ d ∷ e ∷ f ∷ g ∷ h ∷ []) → a < 256 → b < 256 → c < 256 → d < 256 → e < 256 → f < 256 → g < 256 → h < 256 → to_be_bytes w64 n ≡ a ∷ b ∷ c ∷ d ∷ e ∷ f ∷ g ∷ h ∷ []
spelled_from n a b c d e f g h s ha hb hc hd he hf hg hh =
    let ea : n / 72057594037927936 % 256 ≡ a = omega arith in
    let eb : n / 281474976710656 % 256 ≡ b = omega arith in
    let ec : n / 1099511627776 % 256 ≡ c = omega arith in
    let ed : n / 4294967296 % 256 ≡ d = omega arith in
    let ee : n / 16777216 % 256 ≡ e = omega arith in
    let ef : n / 65536 % 256 ≡ f = omega arith in
    let eg : n / 256 % 256 ≡ g = omega arith in
    let eh : n % 256 ≡ h = omega arith in
    cc

pub bytes_by_index : (bs : List ℕ) → ((i : ℕ) → get_or bs i 0 < 256) → AreBytes bs
bytes_by_index [] h = tt
bytes_by_index (b ∷ bs) h = (h 0, bytes_by_index bs (λ i. h (suc i)))

-- eight bytes are spelled by their number
spelled_back : (bs : List ℕ) → length bs ≡ 8 → AreBytes bs → to_be_bytes w64 (spelled_bytes 0 bs) ≡ bs
spelled_back (a ∷ b ∷ c ∷ d ∷ e ∷ f ∷ g ∷ h ∷ []) l s = spelled_from (spelled_bytes 0 (a ∷ b ∷ c ∷ d ∷ e ∷ f ∷ g ∷ h ∷ [])) a b c d e f g h refl s.0 s.1.0 s.1.1.0 s.1.1.1.0 s.1.1.1.1.0 s.1.1.1.1.1.0 s.1.1.1.1.1.1.0 s.1.1.1.1.1.1.1.0
spelled_back bs l s = absurd (omega arith)

take_padded : (n : ℕ) (bs : List ℕ) → length bs ≤ n → take (length bs) (padded n bs) ≡ bs
take_padded n [] h = refl
take_padded zero (b ∷ bs) h = absurd (omega arith)
take_padded (suc n) (b ∷ bs) h = let e : length (b ∷ bs) ≡ suc (length bs) = omega arith in ap (λ m. take m (b ∷ padded n bs)) e ∙ ap (λ cs. b ∷ cs) (take_padded n bs (omega arith))

pub short_held : (key : List ℕ) → AreBytes key → length key ≤ 15 → short_key (head_of key) ≡ key
unfolding head_of short_key
short_held key h short =
    let back : List ℕ = padded 7 (drop 8 key) ++ min (length key) 16 ∷ [] in
    let s : spelled_bytes 0 back ≡ 256 * spelled_bytes 0 (padded 7 (drop 8 key)) + min (length key) 16 = spelled-append 0 (padded 7 (drop 8 key)) (min (length key) 16 ∷ []) in
    let len : spelled_bytes 0 back % 256 ≡ length key = omega (arith, s) in
    let ends : AreBytes back = bytes-append (padded 7 (drop 8 key)) (min (length key) 16 ∷ []) (bytes_padded 7 (drop 8 key) (bytes_drop 8 key h)) (omega arith, tt) in
    let eight : length back ≡ 8 = omega (arith, length-append (padded 7 (drop 8 key)) (min (length key) 16 ∷ []), length-padded 7 (drop 8 key)) in
    let one : to_be_bytes w64 (spelled_bytes 0 (padded 8 key)) ≡ padded 8 key = spelled_back (padded 8 key) (length-padded 8 key) (bytes_padded 8 key h) in
    let two : to_be_bytes w64 (spelled_bytes 0 back) ≡ back = spelled_back back eight ends in
    let all : padded 8 key ++ back ≡ padded 15 key ++ min (length key) 16 ∷ [] = sym (append_assoc (padded 8 key) (padded 7 (drop 8 key)) (min (length key) 16 ∷ [])) ∙ ap (λ bs. bs ++ min (length key) 16 ∷ []) (sym (padded_split 8 7 15 key (omega arith))) in
    ap (λ n. take n (to_be_bytes w64 (spelled_bytes 0 (padded 8 key)) ++ to_be_bytes w64 (spelled_bytes 0 back))) len
    ∙ ap (λ bs. take (length key) (bs ++ to_be_bytes w64 (spelled_bytes 0 back))) one
    ∙ ap (λ bs. take (length key) (padded 8 key ++ bs)) two
    ∙ ap (take (length key)) all
    ∙ take-append-le (length key) (padded 15 key) (min (length key) 16 ∷ []) (omega (arith, length-padded 15 key))
    ∙ take_padded 15 key short
