-- A field that is read is the field that was written, and what was written is read again.
use Rattle.std.proofs.Common.{◌≡◌, ℕ, ◌+◌, ◌&&◌, ◌^◌, ◌<◌, ◌≤◌, Bool, true, false, cond, ltb, List, [], ◌++◌, length, get_or, take, drop, Result, Ok, Err, refl, sym, ap, subst, ◌∙◌, append_assoc, arith, inl, inr}
use Rattle.std.proofs.Math.Dec.{leb}
use Rattle.std.specs.Int.{Width, w32, w64, byte_len, from_be_bytes, to_be_bytes}
use Rattle.std.proofs.lemmas.Bool.{cases_lt, ltb-false, le-ltb, le-leb, leb-true}
use Rattle.std.proofs.lemmas.List.{take_at, drop_at, take-append-drop, length-append, length-take, get_or-drop, get_or-take, get_or_past}
use Rattle.std.proofs.lemmas.Nat.{be_bytes_4, be_bytes_8, from_be_bytes-to_be_bytes_4, from_be_bytes-to_be_bytes_8}
use Rattle.hop_base.proofs.Truth.{both_true}
use Rattle.hop_base.specs.Fields.{word, long, counted}
use Rattle.hop_spill.specs.Reading.{◌>>=◌, number_at, word_within, blob_at}

-- each is a byte
abbrev pub IsBytes : List ℕ → Type 0
IsBytes bytes = (i : ℕ) → get_or bytes i 0 < 256

IsBytes-drop : (n : ℕ) (bytes : List ℕ) → IsBytes bytes → IsBytes (drop n bytes)
IsBytes-drop n bytes h i = rw get_or-drop (h (n + i))

IsBytes-take : (n : ℕ) (bytes : List ℕ) → IsBytes bytes → IsBytes (take n bytes)
IsBytes-take n bytes h i =
    elim (cases_lt i n) [
      | inl lt ↦ rw (get_or-take n bytes i 0 lt) (h i)
      | inr le ↦ rw (get_or_past (take n bytes) i 0 (omega (arith, length-take n bytes))) (omega arith)
    ]

-- the value of a step that did not fail
pub bind_ok : {A B : Type 0} (r : Result A ℕ) (f : A → Result B ℕ) (y : B) → (r >>= f) ≡ Ok y → (x : A) × (r ≡ Ok x) × (f x ≡ Ok y)
bind_ok (Ok x) f y e = (x, refl, e)
bind_ok (Err d) f y e = absurd cc

-- a test that did not fail
pub guard_ok : {A : Type 0} (b : Bool) (left : ℕ) (x y : A) → cond b (Err left) (Ok x) ≡ Ok y → (b ≡ false) × (x ≡ y)
guard_ok true left x y e = absurd cc
guard_ok false left x y e = (refl, cc)

-- a test that was passed
pub passed_ok : {A : Type 0} (b : Bool) (left : ℕ) (x y : A) → cond b (Ok x) (Err left) ≡ Ok y → (b ≡ true) × (x ≡ y)
passed_ok true left x y e = (refl, cc)
passed_ok false left x y e = absurd cc

abbrev done : {A : Type 0} → A → Result A ℕ
done x = Ok x

pub ok_is : {A : Type 0} (x y : A) → done x ≡ done y → x ≡ y
ok_is x y e = cc

-- what a reader took from the front
pub record Takes (bytes text rest : List ℕ) : Type 0 where
  pub parts : bytes ≡ text ++ rest
  pub rest_fits : IsBytes rest

pub Takes-nothing : (bytes : List ℕ) → IsBytes bytes → Takes bytes [] bytes
Takes-nothing bytes fits = record { parts = refl; rest_fits = fits }

pub Takes-then : (a x b y c : List ℕ) → Takes a x b → Takes b y c → Takes a (x ++ y) c
Takes-then a x b y c p q = record { parts = p.parts ∙ ap (λ (t : List ℕ). x ++ t) q.parts ∙ sym (append_assoc x y c); rest_fits = q.rest_fits }

-- ---- numbers

record IsWide (w : Width) (limit : ℕ) : Type 0 where
  pub len : (n : ℕ) → length (to_be_bytes w n) ≡ byte_len w
  pub back : (bytes : List ℕ) → length bytes ≡ byte_len w → IsBytes bytes → to_be_bytes w (from_be_bytes w bytes) ≡ bytes
  pub again : (n : ℕ) → n < limit → from_be_bytes w (to_be_bytes w n) ≡ n
  pub below : (bytes : List ℕ) → IsBytes bytes → from_be_bytes w bytes < limit

wide32 : IsWide w32 (2 ^ 32)
wide32 = record {
  len = λ n. refl;
  back = λ bytes len fits. be_bytes_4 bytes _ len fits refl;
  again = λ n lt. from_be_bytes-to_be_bytes_4 n lt;
  below = λ bytes fits. omega (arith, fits 0, fits 1, fits 2, fits 3);
}

wide64 : IsWide w64 (2 ^ 64)
wide64 = record {
  len = λ n. refl;
  back = λ bytes len fits. be_bytes_8 bytes _ len fits refl;
  again = λ n lt. from_be_bytes-to_be_bytes_8 n lt;
  below = λ bytes fits. omega (arith, fits 0, fits 1, fits 2, fits 3, fits 4, fits 5, fits 6, fits 7);
}

number_takes : (w : Width) (limit : ℕ) (wide : IsWide w limit) (bytes : List ℕ) (n : ℕ) (rest : List ℕ) → IsBytes bytes → number_at w bytes ≡ Ok (n, rest) → Takes bytes (to_be_bytes w n) rest × (n < limit)
number_takes w limit wide bytes n rest fits e =
    let g = guard_ok (ltb (length bytes) (byte_len w)) (length bytes) (from_be_bytes w (take (byte_len w) bytes), drop (byte_len w) bytes) (n, rest) e in
    let enough : byte_len w ≤ length bytes = ltb-false _ _ g.0 in
    let n-is : from_be_bytes w (take (byte_len w) bytes) ≡ n = ap (λ (p : ℕ × List ℕ). p.0) g.1 in
    let rest-is : drop (byte_len w) bytes ≡ rest = ap (λ (p : ℕ × List ℕ). p.1) g.1 in
    let front : to_be_bytes w n ≡ take (byte_len w) bytes = rw (← n-is) (wide.back (take (byte_len w) bytes) (omega (arith, length-take (byte_len w) bytes)) (IsBytes-take (byte_len w) bytes fits)) in
    (record { parts = rw (front, ← rest-is) (sym (take-append-drop (byte_len w) bytes)); rest_fits = rw (← rest-is) (IsBytes-drop (byte_len w) bytes fits) }, rw (← n-is) (wide.below (take (byte_len w) bytes) (IsBytes-take (byte_len w) bytes fits)))

number_again : (w : Width) (limit : ℕ) (wide : IsWide w limit) (n : ℕ) (rest : List ℕ) → n < limit → number_at w (to_be_bytes w n ++ rest) ≡ Ok (n, rest)
number_again w limit wide n rest lt =
    let len = wide.len n in
    let enough : ltb (length (to_be_bytes w n ++ rest)) (byte_len w) ≡ false = le-ltb _ _ (omega (arith, length-append (to_be_bytes w n) rest)) in
    rw (enough, take_at (to_be_bytes w n) rest (byte_len w) len, drop_at (to_be_bytes w n) rest (byte_len w) len, wide.again n lt) refl

pub word_takes : (bytes : List ℕ) (x : ℕ × List ℕ) → IsBytes bytes → number_at w32 bytes ≡ Ok x → Takes bytes (word x.0) x.1 × (x.0 < 2 ^ 32)
unfolding word
word_takes bytes x fits e = number_takes w32 (2 ^ 32) wide32 bytes x.0 x.1 fits e

pub word_again : (n : ℕ) (rest : List ℕ) → n < 2 ^ 32 → number_at w32 (word n ++ rest) ≡ Ok (n, rest)
unfolding word
word_again n rest lt = number_again w32 (2 ^ 32) wide32 n rest lt

pub long_takes : (bytes : List ℕ) (x : ℕ × List ℕ) → IsBytes bytes → number_at w64 bytes ≡ Ok x → Takes bytes (long x.0) x.1 × (x.0 < 2 ^ 64)
unfolding long
long_takes bytes x fits e = number_takes w64 (2 ^ 64) wide64 bytes x.0 x.1 fits e

pub long_again : (n : ℕ) (rest : List ℕ) → n < 2 ^ 64 → number_at w64 (long n ++ rest) ≡ Ok (n, rest)
unfolding long
long_again n rest lt = number_again w64 (2 ^ 64) wide64 n rest lt

-- ---- numbers in a range

pub word_within_takes : (low high : ℕ) (bytes : List ℕ) (x : ℕ × List ℕ) → IsBytes bytes → word_within low high bytes ≡ Ok x → Takes bytes (word x.0) x.1 × (low ≤ x.0) × (x.0 ≤ high)
unfolding word_within
word_within_takes low high bytes x fits e =
    let b = bind_ok (number_at w32 bytes) (λ n. cond (leb low n.0 && leb n.0 high) (Ok n) (Err (length bytes))) x e in
    let t = word_takes bytes b.0 fits b.1 in
    let p = passed_ok (leb low b.0.0 && leb b.0.0 high) (length bytes) b.0 x b.2 in
    let both = both_true (leb low b.0.0) (leb b.0.0 high) p.0 in
    subst (λ (y : ℕ × List ℕ). Takes bytes (word y.0) y.1 × (low ≤ y.0) × (y.0 ≤ high)) p.1 (t.0, leb-true _ _ both.0, leb-true _ _ both.1)

pub word_within_again : (low high n : ℕ) (rest : List ℕ) → low ≤ n → n ≤ high → high < 2 ^ 32 → word_within low high (word n ++ rest) ≡ Ok (n, rest)
unfolding word_within
word_within_again low high n rest lo hi lt =
    let small : n < 2 ^ 32 = omega arith in
    let read : number_at w32 (word n ++ rest) ≡ Ok (n, rest) = word_again n rest small in
    rw (read, le-leb low n lo, le-leb n high hi) refl

-- ---- bytes behind their number

pub blob_takes : (bytes : List ℕ) (x : List ℕ × List ℕ) → IsBytes bytes → blob_at bytes ≡ Ok x → Takes bytes (counted x.0) x.1 × (length x.0 ≤ 131071)
unfolding blob_at counted
blob_takes bytes x fits e =
    let b = bind_ok (word_within 0 131071 bytes) (λ n. cond (ltb (length n.1) n.0) (Err (length n.1)) (Ok (take n.0 n.1, drop n.0 n.1))) x e in
    let n = b.0 in
    let t = word_within_takes 0 131071 bytes n fits b.1 in
    let g = guard_ok (ltb (length n.1) n.0) (length n.1) (take n.0 n.1, drop n.0 n.1) x b.2 in
    let enough : n.0 ≤ length n.1 = ltb-false _ _ g.0 in
    let len : length (take n.0 n.1) ≡ n.0 = omega (arith, length-take n.0 n.1) in
    let second : Takes n.1 (take n.0 n.1) (drop n.0 n.1) = record { parts = sym (take-append-drop n.0 n.1); rest_fits = IsBytes-drop n.0 n.1 t.0.rest_fits } in
    let both = Takes-then bytes (word n.0) n.1 (take n.0 n.1) (drop n.0 n.1) t.0 second in
    let whole : Takes bytes (word (length (take n.0 n.1)) ++ take n.0 n.1) (drop n.0 n.1) = subst (λ (k : ℕ). Takes bytes (word k ++ take n.0 n.1) (drop n.0 n.1)) (sym len) both in
    subst (λ (y : List ℕ × List ℕ). Takes bytes (word (length y.0) ++ y.0) y.1 × (length y.0 ≤ 131071)) g.1 (whole, omega (arith, t.2))

pub blob_again : (b rest : List ℕ) → length b ≤ 131071 → blob_at (counted b ++ rest) ≡ Ok (b, rest)
unfolding blob_at counted
blob_again b rest short =
    let regrouped : (word (length b) ++ b) ++ rest ≡ word (length b) ++ (b ++ rest) = append_assoc (word (length b)) b rest in
    let read : word_within 0 131071 (word (length b) ++ (b ++ rest)) ≡ Ok (length b, b ++ rest) = word_within_again 0 131071 (length b) (b ++ rest) (omega arith) short (omega arith) in
    let enough : ltb (length (b ++ rest)) (length b) ≡ false = le-ltb _ _ (omega (arith, length-append b rest)) in
    rw (regrouped, read, enough, take_at b rest (length b) refl, drop_at b rest (length b) refl) refl
