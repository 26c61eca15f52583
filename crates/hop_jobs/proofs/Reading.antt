-- Reading a record at its last tab.
use Rattle.std.proofs.Common.{◌≡◌, ℕ, suc, ◌+◌, ◌-◌, ◌*◌, ◌^◌, ◌<◌, ◌≤◌, Bool, true, false, cond, ◌&&◌, List, [], ◌∷◌, ◌++◌, length, take, drop, get_or, drop-cons, Option, Some, None, refl, sym, ap, ◌∙◌, subst, arith}
use Rattle.std.specs.Prelude.{nat_lt, nat_le, ◌==◌}
use Rattle.std.specs.List.{list_all}
use Rattle.std.proofs.lemmas.Bool.{false≢true, false_from_ne_true, eqb-true, le-ltb, le-leb, lt-ltb}
use Rattle.std.proofs.lemmas.List.{take_more, take_all, take-append-drop, length-drop, get_or-drop}
use Rattle.std.specs.Option.{option_map}
use Rattle.memchr.specs.Find.{IsLastByte, is_byte}
use Rattle.hop_jobs.specs.Numbered.{spelled, is_digit, is_number, number_of, tab_before, at_last_tab}

-- the last tab, where the rest has none
pub tab_here : (xs ys : List ℕ) → at_last_tab ys ≡ None → at_last_tab (xs ++ 9 ∷ ys) ≡ Some (xs, ys)
tab_here [] ys e = ap (tab_before 9 ys) e
tab_here (x ∷ xs) ys e = ap (tab_before x (xs ++ 9 ∷ ys)) (tab_here xs ys e)

-- no tab
pub tab_none : (b : ℕ) (bs : List ℕ) → (b == 9) ≡ false → at_last_tab bs ≡ None → at_last_tab (b ∷ bs) ≡ None
tab_none b bs e h = ap (tab_before b bs) h ∙ ap (λ t. cond t (Some ([], bs)) None) e

-- a number only grows by its digits
pub spelled-le : (n : ℕ) (ds : List ℕ) → n ≤ spelled n ds
spelled-le n [] = omega arith
spelled-le n (d ∷ ds) = omega (arith, spelled-le (10 * n + (d - 48)) ds)

pub spelled-append : (n : ℕ) (xs ys : List ℕ) → spelled n (xs ++ ys) ≡ spelled (spelled n xs) ys
spelled-append n [] ys = refl
spelled-append n (x ∷ xs) ys = spelled-append (10 * n + (x - 48)) xs ys

-- the tab at place j, with no tab from i = j + 1 on
pub tab_found : (line : List ℕ) (j i : ℕ) → i ≡ j + 1 → j < length line → get_or line j 0 ≡ 9 → at_last_tab (drop i line) ≡ None → at_last_tab line ≡ Some (take j line, drop (j + 1) line)
tab_found line j i e h b none =
    let s : suc j ≡ j + 1 = omega arith in
    let whole : take j line ++ 9 ∷ drop (j + 1) line ≡ line =
    ap (λ x. take j line ++ x ∷ drop (j + 1) line) (sym b) ∙ ap (λ k. take j line ++ get_or line j 0 ∷ drop k line) (sym s) ∙ ap (λ xs. take j line ++ xs) (sym (drop-cons line j 0 h)) ∙ take-append-drop j line in
    ap at_last_tab (sym whole) ∙ tab_here (take j line) (drop (j + 1) line) (subst (λ k. at_last_tab (drop k line) ≡ None) e none)

-- no tab at all
pub tabs_none : (xs : List ℕ) → ((j : ℕ) → j < length xs → ¬ ((get_or xs j 0 == 9) ≡ true)) → at_last_tab xs ≡ None
tabs_none [] none = refl
tabs_none (b ∷ bs) none = tab_none b bs (false_from_ne_true _ (none 0 (omega arith))) (tabs_none bs (λ j lt. none (suc j) (omega arith)))

-- the tab at place k, with none behind it
pub tab_at : (xs : List ℕ) (k : ℕ) → k < length xs → ((j : ℕ) → k + 1 ≤ j → j < length xs → ¬ ((get_or xs j 0 == 9) ≡ true)) → (get_or xs k 0 == 9) ≡ true → at_last_tab xs ≡ Some (take k xs, drop (k + 1) xs)
tab_at xs k lt after here =
    tab_found xs k (k + 1) (omega arith) lt (eqb-true (get_or xs k 0) 9 here)
    (tabs_none (drop (k + 1) xs) (λ j below is. after (k + 1 + j) (omega arith) (omega (arith, length-drop (k + 1) xs)) (ap (λ b. b == 9) (sym (get_or-drop (k + 1) xs j 0)) ∙ is)))

last_false : (a b c d : Bool) → d ≡ false → (a && (b && (c && d))) ≡ false
last_false true true true d e = e
last_false false b c d e = refl
last_false true false c d e = refl
last_false true true false d e = refl

third_false : (a b c d : Bool) → c ≡ false → (a && (b && (c && d))) ≡ false
third_false true true c d e = ap (λ x. x && d) e
third_false false b c d e = refl
third_false true false c d e = refl

no_number : (ds : List ℕ) → is_number ds ≡ false → number_of ds ≡ None
no_number ds e = ap (λ b. cond b (Some (spelled 0 ds)) None) e

-- where the first i + 1 digits spell too much, all do
pub too_great : (ds : List ℕ) (i : ℕ) → 2 ^ 64 ≤ spelled 0 (take i ds) → number_of ds ≡ None
too_great ds i h =
    let all : 2 ^ 64 ≤ spelled 0 ds = omega (arith, ap {B = ℕ} (spelled 0) (take-append-drop i ds), spelled-append 0 (take i ds) (drop i ds), spelled-le (spelled 0 (take i ds)) (drop i ds)) in
    no_number ds (last_false (nat_le 1 (length ds)) (nat_le (length ds) 20) (list_all is_digit ds) (nat_lt (spelled 0 ds) (2 ^ 64)) (le-ltb (spelled 0 ds) (2 ^ 64) all))

pub spelled_more : (ds : List ℕ) (i : ℕ) → i < length ds → spelled 0 (take (i + 1) ds) ≡ 10 * spelled 0 (take i ds) + (get_or ds i 0 - 48)
spelled_more ds i h = ap (spelled 0) (take_more ds i 0 h) ∙ spelled-append 0 (take i ds) (get_or ds i 0 ∷ [])

and_all : (a b c d : Bool) → a ≡ true → b ≡ true → c ≡ true → d ≡ true → (a && (b && (c && d))) ≡ true
and_all true true true true e f g h = refl
and_all false b c d e f g h = absurd (false≢true e)
and_all true false c d e f g h = absurd (false≢true f)
and_all true true false d e f g h = absurd (false≢true g)
and_all true true true false e f g h = absurd (false≢true h)

-- where all digits were read
pub number_read : (ds : List ℕ) (n i : ℕ) → 0 < length ds → length ds ≤ 20 → length ds ≤ i → list_all is_digit (take i ds) ≡ true → n ≡ spelled 0 (take i ds) → n < 2 ^ 64 → Some n ≡ number_of ds
number_read ds n i some few all digits spells small =
    let whole : take i ds ≡ ds = take_all i ds all in
    let value : n ≡ spelled 0 ds = spells ∙ ap (spelled 0) whole in
    let test : is_number ds ≡ true = and_all (nat_le 1 (length ds)) (nat_le (length ds) 20) (list_all is_digit ds) (nat_lt (spelled 0 ds) (2 ^ 64)) (le-leb 1 (length ds) (omega arith)) (le-leb (length ds) 20 few) (sym (ap (list_all is_digit) whole) ∙ digits) (lt-ltb (spelled 0 ds) (2 ^ 64) (omega (arith, value))) in
    ap Some value ∙ sym (ap (λ b. cond b (Some (spelled 0 ds)) None) test)

all_at : (b s t : Bool) → (b && s) ≡ true → (s ≡ true → t ≡ true) → (b && t) ≡ true
all_at true s t h f = f h
all_at false s t h f = absurd (false≢true h)

all_append : (xs : List ℕ) (d : ℕ) → list_all is_digit xs ≡ true → is_digit d ≡ true → list_all is_digit (xs ++ d ∷ []) ≡ true
all_append [] d h e = ap (λ b. b && true) e
all_append (x ∷ xs) d h e = all_at (is_digit x) (list_all is_digit xs) (list_all is_digit (xs ++ d ∷ [])) h (λ r. all_append xs d r e)

and_true : (a b : Bool) → a ≡ true → b ≡ true → (a && b) ≡ true
and_true true true e f = refl
and_true false b e f = absurd (false≢true e)
and_true true false e f = absurd (false≢true f)

-- one more digit
pub digits_more : (ds : List ℕ) (i : ℕ) → i < length ds → list_all is_digit (take i ds) ≡ true → 48 ≤ get_or ds i 0 → get_or ds i 0 ≤ 57 → list_all is_digit (take (i + 1) ds) ≡ true
digits_more ds i h all low high = ap (list_all is_digit) (take_more ds i 0 h) ∙ all_append (take i ds) (get_or ds i 0) all (and_true (nat_le 48 (get_or ds i 0)) (nat_le (get_or ds i 0) 57) (le-leb 48 (get_or ds i 0) low) (le-leb (get_or ds i 0) 57 high))

-- what a search for the last tab tells
pub tab_told : (xs : List ℕ) (o : Option ℕ) → IsLastByte (is_byte 9) xs o → at_last_tab xs ≡ option_map (λ i. (take i xs, drop (i + 1) xs)) o
tab_told xs None h = tabs_none xs (λ j lt. h j (omega arith) lt)
tab_told xs (Some k) h = tab_at xs k h.0.high h.0.after h.1
