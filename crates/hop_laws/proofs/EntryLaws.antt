-- Entries, and the pairs that they stand for.
use Rattle.std.proofs.Common.{◌≡◌, ◌≢◌, ℕ, ◌+◌, ◌^◌, ◌<◌, ◌≤◌, ◌⊎◌, inl, inr, Bool, true, false, cond, List, [], ◌∷◌, ◌++◌, length, take, drop, refl, sym, ap, ◌∙◌, subst, arith, append_assoc, length-append, leb-true, leb-false}
use Rattle.std.specs.Prelude.{All, IsSorted, ◌==◌, nat_le}
use Rattle.std.specs.Str.{bytes_eq}
use Rattle.std.specs.List.{AllByRecursion}
use Rattle.std.specs.declared.cmp.Ordering.{Ordering}
use Rattle.std.specs.declared.cmp.Ordering.TheVariants.{Less, Equal, Greater}
use Rattle.std.specs.Ordering.{nat_cmp, ordering_then, ordering_reverse, is_eq, is_gt}
use Rattle.std.specs.Cmp.{IsTotalOrder, tied_itself}
use Rattle.std.specs.Cmp.Lexicographic.{texts_ties}
use Rattle.std.proofs.lemmas.Cmp.{on_total, then_total, nat_cmp_total}
use Rattle.std.proofs.lemmas.Bool.{cases_Bool}
use Rattle.std.proofs.lemmas.Bool.Decides.{eqb_tells, leb_tells}
use Rattle.std.proofs.lemmas.Slice.Eq.{bytes_eq-Decides}
use Rattle.std.proofs.lemmas.List.{take-append-le, drop-append-le, take-append-drop, length-drop}
use Rattle.std.proofs.lemmas.List.Elements.{recursion_from_All, All-from_recursion}
use Rattle.std.proofs.Math.Seq.{drop-append_seam, take-append_seam, take-length}
use Rattle.hop_base.specs.declared.value.Pair.{Pair}
use Rattle.hop_base.specs.Order.{key_cmp, pair_cmp, IsValidPair}
use Rattle.hop_base.proofs.OrderLaws.{key_total, pair_total}
use Rattle.hop_base.proofs.Sorted.{IsUptoAll, IsAscending, IsAscending-IsSorted, IsSorted-IsAscending}
use Rattle.hop_laws.specs.declared.entry.Entry.{Entry}
use Rattle.hop_laws.specs.declared.head.Head.{Head}
use Rattle.hop_laws.specs.Entries.{stored_key, text_in, key_in, pair_in, pairs_in, stored_of, stored_bytes, IsEntry, value_cmp, entry_cmp}
use Rattle.hop_laws.specs.Heads.{head_of, short_key}
use Rattle.hop_base.specs.Fields.{pair_of}
use Rattle.hop_laws.proofs.HeadLaws.{AreBytes, head_cmp, heads_less, heads_same, short_held}

pub entry_total : (arena : List ℕ) → IsTotalOrder (entry_cmp arena)
entry_total arena =
    then_total (on_total (λ (e : Entry). e.head.first) nat_cmp_total)
    (then_total (on_total (λ (e : Entry). e.head.second) nat_cmp_total)
    (then_total (on_total (stored_key arena) key_total)
    (then_total (on_total (λ (e : Entry). e.number) nat_cmp_total) (on_total (text_in arena) key_total))))

-- ---- long and short keys

long_at : (n s : ℕ) (b : Bool) → nat_le n 15 ≡ b → s ≡ cond b 0 n → 15 < n → s ≡ n
long_at n s true t e h = absurd (omega (arith, leb-true n 15 t))
long_at n s false t e h = e

short_at : (n s : ℕ) (b : Bool) → nat_le n 15 ≡ b → s ≡ cond b 0 n → n ≤ 15 → s ≡ 0
short_at n s true t e h = e
short_at n s false t e h = absurd (omega (arith, leb-false n 15 t))

stored_none : (arena : List ℕ) (e : Entry) → IsEntry arena e → length (key_in arena e) ≤ 15 → e.stored_len ≡ 0
stored_none arena e h short = short_at (length (key_in arena e)) e.stored_len (nat_le (length (key_in arena e)) 15) refl h.stored short

not_zero : (n : ℕ) → 0 < n → (n == 0) ≡ false
not_zero n h = at (eqb_tells n 0)
  where
    at : (((n == 0) ≡ true) × (n ≡ 0)) ⊎ (((n == 0) ≡ false) × (n ≢ 0)) → (n == 0) ≡ false
    at (inl e) = absurd (omega (arith, e.1, h))
    at (inr e) = e.0

stored_whole : (arena : List ℕ) (e : Entry) → IsEntry arena e → 15 < length (key_in arena e) → key_in arena e ≡ stored_key arena e
stored_whole arena e h long =
    let some : e.stored_len ≡ length (key_in arena e) = long_at (length (key_in arena e)) e.stored_len (nat_le (length (key_in arena e)) 15) refl h.stored long in
    ap (λ b. cond b (short_key e.head) (stored_key arena e)) (not_zero e.stored_len (omega (arith, some)))

no_stored : (arena : List ℕ) (e : Entry) → e.stored_len ≡ 0 → stored_key arena e ≡ []
no_stored arena e h = ap (λ n. take n (drop e.at arena)) h

length_stored : (key : List ℕ) → length (stored_bytes key) ≡ stored_of (length key)
length_stored key = at (nat_le (length key) 15)
  where
    at : (b : Bool) → length (cond b [] key) ≡ cond b 0 (length key)
    at true = refl
    at false = refl

-- the key of a new entry
key_at : (key stored there : List ℕ) → AreBytes key → ((nat_le (length key) 15 ≡ true) × (length key ≤ 15)) ⊎ ((nat_le (length key) 15 ≡ false) × (15 < length key)) → stored ≡ stored_bytes key → there ≡ stored → cond (length stored == 0) (short_key (head_of key)) there ≡ key
key_at key stored there bytes (inl short) es et =
    let none : stored ≡ [] = es ∙ ap (λ b. cond b [] key) short.0 in
    ap (λ bs. cond (length bs == 0) (short_key (head_of key)) there) none ∙ short_held key bytes short.1
key_at key stored there bytes (inr long) es et =
    let whole : stored ≡ key = es ∙ ap (λ b. cond b [] key) long.0 in
    ap (λ b. cond b (short_key (head_of key)) there) (not_zero (length stored) (omega (arith, long.1, ap {B = ℕ} length whole))) ∙ et ∙ whole

-- ---- order

then_assoc : (o p q : Ordering) → ordering_then (ordering_then o p) q ≡ ordering_then o (ordering_then p q)
then_assoc Less p q = refl
then_assoc Equal p q = refl
then_assoc Greater p q = refl

head_total : IsTotalOrder head_cmp
head_total = then_total (on_total (λ (h : Head). h.first) nat_cmp_total) (on_total (λ (h : Head). h.second) nat_cmp_total)

-- the comparison of two entries' heads is that of their keys' heads
of_keys : (arena : List ℕ) (x y : Entry) → IsEntry arena x → IsEntry arena y → head_cmp (head_of (key_in arena x)) (head_of (key_in arena y)) ≡ head_cmp x.head y.head
of_keys arena x y hx hy = ap (λ h. head_cmp h (head_of (key_in arena y))) (sym hx.head) ∙ ap (head_cmp x.head) (sym hy.head)

flipped : (arena : List ℕ) (x y : Entry) (o : Ordering) → IsEntry arena x → IsEntry arena y → head_cmp x.head y.head ≡ o → head_cmp (head_of (key_in arena y)) (head_of (key_in arena x)) ≡ ordering_reverse o
flipped arena x y o hx hy e = of_keys arena y x hy hx ∙ head_total.antisymm y.head x.head ∙ ap ordering_reverse e

-- entries of one head: what stands in the arena compares like the keys
below_is : (arena : List ℕ) (x y : Entry) → IsEntry arena x → IsEntry arena y → head_cmp x.head y.head ≡ Equal → key_cmp (stored_key arena x) (stored_key arena y) ≡ key_cmp (key_in arena x) (key_in arena y)
below_is arena x y hx hy e = at (leb_tells (length (key_in arena x)) 15) (leb_tells (length (key_in arena y)) 15)
  where
    at : ((nat_le (length (key_in arena x)) 15 ≡ true) × (length (key_in arena x) ≤ 15)) ⊎ ((nat_le (length (key_in arena x)) 15 ≡ false) × (15 < length (key_in arena x))) → ((nat_le (length (key_in arena y)) 15 ≡ true) × (length (key_in arena y) ≤ 15)) ⊎ ((nat_le (length (key_in arena y)) 15 ≡ false) × (15 < length (key_in arena y))) → key_cmp (stored_key arena x) (stored_key arena y) ≡ key_cmp (key_in arena x) (key_in arena y)
    at (inl short) other =
        let same : key_in arena x ≡ key_in arena y = heads_same (key_in arena x) (key_in arena y) hx.bytes hy.bytes (of_keys arena x y hx hy ∙ e) short.1 in
        let too : length (key_in arena y) ≤ 15 = subst (λ (k : List ℕ). length k ≤ 15) same short.1 in
        ap (λ k. key_cmp k (stored_key arena y)) (no_stored arena x (stored_none arena x hx short.1))
        ∙ ap (key_cmp []) (no_stored arena y (stored_none arena y hy too))
        ∙ sym (ap (λ k. key_cmp k (key_in arena y)) same ∙ tied_itself key_total (key_in arena y))
    at (inr long) (inl short) =
        let same : key_in arena y ≡ key_in arena x = heads_same (key_in arena y) (key_in arena x) hy.bytes hx.bytes (flipped arena x y Equal hx hy e) short.1 in
        let too : length (key_in arena x) ≤ 15 = subst (λ (k : List ℕ). length k ≤ 15) same short.1 in
        absurd (omega (arith, long.1, too))
    at (inr long) (inr too) =
        ap (λ k. key_cmp k (stored_key arena y)) (sym (stored_whole arena x hx long.1))
        ∙ ap (key_cmp (key_in arena x)) (sym (stored_whole arena y hy too.1))

pub entry_cmp_is : (arena : List ℕ) (x y : Entry) → IsEntry arena x → IsEntry arena y → entry_cmp arena x y ≡ pair_cmp (pair_in arena x) (pair_in arena y)
entry_cmp_is arena x y hx hy =
    sym (then_assoc (nat_cmp x.head.first y.head.first) (nat_cmp x.head.second y.head.second) (ordering_then (key_cmp (stored_key arena x) (stored_key arena y)) (value_cmp arena x y)))
    ∙ at (head_cmp x.head y.head) refl
  where
    at : (o : Ordering) → head_cmp x.head y.head ≡ o → ordering_then (head_cmp x.head y.head) (ordering_then (key_cmp (stored_key arena x) (stored_key arena y)) (value_cmp arena x y)) ≡ ordering_then (key_cmp (key_in arena x) (key_in arena y)) (value_cmp arena x y)
    at Less e =
        ap (λ o. ordering_then o (ordering_then (key_cmp (stored_key arena x) (stored_key arena y)) (value_cmp arena x y))) e
        ∙ sym (ap (λ o. ordering_then o (value_cmp arena x y)) (heads_less (key_in arena x) (key_in arena y) hx.bytes hy.bytes (of_keys arena x y hx hy ∙ e)))
    at Equal e =
        ap (λ o. ordering_then o (ordering_then (key_cmp (stored_key arena x) (stored_key arena y)) (value_cmp arena x y))) e
        ∙ ap (λ o. ordering_then o (value_cmp arena x y)) (below_is arena x y hx hy e)
    at Greater e =
        let greater : key_cmp (key_in arena x) (key_in arena y) ≡ Greater = key_total.antisymm (key_in arena x) (key_in arena y) ∙ ap ordering_reverse (heads_less (key_in arena y) (key_in arena x) hy.bytes hx.bytes (flipped arena x y Greater hx hy e)) in
        ap (λ o. ordering_then o (ordering_then (key_cmp (stored_key arena x) (stored_key arena y)) (value_cmp arena x y))) e
        ∙ sym (ap (λ o. ordering_then o (value_cmp arena x y)) greater)

upto_pairs : (arena : List ℕ) (x : Entry) (ys : List Entry) → IsEntry arena x → AllByRecursion (IsEntry arena) ys → IsUptoAll (entry_cmp arena) x ys → IsUptoAll pair_cmp (pair_in arena x) (pairs_in arena ys)
upto_pairs arena x [] hx h u = tt
upto_pairs arena x (y ∷ ys) hx h u = (ap is_gt (sym (entry_cmp_is arena x y hx h.0)) ∙ u.0, upto_pairs arena x ys hx h.1 u.1)

ascending_pairs : (arena : List ℕ) (xs : List Entry) → AllByRecursion (IsEntry arena) xs → IsAscending (entry_cmp arena) xs → IsAscending pair_cmp (pairs_in arena xs)
ascending_pairs arena [] h a = tt
ascending_pairs arena (x ∷ xs) h a = (upto_pairs arena x xs h.0 h.1 a.0, ascending_pairs arena xs h.1 a.1)

-- entries in order are pairs in order
pub sorted_pairs : (arena : List ℕ) (xs : List Entry) → All (IsEntry arena) xs → IsSorted (entry_cmp arena) xs → IsSorted pair_cmp (pairs_in arena xs)
sorted_pairs arena xs h s = IsSorted-IsAscending pair_cmp pair_total (pairs_in arena xs) (ascending_pairs arena xs (recursion_from_All (IsEntry arena) xs h) (IsAscending-IsSorted (entry_cmp arena) (entry_total arena) xs s))

-- ---- one key

pub one_key : (arena : List ℕ) (x y : Entry) → IsEntry arena x → IsEntry arena y → x.head.first ≡ y.head.first → x.head.second ≡ y.head.second → bytes_eq (stored_key arena x) (stored_key arena y) ≡ bytes_eq (key_in arena x) (key_in arena y)
one_key arena x y hx hy ef es =
    let e : head_cmp x.head y.head ≡ Equal = ap (λ n. ordering_then (nat_cmp x.head.first n) (nat_cmp x.head.second y.head.second)) (sym ef) ∙ ap (λ n. ordering_then (nat_cmp x.head.first x.head.first) (nat_cmp x.head.second n)) (sym es) ∙ tied_itself head_total x.head in
    texts_ties (stored_key arena x) (stored_key arena y) ∙ ap is_eq (below_is arena x y hx hy e) ∙ sym (texts_ties (key_in arena x) (key_in arena y))

-- entries of two heads have two keys
pub two_keys : (arena : List ℕ) (x y : Entry) → IsEntry arena x → IsEntry arena y → x.head ≢ y.head → false ≡ bytes_eq (key_in arena x) (key_in arena y)
two_keys arena x y hx hy apart = at (cases_Bool (bytes_eq (key_in arena x) (key_in arena y)))
  where
    at : (bytes_eq (key_in arena x) (key_in arena y) ≡ true) ⊎ (bytes_eq (key_in arena x) (key_in arena y) ≡ false) → false ≡ bytes_eq (key_in arena x) (key_in arena y)
    at (inl same) = absurd (apart (hx.head ∙ ap head_of ((bytes_eq-Decides (key_in arena x) (key_in arena y)).0 same) ∙ sym hy.head))
    at (inr other) = sym other

one_head : (x y : Head) → x.first ≡ y.first → x.second ≡ y.second → x ≡ y
one_head x y f s = ap (λ n. record { first = n; second = x.second }) f ∙ ap (λ n. record { first = y.first; second = n }) s

-- an entry of a key's head has the key
pub key_known : (arena : List ℕ) (e : Entry) (key : List ℕ) (head : Head) → IsEntry arena e → AreBytes key → head ≡ head_of key → e.head.first ≡ head.first → e.head.second ≡ head.second → length key ≤ 15 → true ≡ bytes_eq (key_in arena e) key
key_known arena e key head h bytes eh ef es short =
    let one : head_of (key_in arena e) ≡ head_of key = sym h.head ∙ one_head e.head head ef es ∙ eh in
    let same : key ≡ key_in arena e = heads_same key (key_in arena e) bytes h.bytes (ap (head_cmp (head_of key)) one ∙ tied_itself head_total (head_of key)) short in
    sym ((bytes_eq-Decides (key_in arena e) key).1 (sym same))

-- or its key stands in the arena
pub key_there : (arena : List ℕ) (e : Entry) (key : List ℕ) (head : Head) → IsEntry arena e → AreBytes key → head ≡ head_of key → e.head.first ≡ head.first → e.head.second ≡ head.second → 15 < length key → stored_key arena e ≡ key_in arena e
key_there arena e key head h bytes eh ef es long = at (leb_tells (length (key_in arena e)) 15)
  where
    one : head_of key ≡ head_of (key_in arena e)
    one = sym (sym h.head ∙ one_head e.head head ef es ∙ eh)

    at : ((nat_le (length (key_in arena e)) 15 ≡ true) × (length (key_in arena e) ≤ 15)) ⊎ ((nat_le (length (key_in arena e)) 15 ≡ false) × (15 < length (key_in arena e))) → stored_key arena e ≡ key_in arena e
    at (inl short) =
        let same : key_in arena e ≡ key = heads_same (key_in arena e) key h.bytes bytes (ap (head_cmp (head_of (key_in arena e))) one ∙ tied_itself head_total (head_of (key_in arena e))) short.1 in
        absurd (omega (arith, long, short.1, ap {B = ℕ} length same))
    at (inr long_too) = sym (stored_whole arena e h long_too.1)

-- two keys where the heads are two
pub key_other : (arena : List ℕ) (e : Entry) (key : List ℕ) → IsEntry arena e → e.head ≢ head_of key → false ≡ bytes_eq (key_in arena e) key
key_other arena e key h apart = at (cases_Bool (bytes_eq (key_in arena e) key))
  where
    at : (bytes_eq (key_in arena e) key ≡ true) ⊎ (bytes_eq (key_in arena e) key ≡ false) → false ≡ bytes_eq (key_in arena e) key
    at (inl same) = absurd (apart (h.head ∙ ap head_of ((bytes_eq-Decides (key_in arena e) key).0 same)))
    at (inr other) = sym other

-- ---- an arena that grows

pub record IsKept (arena grown : List ℕ) (e : Entry) : Type 0 where
  pub key : key_in grown e ≡ key_in arena e
  pub text : text_in grown e ≡ text_in arena e

kept : (arena more : List ℕ) (e : Entry) → IsEntry arena e → IsKept arena (arena ++ more) e
kept arena more e h =
    let far : drop e.at (arena ++ more) ≡ drop e.at arena ++ more = drop-append-le e.at arena more (omega (arith, h.within)) in
    let room : e.stored_len + e.text_len ≤ length (drop e.at arena) = omega (arith, h.within, length-drop e.at arena) in
    let stored : stored_key (arena ++ more) e ≡ stored_key arena e = ap (take e.stored_len) far ∙ take-append-le e.stored_len (drop e.at arena) more (omega (arith, room)) in
    record {
      key = ap (λ k. cond (e.stored_len == 0) (short_key e.head) k) stored;
      text = ap (λ bs. take e.text_len (drop e.stored_len bs)) far ∙ ap (take e.text_len) (drop-append-le e.stored_len (drop e.at arena) more (omega (arith, room)))
          ∙ take-append-le e.text_len (drop e.stored_len (drop e.at arena)) more (omega (arith, room, length-drop e.stored_len (drop e.at arena)));
    }

pair_kept : (arena grown : List ℕ) (e : Entry) → IsKept arena grown e → pair_in grown e ≡ pair_in arena e
pair_kept arena grown e k = ap (λ key. pair_of key e.number (text_in grown e)) k.key ∙ ap (pair_of (key_in arena e) e.number) k.text

entry_kept : (arena more : List ℕ) (e : Entry) → IsEntry arena e → IsEntry (arena ++ more) e
entry_kept arena more e h =
    let k = kept arena more e h in
    record {
      within = omega (arith, h.within, length-append arena more);
      head = h.head ∙ ap head_of (sym k.key);
      stored = h.stored ∙ ap (λ (key : List ℕ). stored_of (length key)) (sym k.key);
      bytes = subst (λ (key : List ℕ). AreBytes key) (sym k.key) h.bytes;
      valid = subst (λ (p : Pair). IsValidPair p) (sym (pair_kept arena (arena ++ more) e k)) h.valid;
    }

grown_is : (arena grown : List ℕ) → take (length arena) grown ≡ arena → grown ≡ arena ++ drop (length arena) grown
grown_is arena grown e = sym (take-append-drop (length arena) grown) ∙ ap (λ xs. xs ++ drop (length arena) grown) e

all_kept : (arena more : List ℕ) (es : List Entry) → AllByRecursion (IsEntry arena) es → AllByRecursion (IsEntry (arena ++ more)) es × (pairs_in (arena ++ more) es ≡ pairs_in arena es)
all_kept arena more [] h = (tt, refl)
all_kept arena more (e ∷ es) h =
    let others = all_kept arena more es h.1 in
    ((entry_kept arena more e h.0, others.0), ap (λ p. p ∷ pairs_in (arena ++ more) es) (pair_kept arena (arena ++ more) e (kept arena more e h.0)) ∙ ap (λ ps. pair_in arena e ∷ ps) others.1)

-- the entries of an arena that grew
pub entries_kept : (arena grown : List ℕ) (es : List Entry) → take (length arena) grown ≡ arena → All (IsEntry arena) es → All (IsEntry grown) es
entries_kept arena grown es e h = subst (λ (a : List ℕ). All (IsEntry a) es) (sym (grown_is arena grown e)) (All-from_recursion (IsEntry (arena ++ drop (length arena) grown)) es (all_kept arena (drop (length arena) grown) es (recursion_from_All (IsEntry arena) es h)).0)

pub pairs_kept : (arena grown : List ℕ) (es : List Entry) → take (length arena) grown ≡ arena → All (IsEntry arena) es → pairs_in grown es ≡ pairs_in arena es
pairs_kept arena grown es e h = ap (λ (a : List ℕ). pairs_in a es) (grown_is arena grown e) ∙ (all_kept arena (drop (length arena) grown) es (recursion_from_All (IsEntry arena) es h)).1

-- ---- a new entry

pub record IsMade (arena key : List ℕ) (number : ℕ) (text : List ℕ) (e : Entry) : Type 0 where
  pub entry : IsEntry arena e
  pub pair : pair_in arena e ≡ pair_of key number text

pub made : (arena key text stored grown : List ℕ) (number at : ℕ) → at ≡ length arena → stored ≡ stored_bytes key → grown ≡ (arena ++ stored) ++ text → AreBytes key → length key ≤ 131071 → length text ≤ 131071 → number < 2 ^ 64 → IsMade grown key number text (record { head = head_of key; number = number; at = at; stored_len = length stored; text_len = length text })
made arena key text stored grown number at ea es eg bytes short_key_len short_text small =
    let e : Entry = record { head = head_of key; number = number; at = at; stored_len = length stored; text_len = length text } in
    let far : drop at grown ≡ stored ++ text = ap (λ n. drop n grown) ea ∙ ap (drop (length arena)) (eg ∙ append_assoc arena stored text) ∙ drop-append_seam arena (stored ++ text) in
    let there : stored_key grown e ≡ stored = ap (take (length stored)) far ∙ take-append_seam stored text in
    let told : text_in grown e ≡ text = ap (λ bs. take (length text) (drop (length stored) bs)) far ∙ ap (take (length text)) (drop-append_seam stored text) ∙ take-length text in
    let key_is : key_in grown e ≡ key = key_at key stored (stored_key grown e) bytes (leb_tells (length key) 15) es there in
    let pair_is : pair_in grown e ≡ pair_of key number text = ap (λ k. pair_of k number (text_in grown e)) key_is ∙ ap (pair_of key number) told in
    record {
      entry = record {
        within = omega (arith, ea, ap {B = ℕ} length eg, length-append (arena ++ stored) text, length-append arena stored);
        head = ap head_of (sym key_is);
        stored = ap length es ∙ length_stored key ∙ ap (λ (k : List ℕ). stored_of (length k)) (sym key_is);
        bytes = subst (λ (k : List ℕ). AreBytes k) (sym key_is) bytes;
        valid = subst (λ (p : Pair). IsValidPair p) (sym pair_is) (record { key = short_key_len; value = record { number = small; text = short_text } });
      };
      pair = pair_is;
    }
