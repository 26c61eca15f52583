-- What std reads of digits, and names as text.
use Rattle.std.proofs.Common.{◌≡◌, ℕ, ◌<◌, ◌^◌, zero, suc, true, List, [], ◌∷◌, length, sym, arith}
use Rattle.std.specs.Prelude.{◌==◌, not, None, Result, Err}
use Rattle.std.specs.List.{list_all}
use Rattle.std.specs.Result.{OkIff}
use Rattle.std.specs.Str.{IsAscii, IsUtf8}
use Rattle.std.specs.Str.Parse.{ParsesUnsigned, digits_value}
use Rattle.std.proofs.lemmas.Bool.Decides.{nat_tests}
use Rattle.std.proofs.lemmas.Str.{IsUtf8-from_ascii}
use Rattle.std.proofs.lemmas.Str.Parse.{parse_digits}
use Rattle.hop_base.proofs.Numerals.{numerals}
use Rattle.hop_base.proofs.Truth.{both_true}
use Rattle.hop_words.specs.Names.{is_name, is_name_byte}
use Rattle.hop_words.specs.Numbers.{is_number, number_between, within}

some_digits : (n : ℕ) → not (n == 0) ≡ true → 0 < n
some_digits n e = grind (arith, nat_tests)

-- what std reads of 1 to 20 digits
pub read_digits : {E : Type 0} (text : List ℕ) (r : Result ℕ E) → ParsesUnsigned 32 10 text r → is_number text ≡ true → OkIff r ((0 < length text) × (digits_value 10 text < 2 ^ 32)) (digits_value 10 text)
read_digits text r h e = parse_digits numerals 32 text r h (both_true _ _ e).1

pub is_some_number : (text : List ℕ) → is_number text ≡ true → 0 < length text
is_some_number text e = some_digits (length text) (both_true _ _ (both_true _ _ e).0).0

pub none_above : (least most n : ℕ) → most < n → within least most n ≡ None
none_above least most n above = grind (arith, nat_tests)

-- ---- names

name_byte_small : (c : ℕ) → is_name_byte c ≡ true → c < 128
name_byte_small c e = grind (arith, nat_tests)

name_bytes_small : (text : List ℕ) → list_all is_name_byte text ≡ true → IsAscii text
name_bytes_small [] e i = omega arith
name_bytes_small (c ∷ cs) e zero = name_byte_small c (both_true _ _ e).0
name_bytes_small (c ∷ cs) e (suc i) = name_bytes_small cs (both_true _ _ e).1 i

-- a name is text
pub name_is_text : (text : List ℕ) → is_name text ≡ true → IsUtf8 text
name_is_text text e = IsUtf8-from_ascii text (name_bytes_small text (both_true _ _ (both_true _ _ e).0).1)

past : (v most : ℕ) → most < 2 ^ 32 → (v < 2 ^ 32 → ⊥) → most < v
past v most small h = grind arith

-- what std can't read is above the range
pub unread_none : {E : Type 0} (least most : ℕ) (text : List ℕ) (fault : E) → ParsesUnsigned 32 10 text (Err fault) → is_number text ≡ true → most < 2 ^ 32 → None ≡ number_between least most text
unread_none least most text fault h is small =
    let above : most < digits_value 10 text = past (digits_value 10 text) most small (λ below. read_digits text (Err fault) h is (is_some_number text is, below)) in
    rw is (sym (none_above least most (digits_value 10 text) above))
