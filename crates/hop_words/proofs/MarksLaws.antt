-- Marks are read one after the other.
use Rattle.std.proofs.Common.{◌≡◌, ℕ, ◌+◌, ◌≤◌, Bool, true, false, cond, List, [], ◌∷◌, ◌++◌, None, Some, refl, sym, ap, ◌∙◌, append_assoc, arith}
use Rattle.std.specs.Prelude.{Option, option_map, option_and_then}
use Rattle.std.proofs.lemmas.Bool.Decides.{nat_tests}
use Rattle.std.specs.Str.Parse.{digits_value}
use Rattle.hop_base.specs.Ranges.{last_mark}
use Rattle.hop_words.specs.Marks.{marks_above}
use Rattle.hop_words.specs.Numbers.{is_number, number_between, within}

-- these marks and those that others write
abbrev pub with_marks : List ℕ → Option (List ℕ) → Option (List ℕ)
with_marks marks others = option_map (λ more. marks ++ more) others

one_more : (marks : List ℕ) (mark : ℕ) (others : Option (List ℕ)) → with_marks marks (option_map (λ more. mark ∷ more) others) ≡ with_marks (marks ++ mark ∷ []) others
one_more marks mark None = refl
one_more marks mark (Some more) = ap Some (sym (append_assoc marks (mark ∷ []) more))

-- the first text writes a mark
pub mark_first : (marks : List ℕ) (low mark : ℕ) (text : List ℕ) (texts : List (List ℕ)) → Some mark ≡ number_between (low + 1) 10000 text → with_marks marks (marks_above low (text ∷ texts)) ≡ with_marks (marks ++ mark ∷ []) (marks_above mark texts)
mark_first marks low mark text texts e =
    ap (λ found. with_marks marks (option_and_then (λ mark. option_map (λ more. mark ∷ more) (marks_above mark texts)) found)) (sym e) ∙ one_more marks mark (marks_above mark texts)

-- the last of the marks
pub last_mark_more : (marks : List ℕ) (mark : ℕ) → last_mark (marks ++ mark ∷ []) ≡ mark
last_mark_more [] mark = refl
last_mark_more (m ∷ []) mark = refl
last_mark_more (m ∷ n ∷ marks) mark = last_mark_more (n ∷ marks) mark

within_both : (least most n m : ℕ) → Some m ≡ within least most n → (least ≤ m) × (m ≤ most)
within_both least most n m e = (grind (arith, nat_tests), grind (arith, nat_tests))

-- a number that was found lies between the two
pub found_between : (least most m : ℕ) (text : List ℕ) → Some m ≡ number_between least most text → (least ≤ m) × (m ≤ most)
found_between least most m text e = at (is_number text) e
  where
    at : (b : Bool) → Some m ≡ cond b (within least most (digits_value 10 text)) None → (least ≤ m) × (m ≤ most)
    at true e = within_both least most (digits_value 10 text) m e
    at false e = absurd (let h = e in cc)
