-- A header, as it is read.
use Rattle.std.proofs.Common.{◌≡◌, ℕ, ◌+◌, ◌<◌, ◌≤◌, Option, List, [], ◌∷◌, ◌++◌, length, map, refl, sym, ap, ◌∙◌, subst, arith, append_assoc, length-append, decimal}
use Rattle.std.specs.Prelude.{codes, All}
use Rattle.std.proofs.lemmas.List.Elements.{All-from_recursion, All-append}
use Rattle.std.proofs.lemmas.List.{map-append}
use Rattle.hop_event.specs.declared.declared.Declared.{Declared}
use Rattle.hop_cut.specs.declared.head.SplitLine.{SplitLine}
use Rattle.hop_cut.specs.Snapshot.{IsSplit, declared_part, split_words, split_line, split_lines, last_line, text_of}
use Rattle.hop_cut.specs.Lines.{IsSplitText}
use Rattle.hop_cut.specs.Parts.{IsSplitsPart, SplitsStop}

-- so many lines of splits were read
pub record IsReadUpto (text : List ℕ) (i : ℕ) (declared : List (Option Declared)) (rest : List ℕ) : Type 0 where
  pub splits : List (Option SplitLine)
  pub each : All IsSplit splits
  pub many : length splits ≡ i
  pub few : i ≤ 1024
  pub declared_are : declared ≡ map declared_part splits
  pub text_is : text ≡ text_of (split_lines 0 splits) ++ rest

pub text_of-append : (xs ys : List (List ℕ)) → text_of (xs ++ ys) ≡ text_of xs ++ text_of ys
text_of-append [] ys = refl
text_of-append (x ∷ xs) ys = ap (λ t. x ++ (10 ∷ t)) (text_of-append xs ys) ∙ sym (append_assoc x (10 ∷ text_of xs) (text_of ys))

pub split_lines-more : (j : ℕ) (xs : List (Option SplitLine)) (s : Option SplitLine) → split_lines j (xs ++ s ∷ []) ≡ split_lines j xs ++ split_line (j + length xs) s ∷ []
split_lines-more j [] s = let e : j ≡ j + 0 = omega arith in ap (λ i. split_line i s ∷ []) e
split_lines-more j (x ∷ xs) s =
    let e : j + 1 + length xs ≡ j + length (x ∷ xs) = omega arith in
    ap (λ ls. split_line j x ∷ ls) (split_lines-more (j + 1) xs s ∙ ap (λ i. split_lines (j + 1) xs ++ split_line i s ∷ []) e)

pub read_none : (text : List ℕ) → IsReadUpto text 0 [] text
read_none text = record { splits = []; each = All-from_recursion IsSplit [] tt; many = refl; few = omega arith; declared_are = refl; text_is = refl }

pub read_more : (text : List ℕ) (i : ℕ) (declared : List (Option Declared)) (rest : List ℕ) (s : Option SplitLine) (later : List ℕ) → IsReadUpto text i declared rest → i < 1024 → IsSplitText i rest s later → IsReadUpto text (i + 1) (declared ++ declared_part s ∷ []) later
read_more text i declared rest s later h few k = record {
  splits = h.splits ++ s ∷ [];
  each = All-append IsSplit h.splits (s ∷ []) h.each (All-from_recursion IsSplit (s ∷ []) (k.ranges, tt));
  many = omega (arith, length-append h.splits (s ∷ []), h.many);
  few = omega arith;
  declared_are = ap (λ ds. ds ++ declared_part s ∷ []) h.declared_are ∙ sym (map-append declared_part h.splits (s ∷ []));
  text_is =
      let place : split_line (0 + length h.splits) s ≡ split_line i s = ap (λ n. split_line n s) (let e : 0 + length h.splits ≡ i = omega (arith, h.many) in e) in
      let lines = split_lines-more 0 h.splits s ∙ ap (λ l. split_lines 0 h.splits ++ l ∷ []) place in
      h.text_is ∙ ap (λ t. text_of (split_lines 0 h.splits) ++ t) (k.text_is ∙ one) ∙ sym (append_assoc (text_of (split_lines 0 h.splits)) (text_of (split_line i s ∷ [])) later)
      ∙ ap (λ t. t ++ later) (sym (text_of-append (split_lines 0 h.splits) (split_line i s ∷ [])) ∙ ap text_of (sym lines));
}
  where
    one : codes "split " ++ (decimal i ++ (split_words s ++ (10 ∷ later))) ≡ text_of (split_line i s ∷ []) ++ later
    one = simp append_assoc

pub read_end : (text : List ℕ) (i : ℕ) (declared : List (Option Declared)) (rest after : List ℕ) → IsReadUpto text i declared rest → rest ≡ codes "--\n" ++ after → IsSplitsPart text declared after
read_end text i declared rest after h e = record {
  splits = h.splits;
  each = h.each;
  few = omega (arith, h.many, h.few);
  declared_are = h.declared_are;
  text_is = h.text_is ∙ ap (λ t. text_of (split_lines 0 h.splits) ++ t) e ∙ sym (append_assoc (text_of (split_lines 0 h.splits)) (codes "--\n") after) ∙ ap (λ t. t ++ after) (sym (text_of-append (split_lines 0 h.splits) (last_line ∷ [])));
}

pub read_stop : (text : List ℕ) (i : ℕ) (declared : List (Option Declared)) (rest : List ℕ) → IsReadUpto text i declared rest → ((after : List ℕ) → rest ≡ codes "--\n" ++ after → ⊥) → (i < 1024 → (s : Option SplitLine) (after : List ℕ) → IsSplitText i rest s after → ⊥) → SplitsStop text (i + 6)
read_stop text i declared rest h no_end no_split = record {
  splits = h.splits;
  rest = rest;
  each = h.each;
  few = omega (arith, h.many, h.few);
  number_is = omega (arith, h.many);
  text_is = h.text_is;
  no_end = no_end;
  no_split = subst (λ n. n < 1024 → (s : Option SplitLine) (after : List ℕ) → IsSplitText n rest s after → ⊥) (sym h.many) no_split;
}
