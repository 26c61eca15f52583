-- Each line of a header determines what it says, and what follows it.
use Rattle.std.proofs.Common.{◌≡◌, ℕ, ◌<◌, ◌^◌, Bool, true, false, Option, Some, None, List, ◌∷◌, ◌++◌, refl, ◌∙◌, arith, append_assoc, decimal}
use Rattle.std.specs.Prelude.{codes}
use Rattle.std.specs.Char.{is_ascii_digit}
use Rattle.hop_cut.specs.declared.head.SplitLine.{SplitLine}
use Rattle.hop_base.specs.Fronts.{StopsAt}
use Rattle.hop_cut.specs.Numbers.{IsNumbered}
use Rattle.hop_cut.specs.Snapshot.{kind_words, split_words}
use Rattle.hop_cut.specs.Lines.{IsNumberLine, IsReducerLine, IsWordsOf, IsSplitText}
use Rattle.hop_cut.proofs.NumberLaws.{numbered_unique}

-- a line with a number begins with it
pub line_numbered : (piece : List ℕ) (low high : ℕ) (text : List ℕ) (n : ℕ) (rest : List ℕ) → high < 2 ^ 32 → IsNumberLine piece low high text n rest → IsNumbered piece text n (10 ∷ rest)
line_numbered piece low high text n rest small h = record { small = omega (arith, h.high_is); ends = refl; text_is = h.text_is }

pub line_unique : (piece : List ℕ) (low high : ℕ) (text : List ℕ) (n : ℕ) (r : List ℕ) (m : ℕ) (s : List ℕ) → high < 2 ^ 32 → IsNumberLine piece low high text n r → IsNumberLine piece low high text m s → (n ≡ m) × (r ≡ s)
line_unique piece low high text n r m s small h k =
    let both = numbered_unique piece text n (10 ∷ r) m (10 ∷ s) (line_numbered piece low high text n r small h) (line_numbered piece low high text m s small k) in
    (both.0, let tails = both.1 in cc)

-- the line of the reducer, as it is read
pub reducer_numbered : (text : List ℕ) (p r : ℕ) (rest : List ℕ) → IsReducerLine text p r rest → IsNumbered (codes "reducer ") text p (codes " of " ++ (decimal r ++ (10 ∷ rest)))
reducer_numbered text p r rest h = record { small = omega (arith, h.below, h.few); ends = refl; text_is = h.text_is }

pub reducer_second : (text : List ℕ) (p r : ℕ) (rest : List ℕ) (q : ℕ) (after : List ℕ) → IsReducerLine text p r rest → IsNumbered (codes "reducer ") text q after → (q ≡ p) × IsNumberLine (codes " of ") 1 8 after r rest
reducer_second text p r rest q after h k =
    let both = numbered_unique (codes "reducer ") text q after p (codes " of " ++ (decimal r ++ (10 ∷ rest))) k (reducer_numbered text p r rest h) in
    (both.0, record { low_is = omega (arith, h.below); high_is = h.few; text_is = both.1 })

kind_stops : (committed : Bool) (rest : List ℕ) → StopsAt is_ascii_digit (kind_words committed ++ rest)
kind_stops true rest = refl
kind_stops false rest = refl

module _ (text : List ℕ) (s : SplitLine) (rest : List ℕ) (h : IsWordsOf text s rest) where
  pub words_first : IsNumbered (codes " attempt ") text s.declared.attempt (codes " records " ++ (decimal s.declared.records ++ (codes " of " ++ (decimal s.len ++ (kind_words s.declared.committed ++ (10 ∷ rest))))))
  words_first = record { small = omega (arith, h.ranges.attempt); ends = refl; text_is = h.text_is }

  pub words_second : (a : ℕ) (after : List ℕ) → IsNumbered (codes " attempt ") text a after → (a ≡ s.declared.attempt) × IsNumbered (codes " records ") after s.declared.records (codes " of " ++ (decimal s.len ++ (kind_words s.declared.committed ++ (10 ∷ rest))))
  words_second a after k =
      let both = numbered_unique (codes " attempt ") text a after s.declared.attempt _ k words_first in
      (both.0, record { small = omega (arith, h.ranges.within, h.ranges.len); ends = refl; text_is = both.1 })

  pub words_third : (a : ℕ) (after : List ℕ) (c : ℕ) (later : List ℕ) → IsNumbered (codes " attempt ") text a after → IsNumbered (codes " records ") after c later → (c ≡ s.declared.records) × IsNumbered (codes " of ") later s.len (kind_words s.declared.committed ++ (10 ∷ rest))
  words_third a after c later k l =
      let both = numbered_unique (codes " records ") after c later s.declared.records _ l (words_second a after k).1 in
      (both.0, record { small = omega (arith, h.ranges.len); ends = kind_stops s.declared.committed (10 ∷ rest); text_is = both.1 })

  pub words_last : (a : ℕ) (after : List ℕ) (c : ℕ) (later : List ℕ) (n : ℕ) (last : List ℕ) → IsNumbered (codes " attempt ") text a after → IsNumbered (codes " records ") after c later → IsNumbered (codes " of ") later n last → (n ≡ s.len) × (last ≡ kind_words s.declared.committed ++ (10 ∷ rest))
  words_last a after c later n last k l m = numbered_unique (codes " of ") later n last s.len _ m (words_third a after c later k l).1

words_stop : (s : Option SplitLine) (rest : List ℕ) → StopsAt is_ascii_digit (split_words s ++ rest)
words_stop None rest = refl
words_stop (Some s) rest = refl

pub split_numbered : (i : ℕ) (text : List ℕ) (s : Option SplitLine) (rest : List ℕ) → i < 2 ^ 32 → IsSplitText i text s rest → IsNumbered (codes "split ") text i (split_words s ++ (10 ∷ rest))
split_numbered i text s rest small h = record { small = small; ends = words_stop s (10 ∷ rest); text_is = h.text_is }

-- the words behind a split's number are one of the two forms
pub split_forms : (i : ℕ) (text : List ℕ) (s : Option SplitLine) (rest words : List ℕ) → i < 2 ^ 32 → IsSplitText i text s rest → IsNumbered (codes "split ") text i words → ((after : List ℕ) → words ≡ codes " none\n" ++ after → ⊥) → ((line : SplitLine) (after : List ℕ) → IsWordsOf words line after → ⊥) → ⊥
split_forms i text None rest words small h k none some = none rest (numbered_unique (codes "split ") text i words i _ k (split_numbered i text None rest small h)).1
split_forms i text (Some s) rest words small h k none some =
    some s rest (record { ranges = h.ranges; text_is = (numbered_unique (codes "split ") text i words i _ k (split_numbered i text (Some s) rest small h)).1 ∙ simp append_assoc })
