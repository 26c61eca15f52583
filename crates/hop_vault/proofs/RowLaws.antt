-- The table of kept spills, where one of its lists changes.
use Rattle.std.proofs.Common.{◌≡◌, ℕ, zero, suc, ◌<◌, ◌&&◌, Bool, true, false, cond, eqb, List, [], ◌∷◌, ◌++◌, length, get_or, map, Vec, refl, sym, ap, subst, ◌∙◌, arith}
use Rattle.std.specs.Prelude.{slice_set, Result, Ok, Err, OnErr}
use Rattle.std.proofs.lemmas.Bool.{true≢false, eqb-true, eq-eqb}
use Rattle.std.proofs.lemmas.List.{get_or-set_same, get_or-set_other, get_or-map, map-set, length-map}
use Rattle.hop_vault.specs.declared.kept.Kept.{Kept}
use Rattle.hop_vault.specs.Rows.{Table, lists_of, list_at, row_of, SameRows, SameLists, Changes}

module _ {X A : Type 0} where
  -- a list that is there has its items
  pub list_there : (lists : List (Vec X A)) (at : ℕ) (old : Vec X A) → at < length lists → old ≡ get_or lists at old → list_at (lists_of lists) at ≡ old.items
  list_there lists at old lt there = get_or-map (λ (list : Vec X A). list.items) lists at old [] lt ∙ ap (λ (list : Vec X A). list.items) (sym there)

  pub changed : (lists : List (Vec X A)) (at : ℕ) (old new : Vec X A) (change : List X → List X) → at < length lists → old ≡ get_or lists at old → new.items ≡ change old.items → Changes (lists_of lists) (lists_of (slice_set lists at new)) at change
  changed lists at old new change lt there e i = step (eqb i at) refl
    where
      set_is : lists_of (slice_set lists at new) ≡ slice_set (lists_of lists) at new.items
      set_is = map-set (λ (list : Vec X A). list.items) lists at new

      len : at < length (lists_of lists)
      len = rw (length-map {A = Vec X A}) lt

      same : list_at (lists_of (slice_set lists at new)) at ≡ change (list_at (lists_of lists) at)
      same = ap (λ (ls : List (List X)). list_at ls at) set_is ∙ get_or-set_same (lists_of lists) at new.items [] len ∙ e ∙ ap change (sym (list_there lists at old lt there))

      step : (b : Bool) → eqb i at ≡ b → list_at (lists_of (slice_set lists at new)) i ≡ cond b (change (list_at (lists_of lists) i)) (list_at (lists_of lists) i)
      step true h = subst (λ (k : ℕ). list_at (lists_of (slice_set lists at new)) k ≡ change (list_at (lists_of lists) k)) (sym (eqb-true i at h)) same
      step false h =
          ap (λ (ls : List (List X)). list_at ls i) set_is
          ∙ get_or-set_other (lists_of lists) at i new.items [] (λ (k : i ≡ at). true≢false (sym (eq-eqb i at k) ∙ h))

-- what holds anyway holds where a call failed
pub on_err_known : {T E : Type 0} (r : Result T E) (P : Type 0) → P → OnErr r P
on_err_known (Ok x) P h = tt
on_err_known (Err e) P h = h

pub either_way : {X : Type 0} (b : Bool) (x : X) → cond b x x ≡ x
either_way true x = refl
either_way false x = refl

-- one more list, an empty one, changes none
pub same_push : {X : Type 0} (lists : List (List X)) (i : ℕ) → list_at (lists ++ [] ∷ []) i ≡ list_at lists i
same_push [] zero = refl
same_push [] (suc i) = refl
same_push (list ∷ lists) zero = refl
same_push (list ∷ lists) (suc i) = same_push lists i

-- a list with items stands within
pub list_within : {X : Type 0} (lists : List (List X)) (i : ℕ) → 0 < length (list_at lists i) → i < length lists
list_within [] i some = absurd (omega arith)
list_within (list ∷ lists) zero some = omega arith
list_within (list ∷ lists) (suc i) some = omega (arith, list_within lists i some)

module _ {A : Type 0} where
  -- the table of the attempts of each split
  abbrev pub table_of : List (List (Vec Kept A)) → Table
  table_of attempts = map lists_of attempts

  pub row_in_table : (attempts : List (List (Vec Kept A))) (i a : ℕ) → row_of (table_of attempts) i a ≡ list_at (lists_of (list_at attempts i)) a
  row_in_table [] i a = refl
  row_in_table (rows ∷ attempts) zero a = refl
  row_in_table (rows ∷ attempts) (suc i) a = row_in_table attempts i a

  pub same_rows : (old new : List (List (Vec Kept A))) → SameLists old new → SameRows (table_of old) (table_of new)
  same_rows old new same i a = row_in_table new i a ∙ ap (λ (attempts : List (Vec Kept A)). list_at (lists_of attempts) a) (same i) ∙ sym (row_in_table old i a)

module _ {A B : Type 0} where
  -- where the attempts of one split change by one row, so does the table
  pub rows_changed : (splits : List (Vec (Vec Kept A) B)) (split : ℕ) (old new : Vec (Vec Kept A) B) (attempt : ℕ) (change : List Kept → List Kept) → split < length splits → old ≡ get_or splits split old
      → Changes (lists_of old.items) (lists_of new.items) attempt change
      → (i a : ℕ) → row_of (table_of (lists_of (slice_set splits split new))) i a ≡ cond (eqb i split && eqb a attempt) (change (row_of (table_of (lists_of splits)) i a)) (row_of (table_of (lists_of splits)) i a)
  rows_changed splits split old new attempt change lt there changes i a = step (eqb i split) refl
    where
      outer : list_at (lists_of (slice_set splits split new)) i ≡ cond (eqb i split) new.items (list_at (lists_of splits) i)
      outer = changed splits split old new (λ rows. new.items) lt there refl i

      there_is : list_at (lists_of splits) split ≡ old.items
      there_is = list_there splits split old lt there

      step : (b : Bool) → eqb i split ≡ b → row_of (table_of (lists_of (slice_set splits split new))) i a ≡ cond (b && eqb a attempt) (change (row_of (table_of (lists_of splits)) i a)) (row_of (table_of (lists_of splits)) i a)
      step true h =
          let now : row_of (table_of (lists_of (slice_set splits split new))) i a ≡ list_at (lists_of new.items) a = row_in_table (lists_of (slice_set splits split new)) i a ∙ ap (λ (rows : List (Vec Kept A)). list_at (lists_of rows) a) (outer ∙ ap (λ (b : Bool). cond b new.items (list_at (lists_of splits) i)) h) in
          let before : row_of (table_of (lists_of splits)) i a ≡ list_at (lists_of old.items) a = row_in_table (lists_of splits) i a ∙ ap (λ (rows : List (Vec Kept A)). list_at (lists_of rows) a) (ap (λ (k : ℕ). list_at (lists_of splits) k) (eqb-true i split h) ∙ there_is) in
          now ∙ changes a ∙ ap (λ (row : List Kept). cond (eqb a attempt) (change row) row) (sym before)
      step false h =
          row_in_table (lists_of (slice_set splits split new)) i a
          ∙ ap (λ (rows : List (Vec Kept A)). list_at (lists_of rows) a) (outer ∙ ap (λ (b : Bool). cond b new.items (list_at (lists_of splits) i)) h)
          ∙ sym (row_in_table (lists_of splits) i a)

  -- a split that has spills is there, and so is the attempt
  pub split_within : (splits : List (Vec (Vec Kept A) B)) (split attempt : ℕ) → 0 < length (row_of (table_of (lists_of splits)) split attempt) → split < length splits
  split_within [] split attempt some = absurd (omega arith)
  split_within (attempts ∷ splits) zero attempt some = omega arith
  split_within (attempts ∷ splits) (suc split) attempt some = omega (arith, split_within splits split attempt some)

  pub attempt_within : (splits : List (Vec (Vec Kept A) B)) (split attempt : ℕ) (old : Vec (Vec Kept A) B) → old ≡ get_or splits split old → 0 < length (row_of (table_of (lists_of splits)) split attempt) → attempt < length old.items
  attempt_within splits split attempt old there some =
      let row : row_of (table_of (lists_of splits)) split attempt ≡ list_at (lists_of old.items) attempt = row_in_table (lists_of splits) split attempt ∙ ap (λ (rows : List (Vec Kept A)). list_at (lists_of rows) attempt) (list_there splits split old (split_within splits split attempt some) there) in
      let within : attempt < length (lists_of old.items) = list_within (lists_of old.items) attempt (subst (λ (r : List Kept). 0 < length r) row some) in
      rw (length-map {A = Vec Kept A}) at within

  -- the table after the attempts of a split, which were padded, changed by one row
  pub padded_changed : (before splits : List (Vec (Vec Kept A) B)) (split : ℕ) (old new : Vec (Vec Kept A) B) (attempt : ℕ) (change : List Kept → List Kept) → SameLists (lists_of before) (lists_of splits) → split < length splits → old ≡ get_or splits split old
      → Changes (lists_of old.items) (lists_of new.items) attempt change
      → (i a : ℕ) → row_of (table_of (lists_of (slice_set splits split new))) i a ≡ cond (eqb i split && eqb a attempt) (change (row_of (table_of (lists_of before)) i a)) (row_of (table_of (lists_of before)) i a)
  padded_changed before splits split old new attempt change same lt there changes i a =
      rows_changed splits split old new attempt change lt there changes i a
      ∙ ap (λ (row : List Kept). cond (eqb i split && eqb a attempt) (change row) row) (same_rows (lists_of before) (lists_of splits) same i a)

  -- the table after the attempts of a split were padded
  pub padded_same : (before splits : List (Vec (Vec Kept A) B)) (split : ℕ) (old new : Vec (Vec Kept A) B) → SameLists (lists_of before) (lists_of splits) → split < length splits → old ≡ get_or splits split old
      → SameLists (lists_of old.items) (lists_of new.items) → SameRows (table_of (lists_of before)) (table_of (lists_of (slice_set splits split new)))
  padded_same before splits split old new same lt there unchanged i a =
      padded_changed before splits split old new 0 (λ row. row) same lt there (λ k. unchanged k ∙ sym (either_way (eqb k 0) (list_at (lists_of old.items) k))) i a
      ∙ either_way (eqb i split && eqb a 0) (row_of (table_of (lists_of before)) i a)
