-- A vault stays sound when a spill is kept, and when it isn't.
use Rattle.std.proofs.Common.{◌≡◌, ◌≢◌, ℕ, ◌-◌, ◌<◌, ◌≤◌, ◌^◌, ◌&&◌, inl, inr, Bool, true, false, cond, eqb, List, [], ◌∷◌, ◌++◌, length, Option, Some, None, refl, sym, ap, subst, ◌∙◌, arith}
use Rattle.std.specs.Prelude.{IfSome, IfErr, OnOk, Result, Ok, Err, unwrap_or}
use Rattle.std.specs.Option.{option_map}
use Rattle.std.specs.FinMap as map
use Rattle.std.specs.Ordering.{nat_cmp, is_eq}
use Rattle.std.specs.declared.cmp.Ordering.{Ordering}
use Rattle.std.specs.declared.cmp.Ordering.TheVariants.{Less, Equal, Greater}
use Rattle.std.specs.Cmp.{tied_itself}
use Rattle.std.specs.Cmp.Lexicographic.{slice_cmp}
use Rattle.std.proofs.lemmas.Cmp.{nat_list_cmp_total}
use Rattle.std.proofs.lemmas.Map.Lookups.{exact_bytes}
use Rattle.std.proofs.lemmas.Bool.{eqb-true}
use Rattle.std.proofs.lemmas.List.{length_push, get_or_push}
use Rattle.std.proofs.lemmas.Option.{slice_get-get_or}
use Rattle.hop_base.specs.Files.{Files}
use Rattle.hop_ports.specs.Views.{FolderView, with_file}
use Rattle.hop_spill.specs.declared.spill.Spill.{Spill}
use Rattle.hop_spill.specs.Spelling.{IsSpill, spill_text}
use Rattle.hop_base.proofs.Truth.{both_true}
use Rattle.hop_vault.specs.declared.kept.Kept.{Kept}
use Rattle.hop_vault.specs.declared.kept.KeepFault.{KeepFault}
use Rattle.hop_vault.specs.declared.kept.KeepFault.TheVariants as fault
use Rattle.hop_vault.specs.Rows.{Table, row_of, end_of, kept_end, IsChain, SameRows, AddsTo}
use Rattle.hop_spill.specs.SpillFiles.{name_of}
use Rattle.hop_vault.specs.Stored.{IsStored, AreStored}
use Rattle.hop_vault.specs.Vaults.{IsSound, IsKept, IsKeptIn, KeepCause}
use Rattle.hop_vault.proofs.NameLaws.{name_tells}

-- ---- chains of ranges

end_push : (row : List Kept) (kept : Kept) → end_of (row ++ kept ∷ []) ≡ kept.to
end_push row kept =
    let len = length_push row kept in
    let last : length row ≡ length (row ++ kept ∷ []) - 1 = omega (arith, len) in
    ap (λ (o : Option Kept). unwrap_or (option_map (λ (k : Kept). k.to) o) 0)
    (slice_get-get_or (row ++ kept ∷ []) (length (row ++ kept ∷ []) - 1) kept (omega (arith, len)) ∙ ap Some (get_or_push row kept kept (length (row ++ kept ∷ []) - 1) last))

chain_push : (from : ℕ) (row : List Kept) (to : ℕ) (kept : Kept) → IsChain from row to → kept.from ≡ to → kept.from < kept.to → IsChain from (row ++ kept ∷ []) kept.to
chain_push from [] to kept h e lt = (e ∙ sym h, omega (arith, h, e, lt), refl)
chain_push from (k ∷ row) to kept h e lt = (h.0, h.1, chain_push k.to row to kept h.2 e lt)

pub chain_up : (from : ℕ) (row : List Kept) (to : ℕ) → IsChain from row to → from ≤ to
chain_up from [] to h = omega (arith, h)
chain_up from (k ∷ row) to h = omega (arith, h.0, h.1, chain_up k.to row to h.2)

-- ---- a file that is put under another name

not_tied : (name other : List ℕ) → name ≢ other → (o : Ordering) → slice_cmp nat_cmp name other ≡ o → is_eq o ≡ false
not_tied name other differ Less e = refl
not_tied name other differ Equal e = absurd (differ (exact_bytes name other e))
not_tied name other differ Greater e = refl

get_other : (files : Files) (name other text : List ℕ) → name ≢ other → map.get (map.insert files other text) name ≡ map.get files name
get_other files name other text differ =
    map.get-insert nat_list_cmp_total files other text name ∙ ap (λ (b : Bool). cond b (Some text) (map.get files name)) (not_tied name other differ (slice_cmp nat_cmp name other) refl)

get_itself : (files : Files) (name text : List ℕ) → map.get (map.insert files name text) name ≡ Some text
get_itself files name text =
    map.get-insert nat_list_cmp_total files name text name ∙ ap (λ (b : Bool). cond b (Some text) (map.get files name)) (ap is_eq (tied_itself nat_list_cmp_total name))

stored_other : (files : Files) (i a : ℕ) (kept : Kept) (name text : List ℕ) → name_of i a kept.from ≢ name → IsStored files i a kept → IsStored (map.insert files name text) i a kept
stored_other files i a kept name text differ h = record {
  spill = h.spill;
  text = h.text;
  sheets_are = h.sheets_are;
  len_is = h.len_is;
  held = get_other files (name_of i a kept.from) name text differ ∙ h.held;
}

-- the name of a spill that begins where the kept ones end is none of theirs
module _ (files : Files) (split attempt from : ℕ) (text : List ℕ) (split_fits : split < 2 ^ 32) (attempt_fits : attempt < 2 ^ 32) (from_fits : from < 2 ^ 32) where
  differs : (i a : ℕ) (kept : Kept) → IsStored files i a kept → ((i ≡ split) → (a ≡ attempt) → kept.from < from) → name_of i a kept.from ≢ name_of split attempt from
  differs i a kept h below e =
      let s = h.text.is_spill in
      let i_fits : i < 2 ^ 32 = omega (arith, s.split, h.text.split_is) in
      let a_fits : a < 2 ^ 32 = omega (arith, s.attempt, h.text.attempt_is) in
      let f_fits : kept.from < 2 ^ 32 = omega (arith, s.from, h.text.from_is) in
      let same = name_tells i a kept.from split attempt from i_fits a_fits f_fits split_fits attempt_fits from_fits e in
      let lt : kept.from < from = below same.0 same.1 in
      omega (arith, lt, same.2)

  stored_put : (i a : ℕ) (begins : ℕ) (row : List Kept) (ends : ℕ) → IsChain begins row ends → ((i ≡ split) → (a ≡ attempt) → ends ≤ from) → AreStored files i a row → AreStored (map.insert files (name_of split attempt from) text) i a row
  stored_put i a begins [] ends chain below h = tt
  stored_put i a begins (kept ∷ row) ends chain below h =
      let after : kept.to ≤ ends = chain_up kept.to row ends chain.2 in
      let before : (i ≡ split) → (a ≡ attempt) → kept.from < from = λ p q. let b : ends ≤ from = below p q in omega (arith, b, after, chain.0, chain.1) in
      (stored_other files i a kept (name_of split attempt from) text (differs i a kept h.0 before) h.0, stored_put i a kept.to row ends chain.2 below h.1)

stored_push : (files : Files) (i a : ℕ) (row : List Kept) (kept : Kept) → AreStored files i a row → IsStored files i a kept → AreStored files i a (row ++ kept ∷ [])
stored_push files i a [] kept h k = (k, tt)
stored_push files i a (l ∷ row) kept h k = (h.0, stored_push files i a row kept h.1 k)

-- ---- the vault

-- the same spills are kept, and their texts are still held
pub sound_same : (old new : FolderView) (before after : Table) → IsSound old before → SameRows before after → new.held ≡ old.held → IsSound new after
sound_same old new before after h same e = record {
  chain = λ i a. subst (λ (row : List Kept). IsChain 0 row (end_of row)) (sym (same i a)) (h.chain i a);
  stored = subst (λ (held : Option Files). IfSome held (λ files. (i a : ℕ) → AreStored files i a (row_of after i a))) (sym e) (rows_same old.held before after same h.stored);
}
  where
    rows_same : (held : Option Files) (before after : Table) → SameRows before after → IfSome held (λ files. (i a : ℕ) → AreStored files i a (row_of before i a)) → IfSome held (λ files. (i a : ℕ) → AreStored files i a (row_of after i a))
    rows_same None before after same h = h
    rows_same (Some files) before after same h = λ i a. subst (λ (row : List Kept). AreStored files i a row) (sym (same i a)) (h i a)

-- a text is put under the name of the spill that comes next, and the same spills are kept
pub sound_put : (old new : FolderView) (before after : Table) (spill : Spill) → IsSpill spill → spill.from ≡ kept_end before spill.split spill.attempt → IsSound old before → SameRows before after
    → new.held ≡ with_file old.held (name_of spill.split spill.attempt spill.from) (spill_text spill) → IsSound new after
sound_put old new before after spill is next h same e = record {
  chain = λ i a. subst (λ (row : List Kept). IsChain 0 row (end_of row)) (sym (same i a)) (h.chain i a);
  stored = subst (λ (held : Option Files). IfSome held (λ files. (i a : ℕ) → AreStored files i a (row_of after i a))) (sym e) (put old.held h.stored);
}
  where
    put : (held : Option Files) → IfSome held (λ files. (i a : ℕ) → AreStored files i a (row_of before i a)) → IfSome (with_file held (name_of spill.split spill.attempt spill.from) (spill_text spill)) (λ files. (i a : ℕ) → AreStored files i a (row_of after i a))
    put None k = k
    put (Some files) k = λ i a.
        let below : (i ≡ spill.split) → (a ≡ spill.attempt) → end_of (row_of before i a) ≤ spill.from = λ p q. let c : kept_end before i a ≡ kept_end before spill.split spill.attempt = rw (p, q) refl in omega (arith, c, next) in
        subst (λ (row : List Kept). AreStored (map.insert files (name_of spill.split spill.attempt spill.from) (spill_text spill)) i a row) (sym (same i a))
        (stored_put files spill.split spill.attempt spill.from (spill_text spill) (omega (arith, is.split)) (omega (arith, is.attempt)) (omega (arith, is.from)) i a 0 (row_of before i a) (end_of (row_of before i a)) (h.chain i a) below (k i a))

-- a spill is kept: its attempt has one more, and its text is put under its name
pub sound_kept : (old new : FolderView) (before after : Table) (spill : Spill) (kept : Kept) → IsSpill spill → spill.from ≡ kept_end before spill.split spill.attempt → IsSound old before → IsKept spill kept
    → AddsTo before after spill.split spill.attempt kept → new.held ≡ with_file old.held (name_of spill.split spill.attempt spill.from) (spill_text spill) → IsSound new after
sound_kept old new before after spill kept is next h k adds e = record {
  chain = λ i a. subst (λ (row : List Kept). IsChain 0 row (end_of row)) (sym (adds i a)) (chain i a (eqb i spill.split && eqb a spill.attempt) refl);
  stored = subst (λ (held : Option Files). IfSome held (λ files. (i a : ℕ) → AreStored files i a (row_of after i a))) (sym e) (put old.held h.stored);
}
  where
    row_before : (i a : ℕ) → (eqb i spill.split && eqb a spill.attempt) ≡ true → row_of before i a ≡ row_of before spill.split spill.attempt
    row_before i a t =
        let both = both_true (eqb i spill.split) (eqb a spill.attempt) t in
        let same_split : i ≡ spill.split = eqb-true i spill.split both.0 in
        let same_attempt : a ≡ spill.attempt = eqb-true a spill.attempt both.1 in
        ap (λ (j : ℕ). row_of before j a) same_split ∙ ap (λ (b : ℕ). row_of before spill.split b) same_attempt

    chain : (i a : ℕ) (b : Bool) → (eqb i spill.split && eqb a spill.attempt) ≡ b → IsChain 0 (cond b (row_of before i a ++ kept ∷ []) (row_of before i a)) (end_of (cond b (row_of before i a ++ kept ∷ []) (row_of before i a)))
    chain i a true t =
        let begins : kept.from ≡ kept_end before i a = k.from_is ∙ next ∙ ap end_of (sym (row_before i a t)) in
        subst (λ (to : ℕ). IsChain 0 (row_of before i a ++ kept ∷ []) to) (sym (end_push (row_of before i a) kept))
        (chain_push 0 (row_of before i a) (end_of (row_of before i a)) kept (h.chain i a) begins (omega (arith, is.some, k.from_is, k.to_is)))
    chain i a false t = h.chain i a

    text : List ℕ
    text = spill_text spill

    stored_now : (files : Files) (i a : ℕ) → (eqb i spill.split && eqb a spill.attempt) ≡ true → IsStored (map.insert files (name_of spill.split spill.attempt spill.from) (spill_text spill)) i a kept
    stored_now files i a t =
        let both = both_true (eqb i spill.split) (eqb a spill.attempt) t in
        let same_split : i ≡ spill.split = eqb-true i spill.split both.0 in
        let same_attempt : a ≡ spill.attempt = eqb-true a spill.attempt both.1 in
        let name : name_of i a kept.from ≡ name_of spill.split spill.attempt spill.from = rw (same_split, same_attempt, k.from_is) refl in
        record {
          spill = spill;
          text = record { is_spill = is; split_is = sym same_split; attempt_is = sym same_attempt; from_is = sym k.from_is; to_is = sym k.to_is; digest_is = sym k.digest_is };
          sheets_are = sym k.sheets_are;
          len_is = sym k.len_is;
          held = ap (λ (n : List ℕ). map.get (map.insert files (name_of spill.split spill.attempt spill.from) (spill_text spill)) n) name ∙ get_itself files (name_of spill.split spill.attempt spill.from) (spill_text spill);
        }

    rows : (files : Files) (i a : ℕ) (b : Bool) → (eqb i spill.split && eqb a spill.attempt) ≡ b → AreStored (map.insert files (name_of spill.split spill.attempt spill.from) (spill_text spill)) i a (row_of before i a) → AreStored (map.insert files (name_of spill.split spill.attempt spill.from) (spill_text spill)) i a (cond b (row_of before i a ++ kept ∷ []) (row_of before i a))
    rows files i a true t r = stored_push (map.insert files (name_of spill.split spill.attempt spill.from) (spill_text spill)) i a (row_of before i a) kept r (stored_now files i a t)
    rows files i a false t r = r

    put : (held : Option Files) → IfSome held (λ files. (i a : ℕ) → AreStored files i a (row_of before i a)) → IfSome (with_file held (name_of spill.split spill.attempt spill.from) (spill_text spill)) (λ files. (i a : ℕ) → AreStored files i a (row_of after i a))
    put None r = r
    put (Some files) r = λ i a.
        let below : (i ≡ spill.split) → (a ≡ spill.attempt) → end_of (row_of before i a) ≤ spill.from = λ p q. let c : kept_end before i a ≡ kept_end before spill.split spill.attempt = rw (p, q) refl in omega (arith, c, next) in
        let others = stored_put files spill.split spill.attempt spill.from (spill_text spill) (omega (arith, is.split)) (omega (arith, is.attempt)) (omega (arith, is.from)) i a 0 (row_of before i a) (end_of (row_of before i a)) (h.chain i a) below (r i a) in
        subst (λ (row : List Kept). AreStored (map.insert files (name_of spill.split spill.attempt spill.from) (spill_text spill)) i a row) (sym (adds i a)) (rows files i a (eqb i spill.split && eqb a spill.attempt) refl others)

-- a vault after a spill was to be kept
pub sound_after : (old new : FolderView) (before after : Table) (spill : Spill) (result : Result (Unit {0}) KeepFault) → IsSpill spill → spill.from ≡ kept_end before spill.split spill.attempt → IsSound old before
    → OnOk result (IsKeptIn old new before after spill) → IfErr result (KeepCause old new before after spill) → IsSound new after
sound_after old new before after spill (Ok u) is next h kept cause = sound_kept old new before after spill kept.kept is next h kept.kept_is kept.rows kept.held
sound_after old new before after spill (Err fault.NoMemory) is next h kept cause = sound_same old new before after h cause.0 cause.1
sound_after old new before after spill (Err fault.StoreFailed) is next h kept cause =
    elim cause.2 [
      | inl e ↦ sound_same old new before after h cause.1 e
      | inr e ↦ sound_put old new before after spill is next h cause.1 e
    ]
