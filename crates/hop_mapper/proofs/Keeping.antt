-- A vault keeps spills of the run alone when the next spill is kept, and when it isn't.
use Rattle.std.proofs.Common.{◌≡◌, ◌≢◌, ℕ, ◌+◌, ◌<◌, ◌≤◌, ◌&&◌, inl, inr, Bool, true, false, cond, eqb, List, [], ◌∷◌, ◌++◌, Option, Some, None, refl, sym, ap, subst, ◌∙◌, arith}
use Rattle.std.specs.Prelude.{IfSome, IfErr, OnOk, IsSome, Result, Ok, Err, All, min}
use Rattle.std.specs.FinMap as map
use Rattle.std.specs.Ordering.{nat_cmp, is_eq}
use Rattle.std.specs.declared.cmp.Ordering.{Ordering}
use Rattle.std.specs.declared.cmp.Ordering.TheVariants.{Less, Equal, Greater}
use Rattle.std.specs.Cmp.{tied_itself}
use Rattle.std.specs.Cmp.Lexicographic.{slice_cmp}
use Rattle.std.proofs.lemmas.Cmp.{nat_list_cmp_total}
use Rattle.std.proofs.lemmas.Map.Lookups.{exact_bytes}
use Rattle.std.proofs.lemmas.Bool.{eqb-true}
use Rattle.std.proofs.lemmas.List.FromFn.{length-map-range_with_len}
use Rattle.std.proofs.lemmas.List.Elements.{All-nil, All-cons, All-head, All-tail, All-append}
use Rattle.sha2.specs.Sha256.{sha256}
use Rattle.hop_base.specs.Files.{Files}
use Rattle.hop_base.specs.declared.part.Part.{Part}
use Rattle.hop_base.specs.Meaning.{Meaning}
use Rattle.hop_base.specs.Run.{RunSettings}
use Rattle.hop_base.proofs.Truth.{both_true}
use Rattle.hop_ports.specs.Views.{FolderView, with_file}
use Rattle.hop_spill.specs.declared.spill.Spill.{Spill}
use Rattle.hop_spill.specs.Spelling.{IsSpill, spill_text}
use Rattle.hop_spill.specs.SpillFiles.{name_of, sheet_made, spill_made}
use Rattle.hop_vault.specs.declared.kept.Kept.{Kept}
use Rattle.hop_vault.specs.declared.kept.KeepFault.{KeepFault}
use Rattle.hop_vault.specs.declared.kept.KeepFault.TheVariants as fault
use Rattle.hop_vault.specs.Rows.{Table, row_of, end_of, kept_end, range_of, IsChain, SameRows}
use Rattle.hop_vault.specs.Vaults.{IsKept, IsKeptIn, KeepCause}
use Rattle.hop_vault.proofs.NameLaws.{name_tells}
use Rattle.hop_vault.proofs.SoundLaws.{chain_up, sound_kept}
use Rattle.hop_press.specs.Fits.{IsMade, KeepsMade}
use Rattle.hop_mapper.specs.Next.{IsNext, split_len}

not_tied : (name other : List ℕ) → name ≢ other → (o : Ordering) → slice_cmp nat_cmp name other ≡ o → is_eq o ≡ false
not_tied name other differ Less e = refl
not_tied name other differ Equal e = absurd (differ (exact_bytes name other e))
not_tied name other differ Greater e = refl

pub get_other : (files : Files) (name other text : List ℕ) → name ≢ other → map.get (map.insert files other text) name ≡ map.get files name
get_other files name other text differ =
    map.get-insert nat_list_cmp_total files other text name ∙ ap (λ (b : Bool). cond b (Some text) (map.get files name)) (not_tied name other differ (slice_cmp nat_cmp name other) refl)

pub get_itself : (files : Files) (name text : List ℕ) → map.get (map.insert files name text) name ≡ Some text
get_itself files name text =
    map.get-insert nat_list_cmp_total files name text name ∙ ap (λ (b : Bool). cond b (Some text) (map.get files name)) (ap is_eq (tied_itself nat_list_cmp_total name))

module _ (job : Meaning) (records : List (List ℕ)) (settings : RunSettings) where
  abbrev Made : Option Files → ℕ → ℕ → Kept → Type 0
  Made held i a kept = IsMade job records settings held i a kept

  abbrev Whole : Option Files → Table → Type 0
  Whole held rows = KeepsMade job records settings held rows

  abbrev text_of : Part → List ℕ
  text_of part = spill_text (spill_made job records settings.split settings.reducers part)

  abbrev name_at : Part → List ℕ
  name_at part = name_of part.split part.attempt part.from

  -- the same spills are kept, and the folder holds the same
  pub made_same : (held now : Option Files) (before after : Table) → Whole held before → SameRows before after → now ≡ held → Whole now after
  made_same held now before after h same e = record {
    chain = λ i a. subst (λ (row : List Kept). IsChain 0 row (end_of row)) (sym (same i a)) (h.chain i a);
    made = λ i a. subst (λ (row : List Kept). All (Made now i a) row) (sym (same i a)) (subst (λ (x : Option Files). All (Made x i a) (row_of before i a)) (sym e) (h.made i a));
  }

  module _ (part : Part) (is : IsSpill (spill_made job records settings.split settings.reducers part)) where
    -- the name of an earlier spill is another one
    differs : (held : Option Files) (i a : ℕ) (kept : Kept) → Made held i a kept → ((i ≡ part.split) → (a ≡ part.attempt) → kept.from < part.from) → name_of i a kept.from ≢ name_at part
    differs held i a kept h below e =
        let i_is : i ≤ 1023 = h.is_spill.split in let a_is : a ≤ 15 = h.is_spill.attempt in let f_is : kept.from < 16777216 = h.is_spill.from in
        let j_is : part.split ≤ 1023 = is.split in let b_is : part.attempt ≤ 15 = is.attempt in let g_is : part.from < 16777216 = is.from in
        let same = name_tells i a kept.from part.split part.attempt part.from (omega arith) (omega arith) (omega arith) (omega arith) (omega arith) (omega arith) e in
        let lt : kept.from < part.from = below same.0 same.1 in
        omega (arith, lt, same.2)

    made_other : (held : Option Files) (i a : ℕ) (kept : Kept) → Made held i a kept → ((i ≡ part.split) → (a ≡ part.attempt) → kept.from < part.from) → Made (with_file held (name_at part) (text_of part)) i a kept
    made_other None i a kept h below = h
    made_other (Some files) i a kept h below = record {
      to_is = h.to_is;
      sheets_are = h.sheets_are;
      is_spill = h.is_spill;
      digest_is = h.digest_is;
      text_is = get_other files (name_of i a kept.from) (name_at part) (text_of part) (differs (Some files) i a kept h below) ∙ h.text_is;
    }

    made_others : (held : Option Files) (i a begins : ℕ) (row : List Kept) (ends : ℕ) → IsChain begins row ends → ((i ≡ part.split) → (a ≡ part.attempt) → ends ≤ part.from) → All (Made held i a) row → All (Made (with_file held (name_at part) (text_of part)) i a) row
    made_others held i a begins [] ends chain below h = All-nil (Made (with_file held (name_at part) (text_of part)) i a)
    made_others held i a begins (kept ∷ row) ends chain below h =
        let after : kept.to ≤ ends = chain_up kept.to row ends chain.2 in
        let before : (i ≡ part.split) → (a ≡ part.attempt) → kept.from < part.from = λ p q. let b : ends ≤ part.from = below p q in omega (arith, b, after, chain.0, chain.1) in
        All-cons (Made (with_file held (name_at part) (text_of part)) i a) kept row (made_other held i a kept (All-head (Made held i a) kept row h) before)
        (made_others held i a kept.to row ends chain.2 below (All-tail (Made held i a) kept row h))

    rows_others : (held : Option Files) (before : Table) → part.from ≡ kept_end before part.split part.attempt → Whole held before → (i a : ℕ) → All (Made (with_file held (name_at part) (text_of part)) i a) (row_of before i a)
    rows_others held before next h i a =
        let below : (i ≡ part.split) → (a ≡ part.attempt) → end_of (row_of before i a) ≤ part.from = λ p q. let c : kept_end before i a ≡ kept_end before part.split part.attempt = rw (p, q) refl in omega (arith, c, next) in
        made_others held i a 0 (row_of before i a) (end_of (row_of before i a)) (h.chain i a) below (h.made i a)

    -- its file is put, and the same spills are kept
    pub made_put : (held now : Option Files) (before after : Table) → part.from ≡ kept_end before part.split part.attempt → Whole held before → SameRows before after → now ≡ with_file held (name_at part) (text_of part) → Whole now after
    made_put held now before after next h same e = record {
      chain = λ i a. subst (λ (row : List Kept). IsChain 0 row (end_of row)) (sym (same i a)) (h.chain i a);
      made = λ i a. subst (λ (row : List Kept). All (Made now i a) row) (sym (same i a)) (subst (λ (x : Option Files). All (Made x i a) (row_of before i a)) (sym e) (rows_others held before next h i a));
    }

    made_now : (held : Option Files) (kept : Kept) → IsKept (spill_made job records settings.split settings.reducers part) kept → part.to ≡ min (part.from + settings.spill) (split_len records settings part.split)
        → Made (with_file held (name_at part) (text_of part)) part.split part.attempt kept
    made_now held kept k to =
        let range : range_of part.split part.attempt kept ≡ part = λ i. record { split = part.split; attempt = part.attempt; from = k.from_is i; to = k.to_is i } in
        record {
          to_is = k.to_is ∙ to ∙ ap (λ n. min (n + settings.spill) (split_len records settings part.split)) (sym k.from_is);
          sheets_are = k.sheets_are ∙ length-map-range_with_len (sheet_made job records settings.split settings.reducers part) 0 settings.reducers;
          is_spill = subst (λ (q : Part). IsSpill (spill_made job records settings.split settings.reducers q)) (sym range) is;
          digest_is = k.digest_is ∙ ap (λ (q : Part). sha256 (text_of q)) (sym range);
          text_is = subst (λ (q : Part). IfSome (with_file held (name_at part) (text_of part)) (λ files. map.get files (name_at q) ≡ Some (text_of q))) (sym range) (told held);
        }
      where
        told : (held : Option Files) → IfSome (with_file held (name_at part) (text_of part)) (λ files. map.get files (name_at part) ≡ Some (text_of part))
        told None = tt
        told (Some files) = get_itself files (name_at part) (text_of part)

    rows_now : (held : Option Files) (i a : ℕ) (row : List Kept) (kept : Kept) (b : Bool) → ((b ≡ true) → (i ≡ part.split) × (a ≡ part.attempt)) → All (Made held i a) row → Made held part.split part.attempt kept → All (Made held i a) (cond b (row ++ kept ∷ []) row)
    rows_now held i a row kept true same h k =
        let here : Made held i a kept = subst (λ j. Made held j a kept) (sym (same refl).0) (subst (λ b. Made held part.split b kept) (sym (same refl).1) k) in
        All-append (Made held i a) row (kept ∷ []) h (All-cons (Made held i a) kept [] here (All-nil (Made held i a)))
    rows_now held i a row kept false same h k = h

    -- it is kept: its attempt has one spill more, and its file is put
    pub made_kept : (old new : FolderView) (before after : Table) → IsNext records settings before part → Whole old.held before → IsKeptIn old new before after (spill_made job records settings.split settings.reducers part) → Whole new.held after
    made_kept old new before after next h k =
        let put : Option Files = with_file old.held (name_at part) (text_of part) in
        let blind : FolderView = record { held = None; gets = 0; puts = 0 } in
        let sound = sound_kept blind blind before after (spill_made job records settings.split settings.reducers part) k.kept is next.kept (record { chain = h.chain; stored = tt }) k.kept_is k.rows refl in record {
          chain = sound.chain;
          made = λ i a. subst (λ (row : List Kept). All (Made new.held i a) row) (sym (k.rows i a)) (subst (λ (x : Option Files). All (Made x i a) (cond (eqb i part.split && eqb a part.attempt) (row_of before i a ++ k.kept ∷ []) (row_of before i a))) (sym k.held)
              (rows_now put i a (row_of before i a) k.kept (eqb i part.split && eqb a part.attempt)
              (λ t. let both = both_true (eqb i part.split) (eqb a part.attempt) t in (eqb-true i part.split both.0, eqb-true a part.attempt both.1))
              (rows_others old.held before next.kept h i a) (made_now old.held k.kept k.kept_is next.to)));
        }

    -- after it was to be kept
    pub made_after : (old new : FolderView) (before after : Table) (result : Result (Unit {0}) KeepFault) → IsNext records settings before part → Whole old.held before
        → OnOk result (IsKeptIn old new before after (spill_made job records settings.split settings.reducers part)) → IfErr result (KeepCause old new before after (spill_made job records settings.split settings.reducers part)) → Whole new.held after
    made_after old new before after (Ok u) next h kept cause = made_kept old new before after next h kept
    made_after old new before after (Err fault.NoMemory) next h kept cause = made_same old.held new.held before after h cause.0 cause.1
    made_after old new before after (Err fault.StoreFailed) next h kept cause =
        elim cause.2 [
          | inl e ↦ made_same old.held new.held before after h cause.1 e
          | inr e ↦ made_put old.held new.held before after next.kept h cause.1 e
        ]

    -- whether the folder tells what it holds is as before
    told_with : (held : Option Files) (name text : List ℕ) → IsSome held → IsSome (with_file held name text)
    told_with (Some files) name text h = h
    told_with None name text h = h

    module _ (old new : FolderView) (before after : Table) (result : Result (Unit {0}) KeepFault) (spill : Spill) (value : spill ≡ spill_made job records settings.split settings.reducers part)
        (next : IsNext records settings before part) (kept : OnOk result (IsKeptIn old new before after spill)) (cause : IfErr result (KeepCause old new before after spill)) where
      pub keeps_made : Whole old.held before → Whole new.held after
      keeps_made h =
          made_after old new before after result next h (subst (λ (x : Spill). OnOk result (IsKeptIn old new before after x)) value kept) (subst (λ (x : Spill). IfErr result (KeepCause old new before after x)) value cause)

      told_after : (r : Result (Unit {0}) KeepFault) → OnOk r (IsKeptIn old new before after spill) → IfErr r (KeepCause old new before after spill) → IsSome old.held → IsSome new.held
      told_after (Ok u) k c h = subst IsSome (sym k.held) (told_with old.held _ _ h)
      told_after (Err fault.NoMemory) k c h = subst IsSome (sym c.1) h
      told_after (Err fault.StoreFailed) k c h = elim c.2 [ inl e ↦ subst IsSome (sym e) h | inr e ↦ subst IsSome (sym e) (told_with old.held _ _ h) ]

      pub still_told : IsSome old.held → IsSome new.held
      still_told h = told_after result kept cause h
