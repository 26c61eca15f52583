-- A kept spill that is read back.
use Rattle.std.proofs.Common.{◌≡◌, ℕ, zero, suc, ◌+◌, ◌<◌, ◌≤◌, List, [], ◌∷◌, ◌++◌, length, map, take, get_or, Option, Some, None, Result, Ok, Err, refl, sym, ap, subst, ◌∙◌, arith}
use Rattle.std.specs.Prelude.{IfSome, IfOk, IfErr}
use Rattle.std.specs.FinMap as map
use Rattle.std.proofs.lemmas.Bool.{eq-eqb, lt-leb}
use Rattle.std.proofs.lemmas.List.{take_more, append-nil}
use Rattle.sha2.specs.Sha256.{sha256}
use Rattle.hop_base.specs.declared.part.Part.{Part}
use Rattle.hop_base.specs.declared.value.Pair.{Pair}
use Rattle.hop_base.specs.Files.{Files}
use Rattle.hop_ports.specs.Views.{FolderView}
use Rattle.hop_ports.specs.Causes.{OnlyRead}
use Rattle.hop_spill.specs.declared.spill.Spill.{Spill}
use Rattle.hop_spill.specs.Spelling.{IsSpill, spill_text}
use Rattle.hop_spill.specs.Reading.{placed, read_spill}
use Rattle.hop_spill.proofs.SpillLaws.{spill_again, no_prefix}
use Rattle.hop_vault.specs.declared.kept.Kept.{Kept}
use Rattle.hop_vault.specs.declared.kept.FetchFault.{FetchFault}
use Rattle.hop_vault.specs.declared.kept.FetchFault.TheVariants as fault
use Rattle.hop_vault.specs.Rows.{Table, row_of, range_of, IsChain, IsStretch}
use Rattle.hop_spill.specs.SpillFiles.{name_of}
use Rattle.hop_vault.specs.Stored.{IsStored, AreStored, IsFetched, AreFetched, AreHeldFrom, sheet_of, first_other, other_place}
use Rattle.hop_vault.specs.Vaults.{AreOfHeld}
use Rattle.hop_vault.proofs.SoundLaws.{chain_up}
use Rattle.hop_vault.specs.Reads.{GetsAnswered, OpenedCause, ReadCause}

no_other : (at : Part) (p : ℕ) (s : Spill) → s.split ≡ at.split → s.attempt ≡ at.attempt → s.from ≡ at.from → s.to ≡ at.to → p < length s.sheets → first_other at p s ≡ None
no_other at p s split attempt from to within =
    rw (eq-eqb s.split at.split split, eq-eqb s.attempt at.attempt attempt, eq-eqb s.from at.from from, eq-eqb s.to at.to to, lt-leb (length s.sheets) p within) refl

some_is : {X : Type 0} (x y : X) → Some x ≡ Some y → x ≡ y
some_is x y e = cc

none_is_some : {X : Type 0} (x : X) → None ≡ Some x → ⊥
none_is_some x e = absurd cc

module _ (split attempt p : ℕ) (kept : Kept) (bytes : List ℕ) (within : p < kept.sheets) where
  -- what a telling folder gives is the text that was put
  text_is : (files : Files) (h : IsStored files split attempt kept) → map.get files (name_of split attempt kept.from) ≡ Some bytes → bytes ≡ spill_text h.spill
  text_is files h e = some_is bytes (spill_text h.spill) (sym e ∙ h.held)

  untold : (held : Option Files) → ((files : Files) → IsStored files split attempt kept → map.get files (name_of split attempt kept.from) ≡ Some bytes → ⊥) → IfSome held (λ files. IsStored files split attempt kept) → IfSome held (λ files. map.get files (name_of split attempt kept.from) ≡ Some bytes) → held ≡ None
  untold None never h e = refl
  untold (Some files) never h e = absurd (never files h e)

  not_damaged : (at : Part) (digest found : List ℕ) → OpenedCause (range_of split attempt kept) p kept.digest bytes (fault.Damaged at digest found) → (files : Files) → IsStored files split attempt kept → map.get files (name_of split attempt kept.from) ≡ Some bytes → ⊥
  not_damaged at digest found c files h e = c.3 (c.2 ∙ ap sha256 (text_is files h e) ∙ h.text.digest_is)

  not_colliding : (at : Part) (place : ℕ) → OpenedCause (range_of split attempt kept) p kept.digest bytes (fault.Collides at place) → (files : Files) → IsStored files split attempt kept → map.get files (name_of split attempt kept.from) ≡ Some bytes → ⊥
  not_colliding at place c files h e =
      let read : read_spill bytes ≡ Ok h.spill = ap read_spill (text_is files h e) ∙ ap (placed (length (spill_text h.spill))) (spill_again h.spill h.text.is_spill) in
      let there : p < length h.spill.sheets = omega (arith, within, h.sheets_are) in
      let same : first_other (range_of split attempt kept) p h.spill ≡ None = no_other (range_of split attempt kept) p h.spill h.text.split_is h.text.attempt_is h.text.from_is h.text.to_is there in
      let range : at ≡ range_of split attempt kept = c.0 in
      none_is_some place (sym same ∙ sym (ap (other_place (range_of split attempt kept) p) read) ∙ ap (λ (r : Part). other_place r p (read_spill bytes)) (sym range) ∙ ap (λ (r : Part). other_place r p (read_spill bytes)) range ∙ c.2)

  pub read_cause : {T : Type 0} (old new : FolderView) (result : Result T FetchFault) → IfSome old.held (λ files. IsStored files split attempt kept) → IfSome old.held (λ files. map.get files (name_of split attempt kept.from) ≡ Some bytes)
      → IfErr result (OpenedCause (range_of split attempt kept) p kept.digest bytes) → IfErr result (ReadCause old new (range_of split attempt kept) p kept.digest)
  read_cause old new (Ok x) h e c = tt
  read_cause old new (Err fault.NoMemory) h e c = tt
  read_cause old new (Err fault.StoreFailed) h e c = absurd c
  read_cause old new (Err (fault.NotKept have)) h e c = absurd c
  read_cause old new (Err (fault.Damaged at digest found)) h e c = (untold old.held (not_damaged at digest found c) h e, bytes, c)
  read_cause old new (Err (fault.Collides at place)) h e c = (untold old.held (not_colliding at place c) h e, bytes, c)

-- no get failed before the call that the answer is of
pub answered_from_start : (start old new : FolderView) (e : FetchFault) → old.gets ≡ start.gets → GetsAnswered old new e → GetsAnswered start new e
answered_from_start start old new fault.StoreFailed quiet answered = tt
answered_from_start start old new fault.NoMemory quiet answered = answered ∙ quiet
answered_from_start start old new (fault.NotKept have) quiet answered = answered ∙ quiet
answered_from_start start old new (fault.Damaged at digest found) quiet answered = answered ∙ quiet
answered_from_start start old new (fault.Collides at place) quiet answered = answered ∙ quiet

-- a cause after earlier reads is one from the beginning
pub cause_from_start : (first old new : FolderView) (at : Part) (p : ℕ) (digest : List ℕ) (e : FetchFault) → OnlyRead first old → ReadCause old new at p digest e → ReadCause first new at p digest e
cause_from_start first old new at p digest fault.StoreFailed left c = omega (arith, left.gets, c)
cause_from_start first old new at p digest fault.NoMemory left c = tt
cause_from_start first old new at p digest (fault.NotKept have) left c = c
cause_from_start first old new at p digest (fault.Damaged place kept found) left c = (sym left.held ∙ c.0, c.1, c.2)
cause_from_start first old new at p digest (fault.Collides range place) left c = (sym left.held ∙ c.0, c.1, c.2)

-- ---- one after the other

stored_at : (files : Files) (split attempt : ℕ) (spills : List Kept) (i : ℕ) (d : Kept) → AreStored files split attempt spills → i < length spills → IsStored files split attempt (get_or spills i d)
stored_at files split attempt [] i d h lt = absurd (omega arith)
stored_at files split attempt (k ∷ spills) zero d h lt = h.0
stored_at files split attempt (k ∷ spills) (suc i) d h lt = stored_at files split attempt spills i d h.1 (omega arith)

pub held_at : (held now : Option Files) (split attempt : ℕ) (spills : List Kept) (i : ℕ) (d : Kept) → now ≡ held → IfSome held (λ files. AreStored files split attempt spills) → i < length spills → IfSome now (λ files. IsStored files split attempt (get_or spills i d))
held_at held now split attempt spills i d e h lt = subst (λ (o : Option Files). IfSome o (λ files. IsStored files split attempt (get_or spills i d))) (sym e) (there held h)
  where
    there : (o : Option Files) → IfSome o (λ files. AreStored files split attempt spills) → IfSome o (λ files. IsStored files split attempt (get_or spills i d))
    there None h = h
    there (Some files) h = stored_at files split attempt spills i d h lt

pub fetched_push : (held : Option Files) (split attempt p : ℕ) (spills : List Kept) (sheets : List (List Pair)) (k : Kept) (sheet : List Pair) → AreFetched held split attempt p spills sheets → IsFetched held split attempt p k sheet → AreFetched held split attempt p (spills ++ k ∷ []) (sheets ++ sheet ∷ [])
fetched_push held split attempt p [] [] k sheet h f = (f, tt)
fetched_push held split attempt p [] (s ∷ sheets) k sheet h f = absurd h
fetched_push held split attempt p (l ∷ spills) [] k sheet h f = absurd h
fetched_push held split attempt p (l ∷ spills) (s ∷ sheets) k sheet h f = (h.0, fetched_push held split attempt p spills sheets k sheet h.1 f)

pub stored_from_row : (files : Files) (split attempt : ℕ) (before spills after : List Kept) → AreStored files split attempt (before ++ (spills ++ after)) → AreStored files split attempt spills
stored_from_row files split attempt [] [] after h = tt
stored_from_row files split attempt [] (k ∷ spills) after h = (h.0, stored_from_row files split attempt [] spills after h.1)
stored_from_row files split attempt (l ∷ before) spills after h = stored_from_row files split attempt before spills after h.1

pub stored_stretch : (held : Option Files) (rows : Table) (i a : ℕ) (row : List Kept) (from to : ℕ) (spills : List Kept) → IfSome held (λ files. (i a : ℕ) → AreStored files i a (row_of rows i a)) → row ≡ row_of rows i a → IsStretch row from to spills → IfSome held (λ files. AreStored files i a spills)
stored_stretch None rows i a row from to spills h e s = tt
stored_stretch (Some files) rows i a row from to spills h e s = stored_from_row files i a s.before spills s.after (subst (λ (r : List Kept). AreStored files i a r) (sym e ∙ s.parts) (h i a))

-- reads after reads are reads
pub OnlyRead-trans : (first old new : FolderView) → OnlyRead first old → OnlyRead old new → OnlyRead first new
OnlyRead-trans first old new a b = record { held = b.held ∙ a.held; gets = omega (arith, a.gets, b.gets); puts = b.puts ∙ a.puts }

-- one more spill is read
pub fetched_more : (held now : Option Files) (split attempt p : ℕ) (spills : List Kept) (i : ℕ) (d : Kept) (sheets : List (List Pair)) (sheet : List Pair) → now ≡ held → i < length spills → AreFetched held split attempt p (take i spills) sheets → IsFetched now split attempt p (get_or spills i d) sheet
    → AreFetched held split attempt p (take (i + 1) spills) (sheets ++ sheet ∷ [])
fetched_more held now split attempt p spills i d sheets sheet e lt h f =
    rw (take_more spills i d lt) (fetched_push held split attempt p (take i spills) sheets (get_or spills i d) sheet h (subst (λ (o : Option Files). IsFetched o split attempt p (get_or spills i d) sheet) e f))

-- ---- the sheets of the spills whose texts are held

held_up : (files : Files) (split attempt from : ℕ) (spills : List Spill) (to : ℕ) → AreHeldFrom files split attempt from spills to → from ≤ to
held_up files split attempt from [] to h = omega (arith, h)
held_up files split attempt from (s ∷ spills) to h = let lt = h.0.some in omega (arith, h.1, lt, held_up files split attempt s.to spills to h.3)

same_text : (s t : Spill) → IsSpill s → IsSpill t → spill_text s ≡ spill_text t → s ≡ t
same_text s t is_s is_t e = (no_prefix t s [] is_t is_s (e ∙ sym (append-nil (spill_text t)))).1

of_held : (files : Files) (split attempt p from : ℕ) (kept : List Kept) (sheets : List (List Pair)) (spills : List Spill) (to : ℕ) → IsChain from kept to → AreFetched (Some files) split attempt p kept sheets → AreHeldFrom files split attempt from spills to
    → sheets ≡ map (λ spill. sheet_of spill p) spills
of_held files split attempt p from [] [] [] to c f h = refl
of_held files split attempt p from [] [] (s ∷ spills) to c f h =
    let lt = h.0.some in absurd (omega (arith, c, h.1, lt, held_up files split attempt s.to spills to h.3))
of_held files split attempt p from [] (x ∷ sheets) spills to c f h = absurd f
of_held files split attempt p from (k ∷ kept) [] spills to c f h = absurd f
of_held files split attempt p from (k ∷ kept) (x ∷ sheets) [] to c f h = absurd (omega (arith, c.1, h, chain_up k.to kept to c.2))
of_held files split attempt p from (k ∷ kept) (x ∷ sheets) (s ∷ spills) to c f h =
    let one = f.0 in
    let name : name_of split attempt k.from ≡ name_of split attempt from = ap (name_of split attempt) c.0 in
    let text : spill_text one.spill ≡ spill_text s = some_is (spill_text one.spill) (spill_text s) (sym one.text_held ∙ ap (map.get files) name ∙ h.2) in
    let same : one.spill ≡ s = same_text one.spill s one.text.is_spill h.0 text in
    let sheet : x ≡ sheet_of s p = one.sheet_is ∙ ap (λ (spill : Spill). sheet_of spill p) same in
    let ends : s.to ≡ k.to = sym (ap (λ (spill : Spill). spill.to) same) ∙ one.text.to_is in
    let others : sheets ≡ map (λ spill. sheet_of spill p) spills = of_held files split attempt p k.to kept sheets spills to c.2 f.1 (subst (λ (b : ℕ). AreHeldFrom files split attempt b spills to) ends h.3) in
    cc

pub are_of_held : (held : Option Files) (row : List Kept) (part : Part) (p : ℕ) (kept : List Kept) (sheets : List (List Pair)) → IsStretch row part.from part.to kept → AreFetched held part.split part.attempt p kept sheets → AreOfHeld held part p sheets
are_of_held held row part p kept sheets s f files spills e h =
    of_held files part.split part.attempt p part.from kept sheets spills part.to s.chain (subst (λ (o : Option Files). AreFetched o part.split part.attempt p kept sheets) e f) h

pub all_of_held : {E : Type 0} (held : Option Files) (row : List Kept) (part : Part) (p : ℕ) (kept : List Kept) (result : Result (List (List Pair)) E) → IsStretch row part.from part.to kept → IfOk result (AreFetched held part.split part.attempt p kept) → IfOk result (AreOfHeld held part p)
all_of_held held row part p kept (Ok sheets) s f = are_of_held held row part p kept sheets s f
all_of_held held row part p kept (Err e) s f = tt
