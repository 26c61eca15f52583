-- What a writer's folder holds and what it keeps, when a cut more was taken.
use Rattle.std.proofs.Common.{◌≡◌, ◌+◌, ◌<◌, ℕ, Bool, true, false, List, [], ◌∷◌, ◌++◌, Option, Some, None, refl, sym, ap, ◌∙◌, subst, arith, length, take}
use lib.Seq.{take-append-add}
use Rattle.std.specs.Prelude.{IfSome, map, Result, Ok, Err, OnOk, OnErr, is_ok, is_err}
use Rattle.std.proofs.lemmas.List.{append-nil, append_assoc, map-append}
use Rattle.std.proofs.lemmas.List.Elements.{All-nil, All-cons, All-append}
use Rattle.hop_base.specs.Files.{Files}
use Rattle.hop_base.specs.Meaning.{Meaning}
use Rattle.hop_base.specs.Run.{RunSettings}
use Rattle.hop_base.specs.declared.settings.Settings.{Settings}
use Rattle.hop_ports.specs.Views.{with_file}
use Rattle.hop_cut.specs.declared.cut.Cut.{Cut}
use Rattle.hop_jobs.specs.declared.known.Known.{Known}
use Rattle.hop_machine.specs.actors.ReducerTurns.{Writing}
use Rattle.hop_inner.specs.Messages.{said_cut}
use Rattle.hop_writer.specs.Puts.{Puts, HoldsPut, with_files}
use Rattle.hop_writer.specs.Snapshots.{AreSnapshots, HoldsSnaps, IsPut, IsSnapshot, Snapshot, files_at, files_from, files_of, kept_of}
use Rattle.hop_writer.specs.Writers.{IsOfRun, IsSound, LeavesCut, PutsCut, kept_all, kept_with, writing_of}
use Rattle.hop_writer.specs.declared.kept.Kept.{Kept}
use Rattle.hop_writer.specs.declared.notes.Noted.{Noted}

-- # Files

with_files-append : (held : Option Files) (first second : Puts) → with_files held (first ++ second) ≡ with_files (with_files held first) second
with_files-append held [] second = refl
with_files-append held (f ∷ first) second = with_files-append (with_file held f.0 f.1) first second

held_so : (start now : Option Files) (files : Puts) → with_files start files ≡ now → HoldsPut start now files
held_so start None files e = tt
held_so start (Some held) files e = e

nothing : (files : Puts) → with_files None files ≡ None
nothing [] = refl
nothing (f ∷ files) = nothing files

-- files more
held_more : (start old new : Option Files) (there files : Puts) → HoldsPut start old there → new ≡ with_files old files → HoldsPut start new (there ++ files)
held_more start None new there files h e = subst (λ (now : Option Files). HoldsPut start now (there ++ files)) (sym (e ∙ nothing files)) tt
held_more start (Some held) new there files h e = held_so start new (there ++ files) (with_files-append start there files ∙ ap (λ (x : Option Files). with_files x files) h ∙ sym e)

-- # The files of one snapshot more

module _ (later : List Meaning) (r : ℕ) where
  files_from-more : (kept : List Kept) (snaps : List Snapshot) (s : Snapshot) → files_from later r kept (snaps ++ s ∷ []) ≡ files_from later r kept snaps ++ files_at later r (kept ++ map kept_of snaps) s
  files_from-more kept [] s = append-nil (files_at later r kept s) ∙ ap (λ (k : List Kept). files_at later r k s) (sym (append-nil kept))
  files_from-more kept (x ∷ snaps) s =
      ap (λ (fs : Puts). files_at later r kept x ++ fs) (files_from-more (kept ++ kept_of x ∷ []) snaps s ∙ ap (λ (k : List Kept). files_from later r (kept ++ kept_of x ∷ []) snaps ++ files_at later r k s) (append_assoc kept (kept_of x ∷ []) (map kept_of snaps)))
      ∙ sym (append_assoc (files_at later r kept x) (files_from later r (kept ++ kept_of x ∷ []) snaps) (files_at later r (kept ++ map kept_of (x ∷ snaps)) s))

-- what a run of one job keeps makes no difference
files_at-kept : (later : List Meaning) (r : ℕ) (snaps : List Snapshot) (s : Snapshot) → files_at later r (map kept_of snaps) s ≡ files_at later r (kept_all later snaps) s
files_at-kept [] r snaps s = refl
files_at-kept (job ∷ later) r snaps s = refl

files_of-more : (later : List Meaning) (r : ℕ) (snaps : List Snapshot) (s : Snapshot) → files_of later r (snaps ++ s ∷ []) ≡ files_of later r snaps ++ files_at later r (kept_all later snaps) s
files_of-more later r snaps s = files_from-more later r [] snaps s ∙ ap (λ (fs : Puts). files_of later r snaps ++ fs) (files_at-kept later r snaps s)

kept_all-more : (later : List Meaning) (snaps : List Snapshot) (s : Snapshot) → kept_with later (kept_all later snaps) s ≡ kept_all later (snaps ++ s ∷ [])
kept_all-more [] snaps s = refl
kept_all-more (job ∷ later) snaps s = sym (map-append kept_of snaps (s ∷ []))

-- # Of a run

module _ (job : Meaning) (records : List (List ℕ)) (settings : RunSettings) (later : List Meaning) (tells : Bool) (start : Option Files) where
  abbrev Are : List Writing → List Snapshot → Type 0
  Are ws snaps = AreSnapshots job records settings tells ws snaps

  abbrev Holds : Bool → Option Files → List Writing → Type 0
  Holds failed now ws = HoldsSnaps job records settings later tells failed start now ws

  abbrev Puts_ : Writing → List Kept → List Kept → Option Files → Option Files → Type 0
  Puts_ w kept then old new = PutsCut job records settings later tells w.reducer w.cut kept then old new

  abbrev Leaves : Writing → List Kept → Option Files → Option Files → Type 0
  Leaves w kept old new = LeavesCut job records settings later tells w.reducer w.cut kept old new

  -- it holds the files of what it wrote, and keeps what the later jobs take of that
  abbrev Sound : Bool → Option Files → List Kept → List Writing → Type 0
  Sound failed now kept ws = (h : Holds failed now ws) × (failed ≡ false → kept ≡ kept_all later h.snaps)

  are_more : (ws : List Writing) (snaps : List Snapshot) (w : Writing) (s : Snapshot) → Are ws snaps → IsSnapshot job records settings tells w.reducer w.cut s → Are (ws ++ w ∷ []) (snaps ++ s ∷ [])
  are_more [] [] w s are is = (is, tt)
  are_more [] (x ∷ snaps) w s are is = absurd are
  are_more (x ∷ ws) [] w s are is = absurd are
  are_more (x ∷ ws) (y ∷ snaps) w s are is = (are.0, are_more ws snaps w s are.1 is)

  put_more : (old new : Option Files) (kept then : List Kept) (ws : List Writing) (w : Writing) → Sound false old kept ws → w.put ≡ true → Puts_ w kept then old new → Sound false new then (ws ++ w ∷ [])
  put_more old new kept then ws w (h, same) is p =
      let s = p.makes.snap in let kept_is = same refl in
      let files : p.files ≡ files_at later settings.reducers (kept_all later h.snaps) s = p.makes.files_are ∙ ap (λ (k : List Kept). files_at later settings.reducers k s) kept_is in (
        record {
          snaps = h.snaps ++ s ∷ [];
          are = are_more ws h.snaps w s h.are p.makes.is;
          there = h.there ++ p.files;
          are_there = record {
            put = All-append IsPut ws (w ∷ []) h.are_there.put (All-cons IsPut w [] is (All-nil IsPut));
            there_are = (λ i. h.are_there.there_are i ++ files i) ∙ sym (files_of-more later settings.reducers h.snaps s);
          };
          held = held_more start old new h.there p.files h.held p.held;
        },
        λ _. p.makes.kept_are ∙ ap (λ (k : List Kept). kept_with later k s) kept_is ∙ kept_all-more later h.snaps s,
      )

  stopped : (old new : Option Files) (kept then : List Kept) (ws : List Writing) (w : Writing) → Sound false old kept ws → w.put ≡ false → Leaves w kept old new → Sound true new then (ws ++ w ∷ [])
  stopped old new kept then ws w (h, same) not_put p =
      let s = p.snap in let files = files_of later settings.reducers h.snaps in let more = files_at later settings.reducers (kept_all later h.snaps) s in
      let held : new ≡ with_files old (take p.count more) = p.held ∙ ap (λ (k : List Kept). with_files old (take p.count (files_at later settings.reducers k s))) (same refl) in (
        record {
          snaps = h.snaps ++ s ∷ [];
          are = are_more ws h.snaps w s h.are p.is;
          there = h.there ++ take p.count more;
          are_there = record {
            earlier = ws;
            last = w;
            writings_are = refl;
            put = h.are_there.put;
            not_put = not_put;
            before = h.snaps;
            final = s;
            snaps_are = refl;
            count = length files + p.count;
            enough = omega arith;
            there_are =
                ap (λ (fs : Puts). fs ++ take p.count more) h.are_there.there_are
                ∙ sym (take-append-add files more p.count)
                ∙ ap (take (length files + p.count)) (sym (files_of-more later settings.reducers h.snaps s));
          };
          held = held_more start old new h.there (take p.count more) h.held held;
        },
        λ no. absurd (cc),
      )

  -- after a cut of reducer p was noted, by what was answered when its files were to be put
  noted : {A E : Type 0} (result : Result A E) (put failed : Bool) (old new : Option Files) (kept then : List Kept) (notes : List (Noted × Cut)) (p : ℕ) (cut : Cut) → put ≡ is_ok result → failed ≡ is_err result
      → Sound false old kept (map writing_of notes)
      → OnOk result (PutsCut job records settings later tells p (said_cut cut) kept then old new) → OnErr result (LeavesCut job records settings later tells p (said_cut cut) kept old new)
      → Sound failed new then (map writing_of (notes ++ (record { reducer = p; put = put }, cut) ∷ []))
  noted (Ok x) put failed old new kept then notes p cut is stops h ok err =
      let note : Noted × Cut = (record { reducer = p; put = true }, cut) in
      let P : Bool × Bool → Type 0 = λ x. Sound x.0 new then (map writing_of (notes ++ (record { reducer = p; put = x.1 }, cut) ∷ [])) in
      subst P (λ i. (sym stops i, sym is i)) (subst (λ (ws : List Writing). Sound false new then ws) (sym (map-append writing_of notes (note ∷ []))) (put_more old new kept then (map writing_of notes) (writing_of note) h refl ok))
  noted (Err e) put failed old new kept then notes p cut is stops h ok err =
      let note : Noted × Cut = (record { reducer = p; put = false }, cut) in
      let P : Bool × Bool → Type 0 = λ x. Sound x.0 new then (map writing_of (notes ++ (record { reducer = p; put = x.1 }, cut) ∷ [])) in
      subst P (λ i. (sym stops i, sym is i)) (subst (λ (ws : List Writing). Sound true new then ws) (sym (map-append writing_of notes (note ∷ []))) (stopped old new kept then (map writing_of notes) (writing_of note) h refl err))

  -- the writer is as before but for that
  pub sound_after : {A E : Type 0} (result : Result A E) (put failed was : Bool) (own_later : List Known) (own_job : Meaning) (lens : List ℕ) (own : Settings) (next after : ℕ) (old new : Option Files) (kept then : List Kept)
      (notes all : List (Noted × Cut)) (p : ℕ) (cut : Cut)
      → IsSound job records settings later tells start own_later own_job lens own next old was kept notes → was ≡ false → after < settings.reducers
      → all ≡ notes ++ (record { reducer = p; put = put }, cut) ∷ [] → put ≡ is_ok result → failed ≡ is_err result
      → OnOk result (PutsCut job records settings later tells p (said_cut cut) kept then old new) → OnErr result (LeavesCut job records settings later tells p (said_cut cut) kept old new)
      → IsSound job records settings later tells start own_later own_job lens own after new failed then all
  sound_after result put failed was own_later own_job lens own next after old new kept then notes all p cut s well lane all_are is stops ok err =
      let before = subst (λ (b : Bool). Sound b old kept (map writing_of notes)) well (s.holds, s.kept_are) in
      let now = subst (λ (xs : List (Noted × Cut)). Sound failed new then (map writing_of xs)) (sym all_are) (noted result put failed old new kept then notes p cut is stops before ok err) in
      record {
        of_run = record { later_are = s.of_run.later_are; few = s.of_run.few; job_is = s.of_run.job_is; lens_are = s.of_run.lens_are; reducers = s.of_run.reducers; lane = lane };
        holds = now.0;
        kept_are = now.1;
      }

  -- at first it holds what it held, and keeps nothing
  pub new_sound : (own_later : List Known) (own_job : Meaning) (lens : List ℕ) (own : Settings) (now : Option Files) → IfSome now (λ files. start ≡ Some files) → IsOfRun job records settings later own_later own_job lens own 0
      → IsSound job records settings later tells start own_later own_job lens own 0 now false [] []
  new_sound own_later own_job lens own now held of_run = record {
    of_run = of_run;
    holds = record { snaps = []; are = tt; there = []; are_there = record { put = All-nil IsPut; there_are = refl }; held = held };
    kept_are = λ _. nothing_kept later;
  }
    where
      nothing_kept : (later : List Meaning) → [] ≡ kept_all later []
      nothing_kept [] = refl
      nothing_kept (x ∷ xs) = refl
