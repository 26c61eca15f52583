-- What the spill folders of a run hold at its end.
use Rattle.std.proofs.Common.{◌≡◌, ℕ, zero, suc, Bool, List, [], ◌∷◌, map, Some, None, Option, is_some, refl, sym, ap, ◌∙◌, subst}
use Rattle.std.specs.Prelude.{slice_index_or, IfSome}
use Rattle.std.specs.List.{slice_get}
use Rattle.std.proofs.lemmas.Option.{same_Some}
use Rattle.hop_base.specs.Files.{Files}
use Rattle.hop_base.specs.Meaning.{Meaning}
use Rattle.hop_base.specs.declared.part.Part.{Part}
use Rattle.hop_ports.specs.Views.{FolderView}
use Rattle.hop_actors.specs.Counting.{Counts}
use Rattle.hop_actors.specs.Spilled.{IsKeptSpill, HoldsMade, IsSpilled}
use Rattle.hop_machine.specs.actors.MapperTurns.{Mapper}
use Rattle.hop_settle.proofs.Lists.{map-at}
use Rattle.hop_start.specs.Given.{AreSpillFolders}
use Rattle.hop_replay.specs.Driven.{Drove, Traced, kept_of}
use Rattle.hop_replay.specs.Folders.{counts_seen}
use Rattle.hop_replay.specs.Given.{Given, rules_given}
use Rattle.hop_replay.specs.Replayed.{Ran}

-- # Lists

module _ {A B : Type 0} (f : A → B) where
  -- what stands at a place of a mapped list
  pub at-back : (xs : List A) (k : ℕ) (y : B) → slice_get (map f xs) k ≡ Some y → (x : A) × (slice_get xs k ≡ Some x) × (f x ≡ y)
  at-back [] k y e = cc
  at-back (x ∷ xs) zero y e = (x, refl, same_Some (f x) y e)
  at-back (x ∷ xs) (suc k) y e = at-back xs k y e

-- # What was kept

module _ (job : Meaning) (records : List (List ℕ)) (split reducers spill : ℕ) (lens : List ℕ) (k l : ℕ → ℕ → ℕ) (same : (i a : ℕ) → k i a ≡ l i a) where
  -- the same spills were kept
  kept-same : (part : Part) → IsKeptSpill lens spill l part → IsKeptSpill lens spill k part
  kept-same part h = record { place = h.place; range = h.range; some = h.some; within = rw (same part.split part.attempt) h.within }

  kept-back : (part : Part) → IsKeptSpill lens spill k part → IsKeptSpill lens spill l part
  kept-back part h = record { place = h.place; range = h.range; some = h.some; within = rw (sym (same part.split part.attempt)) h.within }

  made-same : (start now : Files) → HoldsMade job records split reducers spill lens k start now → HoldsMade job records split reducers spill lens l start now
  made-same start now h = record {
    made = λ part p. h.made part (kept-same part p);
    others = λ name n. h.others name (λ part p. n part (kept-back part p));
  }

  spilled-same : (start now : Option Files) → IsSpilled job records split reducers spill lens k start now → IsSpilled job records split reducers spill lens l start now
  spilled-same start None h = h
  spilled-same start (Some held) h = (h.0, h.1, made-same h.0 held h.2)

-- # Where a folder began

-- A folder tells afterwards where it told before. So where it tells, what it held at the start is what it held before.
begun-with : (job : Meaning) (records : List (List ℕ)) (split reducers spill : ℕ) (lens : List ℕ) (k : ℕ → ℕ → ℕ) (start before now : Option Files) → is_some now ≡ is_some before
    → IfSome before (λ files. start ≡ Some files) → IsSpilled job records split reducers spill lens k start now → IsSpilled job records split reducers spill lens k before now
begun-with job records split reducers spill lens k start before None tells from h = tt
begun-with job records split reducers spill lens k start None (Some held) tells from h = cc
begun-with job records split reducers spill lens k start (Some files) (Some held) tells from h = (files, refl, subst (λ (f : Files). HoldsMade job records split reducers spill lens k f held) (same_Some h.0 files (sym h.1 ∙ from)) h.2)

-- # All of it

module _ {M V : Type 0} (mapper : M → Mapper) (folder : M → V) (seen : V → FolderView) (g : Given) (tells : Bool) (spills : List (Option Files)) (ms : List M) (olds : List V) (t : Traced) (texts : List (List ℕ)) where
  abbrev pub Same : Type 0
  Same = map counts_seen (map seen (map folder ms)) ≡ map counts_seen (map seen olds)

  abbrev pub EachSpilled : Type 0
  EachSpilled = (w : ℕ) (m : M) → slice_get ms w ≡ Some m
      → IsSpilled g.job g.records g.settings.split g.settings.reducers g.settings.spill (rules_given g).lens (mapper m).kept (slice_index_or spills w None) (seen (folder m)).held

  one : Drove g tells (map mapper ms) t texts → EachSpilled → Same → AreSpillFolders tells spills g.settings.workers seen olds
      → (worker : ℕ → ℕ → ℕ) → ((w : ℕ) (m : Mapper) → slice_get (map mapper ms) w ≡ Some m → (i a : ℕ) → m.kept i a ≡ kept_of (rules_given g) t.begun worker w i a)
      → (w : ℕ) (old new : FolderView) → slice_get (map seen olds) w ≡ Some old → slice_get (map seen (map folder ms)) w ≡ Some new
      → IsSpilled g.job g.records g.settings.split g.settings.reducers g.settings.spill (rules_given g).lens (kept_of (rules_given g) t.begun worker w) old.held new.held
  one drove spilled same before worker kept w old new go gn =
      let v = at-back seen olds w old go in
      let u = at-back seen (map folder ms) w new gn in
      let m = at-back folder ms w u.0 u.1 in
      let is : seen (folder m.0) ≡ new = ap seen m.2 ∙ u.2 in
      let told : is_some new.held ≡ is_some old.held =
      ap (λ (c : Counts). c.tells) (same_Some (counts_seen new) (counts_seen old) (sym (map-at counts_seen (map seen (map folder ms)) w new gn) ∙ ap (λ (l : List Counts). slice_get l w) same ∙ map-at counts_seen (map seen olds) w old go)) in
      let from = (before.each w v.0 v.1).start in
      begun-with g.job g.records g.settings.split g.settings.reducers g.settings.spill (rules_given g).lens (kept_of (rules_given g) t.begun worker w) (slice_index_or spills w None) old.held new.held told
      (subst (λ (o : FolderView). IfSome o.held (λ files. slice_index_or spills w None ≡ Some files)) v.2 from)
      (subst (λ (o : FolderView). IsSpilled g.job g.records g.settings.split g.settings.reducers g.settings.spill (rules_given g).lens (kept_of (rules_given g) t.begun worker w) (slice_index_or spills w None) o.held) is
      (spilled-same g.job g.records g.settings.split g.settings.reducers g.settings.spill (rules_given g).lens (mapper m.0).kept (kept_of (rules_given g) t.begun worker w) (λ i a. kept w (mapper m.0) (map-at mapper ms w m.0 m.1) i a) (slice_index_or spills w None) (seen (folder m.0)).held (spilled w m.0 m.1)))

  -- a run whose mappers' folders are these
  pub ran-so : Drove g tells (map mapper ms) t texts → EachSpilled → Same → AreSpillFolders tells spills g.settings.workers seen olds
      → Ran g tells (record { before = map seen olds; after = map seen (map folder ms) }) t texts
  ran-so drove spilled same before = record {
    end = drove.end;
    play = drove.play;
    settled = drove.settled;
    tries = drove.tries;
    spilled = record { worker = drove.worker; workers = drove.workers; folders = λ w old new l. one drove spilled same before drove.worker drove.kept w old new };
    parts = drove.parts;
    blocking = drove.blocking;
  }
