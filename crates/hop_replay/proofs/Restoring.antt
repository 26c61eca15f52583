-- The spill folders of a run, from the mappers that own them back to their list.
use Rattle.std.proofs.Common.{◌≡◌, ◌≢◌, inl, inr, ⊎_elim, ℕ, Bool, List, [], ◌∷◌, ◌++◌, map, Some, None, Option, Result, Ok, Err, is_some, refl, sym, ap, ◌∙◌, subst, append-nil}
use Rattle.std.specs.Prelude.{slice_index_or, IfSome, IfOk, IfErr, OnOk}
use Rattle.std.specs.List.{slice_get}
use Rattle.std.proofs.lemmas.Option.{same_Some}
use Rattle.hop_base.specs.Files.{Files}
use Rattle.hop_base.specs.Meaning.{Meaning}
use Rattle.hop_base.specs.Run.{ScriptLines, RunSettings}
use Rattle.hop_ports.specs.Views.{FolderView}
use Rattle.hop_actors.specs.Counting.{Counts, PutFailed, GetFailed, StoreCause}
use Rattle.hop_actors.specs.Spilled.{OnlySpills}
use Rattle.hop_actors.specs.declared.fault.Fault.{Fault}
use Rattle.hop_actors.specs.declared.fault.Fault.TheVariants as fault
use Rattle.hop_settle.specs.Stops.{CrewStops, StoresStop}
use Rattle.hop_settle.proofs.Lists.{map-at}
use Rattle.hop_start.specs.Given.{AreSpillFolders}
use Rattle.hop_replay.specs.Folders.{counts_seen, OnlySpillsPut}
use Rattle.hop_replay.proofs.Counted.{set-here, set-else, same-or-not}
use Rattle.hop_replay.proofs.RunEnds.{at-back}

-- # Results

module _ {A B : Type 0} where
  pub ok-more : {P Q : Type 0} (r : Result A B) → (P → Q) → OnOk r P → OnOk r Q
  ok-more (Ok a) f h = f h
  ok-more (Err b) f h = h

  pub ok-both : (P Q : Type 0) (r : Result A B) → OnOk r P → OnOk r Q → OnOk r (P × Q)
  ok-both P Q (Ok a) h k = (h, k)
  ok-both P Q (Err b) h k = tt

  pub err-more : {P Q : B → Type 0} (r : Result A B) → ((b : B) → P b → Q b) → IfErr r P → IfErr r Q
  err-more (Ok a) f h = h
  err-more (Err b) f h = f b h

  pub ok-with : {P : Type 0} {Q R : A → Type 0} (r : Result A B) → ((a : A) → P → Q a → R a) → OnOk r P → IfOk r Q → IfOk r R
  ok-with (Ok a) f h k = f a h k
  ok-with (Err b) f h k = k

  pub err-with : {P Q R : B → Type 0} (r : Result A B) → ((b : B) → P b → Q b → R b) → IfErr r P → IfErr r Q → IfErr r R
  err-with (Ok a) f h k = h
  err-with (Err b) f h k = f b h k

-- # Lists of lists

module _ {A B C D : Type 0} (f : C → D) (g : B → C) (h : A → B) where
  pub map-three : (xs : List A) → map f (map g (map h xs)) ≡ map (λ x. f (g (h x))) xs
  map-three [] = refl
  map-three (x ∷ xs) = ap (λ l. f (g (h x)) ∷ l) (map-three xs)

-- # Whether they tell

store-tells : (job : Meaning) (records : List (List ℕ)) (script : ScriptLines) (settings : RunSettings) (w : ℕ) (a b : Counts) (f : Fault) → StoreCause job records script settings w a b f → b.tells ≡ a.tells
store-tells job records script settings w a b (fault.SpentAt split) h = ap (λ (c : Counts). c.tells) h
store-tells job records script settings w a b fault.FolderFailed h = absurd h
store-tells job records script settings w a b (fault.SpillFailed worker) h = ⊎_elim (λ (k : PutFailed a b). k.tells) (λ (k : GetFailed a b). k.tells) h.1
store-tells job records script settings w a b (fault.SpillDamaged worker part kept found) h = ap (λ (c : Counts). c.tells) h.3
store-tells job records script settings w a b (fault.SpillCollides worker part place) h = ap (λ (c : Counts). c.tells) h.2
store-tells job records script settings w a b fault.NoMemory h = ap (λ (c : Counts). c.tells) h

same-tells : (cs ds : List Counts) → ds ≡ cs → (w : ℕ) (c d : Counts) → slice_get cs w ≡ Some c → slice_get ds w ≡ Some d → d.tells ≡ c.tells
same-tells cs ds e w c d gc gd = ap (λ (k : Counts). k.tells) (same_Some d c (sym gd ∙ ap (λ (l : List Counts). slice_get l w) e ∙ gc))

stopped-tells : (job : Meaning) (records : List (List ℕ)) (script : ScriptLines) (settings : RunSettings) (cs ds : List Counts) (f : Fault) → StoresStop job records script settings cs ds f → (w : ℕ) (c d : Counts) → slice_get cs w ≡ Some c → slice_get ds w ≡ Some d → d.tells ≡ c.tells
stopped-tells job records script settings cs ds f (inr h) w c d gc gd = same-tells cs ds h.1 w c d gc gd
stopped-tells job records script settings cs ds f (inl h) w c d gc gd =
    ⊎_elim
    (λ (is : h.worker ≡ w).
    let before : h.before ≡ c = same_Some h.before c (sym h.here ∙ ap (slice_get cs) is ∙ gc) in
    let after : h.after ≡ d = same_Some h.after d (sym (set-here cs h.worker h.after h.before h.here) ∙ ap (λ (l : List Counts). slice_get l h.worker) (sym h.now) ∙ ap (slice_get ds) is ∙ gd) in
    ap (λ (k : Counts). k.tells) (sym after) ∙ store-tells job records script settings h.worker h.before h.after f h.cause ∙ ap (λ (k : Counts). k.tells) before)
    (λ (n : h.worker ≢ w).
    let same : d ≡ c = same_Some d c (sym gd ∙ ap (λ (l : List Counts). slice_get l w) h.now ∙ set-else cs h.worker w h.after (λ e. n (sym e)) ∙ gc) in
    ap (λ (k : Counts). k.tells) same) (same-or-not h.worker w)

crew-tells : (job : Meaning) (records : List (List ℕ)) (script : ScriptLines) (settings : RunSettings) (cs ds : List Counts) (x y : Counts) (f : Fault) → CrewStops job records script settings cs ds x y f → (w : ℕ) (c d : Counts) → slice_get cs w ≡ Some c → slice_get ds w ≡ Some d → d.tells ≡ c.tells
crew-tells job records script settings cs ds x y f (inl h) = stopped-tells job records script settings cs ds f h.0
crew-tells job records script settings cs ds x y f (inr h) = same-tells cs ds h.1

pub keeps-telling : {A : Type 0} (job : Meaning) (records : List (List ℕ)) (script : ScriptLines) (settings : RunSettings) (r : Result A Fault) (cs ds : List Counts) (x y : Counts) → OnOk r (ds ≡ cs) → IfErr r (CrewStops job records script settings cs ds x y) → (w : ℕ) (c d : Counts) → slice_get cs w ≡ Some c → slice_get ds w ≡ Some d → d.tells ≡ c.tells
keeps-telling job records script settings (Ok a) cs ds x y ok err = same-tells cs ds ok
keeps-telling job records script settings (Err f) cs ds x y ok err = crew-tells job records script settings cs ds x y f err

-- # Only files of spills

only-own : (o : Option Files) → OnlySpills o o
only-own None = tt
only-own (Some files) = (files, refl, λ name n. refl)

-- nothing was put
pub only-same : (views : List FolderView) → OnlySpillsPut (record { before = views; after = views })
only-same views w a b ga gb = subst (λ (z : FolderView). OnlySpills a.held z.held) (same_Some a b (sym ga ∙ gb)) (only-own a.held)

only-from : (start before now : Option Files) → is_some now ≡ is_some before → IfSome before (λ files. start ≡ Some files) → OnlySpills start now → OnlySpills before now
only-from start before None tells from h = tt
only-from start None (Some held) tells from h = cc
only-from start (Some files) (Some held) tells from h = let is : h.0 ≡ files = same_Some h.0 files (sym h.1 ∙ from) in (files, refl, λ name n. h.2 name n ∙ ap (λ (f : Files). Rattle.std.specs.FinMap.get f name) is)

-- what a folder holds at the start is what it holds
told-first : (start held : Option Files) → IfSome held (λ files. start ≡ Some files) → OnlySpills start held
told-first start None h = tt
told-first start (Some files) h = (files, h, λ name n. refl)

module _ {M V : Type 0} (folder : M → V) (seen : V → FolderView) (tells : Bool) (spills : List (Option Files)) (workers : ℕ) (olds : List V) (given : AreSpillFolders tells spills workers seen olds) where
  -- in the folders of new mappers nothing else was put
  pub only-first : (ms : List M) → map folder ms ≡ olds → (w : ℕ) (m : M) → slice_get ms w ≡ Some m → OnlySpills (slice_index_or spills w None) (seen (folder m)).held
  only-first ms are w m e =
      told-first (slice_index_or spills w None) (seen (folder m)).held (given.each w (folder m) (ap (λ (l : List V). slice_get l w) (sym are) ∙ map-at folder ms w m e)).start

  -- nor in those that come back
  pub only-back : (ms : List M) → ((w : ℕ) (c d : Counts) → slice_get (map counts_seen (map seen olds)) w ≡ Some c → slice_get (map counts_seen (map seen (map folder ms))) w ≡ Some d → d.tells ≡ c.tells)
      → ((w : ℕ) (m : M) → slice_get ms w ≡ Some m → OnlySpills (slice_index_or spills w None) (seen (folder m)).held) → OnlySpillsPut (record { before = map seen olds; after = map seen (map folder ms) })
  only-back ms telling only w a b ga gb =
      let v = at-back seen olds w a ga in
      let u = at-back seen (map folder ms) w b gb in
      let m = at-back folder ms w u.0 u.1 in
      let is : seen (folder m.0) ≡ b = ap seen m.2 ∙ u.2 in
      only-from (slice_index_or spills w None) a.held b.held (telling w (counts_seen a) (counts_seen b) (map-at counts_seen (map seen olds) w a ga) (map-at counts_seen (map seen (map folder ms)) w b gb))
      (subst (λ (o : FolderView). IfSome o.held (λ files. slice_index_or spills w None ≡ Some files)) v.2 (given.each w v.0 v.1).start)
      (subst (λ (o : FolderView). OnlySpills (slice_index_or spills w None) o.held) is (only w m.0 m.1))

-- the folders came back alone
pub alone : {A : Type 0} (xs ys zs : List A) → xs ≡ ys ++ zs → zs ≡ [] → xs ≡ ys
alone {A = A} xs ys zs e n = e ∙ ap (λ (l : List A). ys ++ l) n ∙ append-nil ys
