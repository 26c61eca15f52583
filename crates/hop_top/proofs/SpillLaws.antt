-- The spill folders of a run are the first ones of all.
use Rattle.std.proofs.Common.{◌≡◌, ℕ, zero, suc, ◌≤◌, ◌<◌, ◌&&◌, Bool, true, false, IsTrue, List, [], ◌∷◌, ◌++◌, length, map, take, Option, None, Some, is_some, refl, sym, ap, ◌∙◌, subst, arith}
use Rattle.std.specs.Prelude.{IfSome, IsSome, slice_index_or}
use Rattle.std.specs.List.{slice_get, list_all}
use Rattle.std.proofs.lemmas.List.{map-append, length-map, length-append}
use Rattle.std.specs.Option.{option_map}
use Rattle.std.proofs.lemmas.Option.{same_Some, slice_get-map, slice_get_within}
use Rattle.hop_base.specs.Files.{Files}
use Rattle.hop_ports.specs.Views.{FolderView}
use Rattle.hop_start.specs.Given.{AreSpillFolders}
use Rattle.hop_actors.specs.Spilled.{IsSpilled}
use Rattle.hop_actors.specs.declared.fault.Fault.{Fault}
use Rattle.hop_actors.specs.declared.fault.Fault.TheVariants as fault
use Rattle.hop_replay.specs.Driven.{Traced}
use Rattle.hop_replay.specs.Folders.{Spilling, NoneFailed, OnlySpillsPut, Stopped, WorkerFaults, NamesWorker as FaultNames}
use Rattle.hop_replay.specs.Given.{Given}
use Rattle.hop_replay.specs.Replayed.{Ran}
use Rattle.hop_words.specs.Options.{Asked, AskedOptions, block, chain, run, replay}
use Rattle.hop_top.specs.Spilling.{CommandLeaves, LeavesSpills, NamesWorker, RunLeaves, SpillsLeft, WorkerAnswers, all_tell, tells}
use Rattle.hop_top.specs.Stops.{outcome_of}
use Rattle.hop_top.specs.declared.outcome.Outcome.TheVariants as outcome

-- # Lists

both : (a b : Bool) → (a && b) ≡ true → (a ≡ true) × (b ≡ true)
both true b e = (refl, e)
both false b e = cc

-- what stands at a place, mapped
map-at : {A B : Type 0} (f : A → B) (xs : List A) (k : ℕ) (x : A) → slice_get xs k ≡ Some x → slice_get (map f xs) k ≡ Some (f x)
map-at f xs k x h = slice_get-map f xs k ∙ ap (option_map f) h

module _ {A : Type 0} where
  -- what stands in the first list
  left-at : (xs ys : List A) (w : ℕ) → w < length xs → slice_get (xs ++ ys) w ≡ slice_get xs w
  left-at [] ys w l = absurd (omega (arith, l))
  left-at (x ∷ xs) ys zero l = refl
  left-at (x ∷ xs) ys (suc w) l = left-at xs ys w (omega (arith, l))

  -- what stands behind lists of one length
  right-at : (xs zs ys : List A) (w : ℕ) → length xs ≡ length zs → length xs ≤ w → slice_get (xs ++ ys) w ≡ slice_get (zs ++ ys) w
  right-at [] [] ys w e l = refl
  right-at [] (z ∷ zs) ys w e l = absurd (omega (arith, e))
  right-at (x ∷ xs) [] ys w e l = absurd (omega (arith, e))
  right-at (x ∷ xs) (z ∷ zs) ys zero e l = absurd (omega (arith, l))
  right-at (x ∷ xs) (z ∷ zs) ys (suc w) e l = right-at xs zs ys w (omega (arith, e)) (omega (arith, l))

  take-at : (xs : List A) (n w : ℕ) → w < n → slice_get (take n xs) w ≡ slice_get xs w
  take-at xs zero w l = absurd (omega (arith, l))
  take-at [] (suc n) w l = refl
  take-at (x ∷ xs) (suc n) zero l = refl
  take-at (x ∷ xs) (suc n) (suc w) l = take-at xs n w (omega (arith, l))

  passes-at : (p : A → Bool) (xs : List A) (w : ℕ) (x : A) → list_all p xs ≡ true → slice_get xs w ≡ Some x → p x ≡ true
  passes-at p [] w x all e = cc
  passes-at p (y ∷ ys) zero x all e = ap p (sym (same_Some y x e)) ∙ (both (p y) (list_all p ys) all).0
  passes-at p (y ∷ ys) (suc w) x all e = passes-at p ys w x (both (p y) (list_all p ys) all).1 e

  -- the beginning of a list whose first part is so long
  take-first : (xs ys : List A) (n : ℕ) → length xs ≡ n → take n (xs ++ ys) ≡ take n xs
  take-first [] ys zero e = refl
  take-first [] ys (suc n) e = absurd (omega (arith, e))
  take-first (x ∷ xs) ys zero e = absurd (omega (arith, e))
  take-first (x ∷ xs) ys (suc n) e = ap (λ l. x ∷ l) (take-first xs ys n (omega (arith, e)))

-- where all the workers' folders tell, each does
pub tells-at : (workers : ℕ) (before : List FolderView) (w : ℕ) (a : FolderView) → all_tell workers before ≡ true → w < workers → slice_get before w ≡ Some a → is_some a.held ≡ true
tells-at workers before w a all l e = passes-at tells (take workers before) w a all (take-at before workers w l ∙ e)

pub true-is : (b : Bool) → IsTrue b → b ≡ true
true-is b h = h

some-is : {A : Type 0} (o : Option A) → is_some o ≡ true → IsSome o
some-is None e = cc
some-is (Some a) e = refl

where-told : (o : Option Files) (start : Option Files) → start ≡ o → IfSome o (λ files. start ≡ Some files)
where-told None start e = tt
where-told (Some files) start e = e

index-at : {A : Type 0} (f : A → Option Files) (xs : List A) (w : ℕ) (a : A) → slice_get xs w ≡ Some a → slice_index_or (map f xs) w None ≡ f a
index-at f [] w a e = cc
index-at f (x ∷ xs) zero a e = ap f (same_Some x a e)
index-at f (x ∷ xs) (suc w) a e = index-at f xs w a e

-- # The folders that are lent

-- what they held and whether all told is what the run is named by
pub first-folders : {V : Type 0} (seen : V → FolderView) (workers : ℕ) (kept : List V) → length kept ≡ workers
    → AreSpillFolders (all_tell workers (map seen kept)) (map (λ (s : FolderView). s.held) (map seen kept)) workers seen kept
first-folders seen workers kept count = record {
  count = count;
  each = λ w folder e.
      let l = slice_get_within kept w folder e in
      let at = map-at seen kept w folder e in
      record {
        told = λ t. some-is (seen folder).held (tells-at workers (map seen kept) w (seen folder) (true-is (all_tell workers (map seen kept)) t) (let n = count in omega (arith, l, n)) at);
        start = where-told (seen folder).held (slice_index_or (map (λ (s : FolderView). s.held) (map seen kept)) w None) (index-at (λ (s : FolderView). s.held) (map seen kept) w (seen folder) at);
      };
}

module _ {V : Type 0} (seen : V → FolderView) (workers : ℕ) (all kept others : List V) (is : kept ++ others ≡ all) (count : length kept ≡ workers) where
  -- where all told before, all of these do
  pub tells-same : all_tell workers (map seen kept) ≡ all_tell workers (map seen all)
  tells-same = ap (list_all tells) (sym (take-first (map seen kept) (map seen others) workers (length-map kept seen ∙ count)) ∙ ap (take workers) (sym (map-append seen kept others) ∙ ap (map seen) is))

  -- what is said of them afterwards is so of all
  module _ (later last : List V) (now : later ++ others ≡ last) (same : length later ≡ length kept) where
    abbrev pub lent : Spilling
    lent = record { before = map seen kept; after = map seen later }

    abbrev pub whole : Spilling
    whole = record { before = map seen all; after = map seen last }

    before-at : (w : ℕ) → w < workers → slice_get (map seen all) w ≡ slice_get (map seen kept) w
    before-at w l =
        let n = length-map kept seen in
        ap (λ (xs : List V). slice_get (map seen xs) w) (sym is) ∙ ap (λ (xs : List FolderView). slice_get xs w) (map-append seen kept others)
        ∙ left-at (map seen kept) (map seen others) w (omega (arith, l, n, count))

    after-at : (w : ℕ) → w < workers → slice_get (map seen last) w ≡ slice_get (map seen later) w
    after-at w l =
        let n = length-map later seen in
        ap (λ (xs : List V). slice_get (map seen xs) w) (sym now) ∙ ap (λ (xs : List FolderView). slice_get xs w) (map-append seen later others)
        ∙ left-at (map seen later) (map seen others) w (omega (arith, l, n, count, same))

    others-at : (w : ℕ) → workers ≤ w → slice_get (map seen last) w ≡ slice_get (map seen all) w
    others-at w l =
        let n = length-map later seen in let m = length-map kept seen in
        ap (λ (xs : List V). slice_get (map seen xs) w) (sym now) ∙ ap (λ (xs : List FolderView). slice_get xs w) (map-append seen later others)
        ∙ right-at (map seen later) (map seen kept) (map seen others) w (omega (arith, n, m, same)) (omega (arith, l, n, count, same))
        ∙ sym (ap (λ (xs : List V). slice_get (map seen xs) w) (sym is) ∙ ap (λ (xs : List FolderView). slice_get xs w) (map-append seen kept others))

    counts : length (map seen last) ≡ length (map seen all)
    counts =
        let n = length-map last seen in let m = length-map all seen in let a = length-append kept others in let b = length-append later others in
        let x = ap (λ (xs : List V). length xs) is in let y = ap (λ (xs : List V). length xs) now in omega (arith, n, m, a, b, x, y, same)

    few : workers ≤ length (map seen all)
    few = let m = length-map all seen in let a = length-append kept others in let x = ap (λ (xs : List V). length xs) is in omega (arith, m, a, x, count)

    pub ran-whole : (g : Given) (t : Traced) (texts : List (List ℕ)) → g.settings.workers ≡ workers → Ran g (all_tell workers (map seen kept)) lent t texts → Ran g (all_tell workers (map seen all)) whole t texts
    ran-whole g t texts own ran = record {
      end = ran.end;
      play = ran.play;
      settled = ran.settled;
      tries = ran.tries;
      spilled = record {
        worker = ran.spilled.worker;
        workers = ran.spilled.workers;
        folders = λ w old new l go gn. let k : w < workers = omega (arith, l, own) in ran.spilled.folders w old new l (sym (before-at w k) ∙ go) (sym (after-at w k) ∙ gn);
      };
      parts = ran.parts;
      blocking = λ told. ran.blocking (subst IsTrue (sym tells-same) told);
    }

    pub leaves-whole : OnlySpillsPut lent → NoneFailed lent → LeavesSpills workers whole
    leaves-whole only none = record {
      few = few;
      count = counts;
      own = λ w a b l ga gb. (only w a b (sym (before-at w l) ∙ ga) (sym (after-at w l) ∙ gb), none w a b (sym (before-at w l) ∙ ga) (sym (after-at w l) ∙ gb));
      others = others-at;
    }

    names : (f : Fault) → FaultNames workers f → NamesWorker workers (outcome_of f)
    names (fault.SpillFailed worker) h = h
    names (fault.SpillDamaged worker at kept found) h = h
    names (fault.SpillCollides worker at place) h = h
    names (fault.SpentAt split) h = tt
    names fault.FolderFailed h = tt
    names fault.NoMemory h = tt

    answers : (w : ℕ) (a b : FolderView) (f : Fault) → WorkerFaults w a b f → WorkerAnswers w a b (outcome_of f)
    answers w a b (fault.SpillFailed worker) h = h
    answers w a b (fault.SpillDamaged worker at kept found) h = h
    answers w a b (fault.SpillCollides worker at place) h = h
    answers w a b (fault.SpentAt split) h = h
    answers w a b fault.FolderFailed h = h
    answers w a b fault.NoMemory h = h

    pub stops-whole : (f : Fault) → OnlySpillsPut lent → Stopped workers lent f → RunLeaves workers whole (outcome_of f)
    stops-whole f only stopped = record {
      few = few;
      count = counts;
      named = names f stopped.named;
      own = λ w a b l ga gb. record {
        puts = only w a b (sym (before-at w l) ∙ ga) (sym (after-at w l) ∙ gb);
        answers = answers w a b f (stopped.each w a b (sym (before-at w l) ∙ ga) (sym (after-at w l) ∙ gb));
      };
      others = others-at;
    }

-- # Folders that nothing was done to

only-itself : (a : FolderView) → Rattle.hop_actors.specs.Spilled.OnlySpills a.held a.held
only-itself a = of a.held
  where
    of : (o : Option Files) → Rattle.hop_actors.specs.Spilled.OnlySpills o o
    of None = tt
    of (Some files) = (files, refl, λ name n. refl)

pub untouched : (workers : ℕ) (views : List FolderView) → workers ≤ length views → LeavesSpills workers (record { before = views; after = views })
untouched workers views l = record {
  few = l;
  count = refl;
  own = λ w a b k ga gb. let same : a ≡ b = same_Some a b (sym ga ∙ gb) in subst (λ (z : FolderView). Rattle.hop_actors.specs.Spilled.OnlySpills a.held z.held × Rattle.hop_replay.specs.Folders.SameCounts a z) same (only-itself a, record { gets = refl; puts = refl });
  others = λ w k. refl;
}

-- want of memory before the words were understood
pub nothing-left : (o : Option AskedOptions) (views : List FolderView) → ((options : AskedOptions) → o ≡ Some options → options.settings.workers ≤ length views)
    → SpillsLeft o (record { before = views; after = views }) outcome.NoMemory
nothing-left None views few = refl
nothing-left (Some options) views few = of options.command
  where
    left : LeavesSpills options.settings.workers (record { before = views; after = views })
    left = untouched options.settings.workers views (few options refl)

    leaves : RunLeaves options.settings.workers (record { before = views; after = views }) outcome.NoMemory
    leaves = record { few = left.few; count = left.count; named = tt; own = λ w a b l ga gb. let k = left.own w a b l ga gb in record { puts = k.0; answers = k.1 }; others = left.others }

    of : (c : Asked) → CommandLeaves c options.settings.workers (record { before = views; after = views }) outcome.NoMemory
    of (block job input) = refl
    of (run job input) = leaves
    of (replay job input) = leaves
    of (chain jobs input) = leaves
