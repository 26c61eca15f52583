-- What follows from the contract of the top call alone.
use Rattle.std.proofs.Common.{◌≡◌, ℕ, zero, suc, ◌≤◌, ◌<◌, ◌+◌, Bool, true, false, if◌then◌else◌, List, [], ◌∷◌, ◌++◌, ◌⊎◌, inl, inr, ⊎_elim, Option, None, Some, length, get_or, slice_index, is_some, is_none, refl, sym, ap, ◌∙◌, subst, arith}
use Rattle.std.specs.Prelude.{IsSome, find}
use Rattle.std.specs.Option.{IfSome, MatchOption, option_map}
use Rattle.std.specs.List.{AllByRecursion, slice_get, range_with_len}
use Rattle.std.specs.FinMap as map
use Rattle.std.proofs.lemmas.Option.{same_Some, slice_get-get_or}
use Rattle.hop_base.specs.Causes.{Rose}
use Rattle.hop_base.specs.Files.{Files}
use Rattle.hop_base.specs.Meaning.{Meaning}
use Rattle.hop_base.specs.Run.{ScriptLines, fails_at}
use Rattle.hop_event.specs.Failing.{IsDoomed, tries}
use Rattle.hop_ending.specs.Doomed.{IsDoomedSplit}
use Rattle.hop_ports.specs.Views.{FolderView, SinkView, appended}
use Rattle.hop_ports.specs.Causes.{IsLonger}
use Rattle.hop_replay.specs.Folders.{Spilling}
use Rattle.hop_replay.specs.Given.{Given, PlaysTo, setup_given}
use Rattle.hop_machine.specs.play.Play.{Machine, NoneLeft, Over, Place}
use Rattle.hop_machine.proofs.play.Plays.{Plays-one}
use Rattle.hop_words.specs.Options.{Asked, AskedOptions, block, chain, run, replay}
use Rattle.hop_top.specs.Complete.{PlayIsSpent, SomeDoomed}
use Rattle.hop_top.specs.Puts.{Puts, Work, with_files}
use Rattle.hop_top.specs.Reading.{AreReadable, FirstUnread, IsAbsent, IsLong, IsReadable, Wanted, bytes_of, reads_of}
use Rattle.hop_top.specs.Runs.{RunWorks}
use Rattle.hop_top.specs.Snaps.{SpentWith}
use Rattle.hop_top.specs.Spilling.{CommandLeaves, RunLeaves, SpillsLeft, all_tell}
use Rattle.hop_top.specs.Work.{Accepted, CommandSpends, CommandWorks, IsRun, Spends, Works, refusal_of, run_given}
use Rattle.hop_top.specs.Meets.{MeetsOptions, MeetsNothing}
use Rattle.hop_top.proofs.SpillLaws.{tells-at}
use Rattle.hop_top.specs.declared.outcome.Outcome.{Outcome}
use Rattle.hop_top.specs.declared.outcome.Outcome.TheVariants as outcome
use Rattle.hop_top.specs.declared.outcome.Refusal.TheVariants as refusal

-- where all are readable, the first unread one is none
none_unread : (R P S : Wanted → Type 0) (wanted : List Wanted) → AllByRecursion S wanted → ((w : Wanted) → S w → P w → ⊥) → FirstUnread R P wanted → ⊥
none_unread R P S [] all clash unread = unread
none_unread R P S (w ∷ wanted) all clash (inl p) = clash w all.0 p
none_unread R P S (w ∷ wanted) all clash (inr later) = none_unread R P S wanted all.1 clash later.1

absent_clash : (held : Option Files) (files : Files) (w : Wanted) (rise : Type 0) → held ≡ Some files → IsReadable files w → (rise → ⊥) → MatchOption held rise (λ fs. (map.get fs w.name ≡ None) ⊎ rise) → ⊥
absent_clash None files w rise e readable quiet absent = quiet absent
absent_clash (Some fs) files w rise e readable quiet (inl none) =
    let same : fs ≡ files = cc in
    let there : map.get fs w.name ≡ Some (bytes_of files w.name) = ap (λ f. map.get f w.name) same ∙ readable.present in
    cc
absent_clash (Some fs) files w rise e readable quiet (inr rose) = quiet rose

long_at : (o : Option (List ℕ)) (bytes : List ℕ) (most : ℕ) → o ≡ Some bytes → length bytes ≤ most → IsLonger most o → ⊥
long_at None bytes most e short long = long
long_at (Some b) bytes most e short long = let same : b ≡ bytes = cc in omega (arith, ap {B = ℕ} length same, long, short)

long_clash : (held : Option Files) (files : Files) (w : Wanted) (rise : Type 0) → held ≡ Some files → IsReadable files w → (rise → ⊥) → MatchOption held rise (λ fs. IsLonger w.most (map.get fs w.name)) → ⊥
long_clash None files w rise e readable quiet long = quiet long
long_clash (Some fs) files w rise e readable quiet long =
    let same : fs ≡ files = cc in
    long_at (map.get fs w.name) (bytes_of files w.name) w.most (ap (λ f. map.get f w.name) same ∙ readable.present) readable.short long

refused_clash : (held : Option Files) (files : Files) (options : AskedOptions) (answer : Outcome) → held ≡ Some files → Accepted options files
    → IfSome held (λ fs. AreReadable fs (reads_of options) × (refusal_of options fs ≡ Some answer)) → ⊥
refused_clash None files options answer e accepted refused = cc
refused_clash (Some fs) files options answer e accepted refused =
    let same : fs ≡ files = cc in
    let none : refusal_of options fs ≡ None = ap (refusal_of options) same ∙ accepted.unrefused in
    let some : refusal_of options fs ≡ Some answer = refused.1 in
    cc

-- words that ask for nothing are answered by Usage, or memory was wanting
pub nothing_asked : (old new : FolderView) (out_old out_new : SinkView) (s : Spilling) (answer : Outcome) → MeetsNothing old new out_old out_new s answer
    → (answer ≡ outcome.Usage) ⊎ (answer ≡ outcome.NoMemory)
nothing_asked old new out_old out_new s outcome.Usage meets = inl refl
nothing_asked old new out_old out_new s outcome.NoMemory meets = inr refl
nothing_asked old new out_old out_new s outcome.Done meets = absurd meets
nothing_asked old new out_old out_new s (outcome.InputFailed file) meets = absurd meets
nothing_asked old new out_old out_new s (outcome.InputRefused why) meets = absurd meets
nothing_asked old new out_old out_new s (outcome.ScriptRefused file line) meets = absurd meets
nothing_asked old new out_old out_new s (outcome.RetriesSpent split) meets = absurd meets
nothing_asked old new out_old out_new s outcome.FolderFailed meets = absurd meets
nothing_asked old new out_old out_new s (outcome.SpillFailed worker) meets = absurd meets
nothing_asked old new out_old out_new s (outcome.SpillDamaged worker at kept found) meets = absurd meets
nothing_asked old new out_old out_new s (outcome.SpillCollides worker at place) meets = absurd meets
nothing_asked old new out_old out_new s outcome.SayFailed meets = absurd meets

-- what a run needs for its end beside what was read: no spill folder stops it
pub record GoesOn (options : AskedOptions) (answer : Outcome) : Type 0 where
  pub unfailed : (w : ℕ) → answer ≡ outcome.SpillFailed w → IsRun options.command → ⊥
  pub undamaged : (w : ℕ) (at : _) (kept found : _) → answer ≡ outcome.SpillDamaged w at kept found → IsRun options.command → ⊥
  pub uncollided : (w : ℕ) (at : _) (place : ℕ) → answer ≡ outcome.SpillCollides w at place → IsRun options.command → ⊥

-- the answer of a run that goes on: it is done, a split is spent, or memory was wanting
pub data EndsSo (options : AskedOptions) (s : Spilling) (files : Files) (answer : Outcome) : Type 0 where
  done : answer ≡ outcome.Done → EndsSo options s files answer
  spent : (split : ℕ) (early : Puts) → Spends options s files split early → answer ≡ outcome.RetriesSpent split → EndsSo options s files answer
  wanting : answer ≡ outcome.NoMemory → EndsSo options s files answer

spends_at : (held : Option Files) (files : Files) (options : AskedOptions) (s : Spilling) (split : ℕ) (P : Puts → Type 0) → held ≡ Some files
    → IfSome held (λ fs. Accepted options fs × ((early : Puts) × Spends options s fs split early × P early)) → (early : Puts) × Spends options s files split early
spends_at None files options s split P e h = cc
spends_at (Some fs) files options s split P e h = let same : fs ≡ files = cc in (h.1.0, subst (λ f. Spends options s f split h.1.0) same h.1.1)

module _ (old new : FolderView) (out_old out_new : SinkView) (s : Spilling) (options : AskedOptions) (files : Files) (held : old.held ≡ Some files) where
  -- an input that is there is read, where no get failed
  pub no_input_fails : (answer : Outcome) → MeetsOptions old new out_old out_new s options answer → AreReadable files (reads_of options) → (Rose old.gets new.gets → ⊥)
      → (file : _) → answer ≡ outcome.InputFailed file → ⊥
  no_input_fails answer meets read quiet file e =
      let at = subst (MeetsOptions old new out_old out_new s options) e meets in
      none_unread _ (IsAbsent old new file) (IsReadable files) (reads_of options) read (λ w readable absent. absent_clash old.held files w (Rose old.gets new.gets) held readable quiet absent.1) at.0

  -- what is accepted is done or spent, where no count rose and memory is there
  pub complete : (answer : Outcome) → MeetsOptions old new out_old out_new s options answer → Accepted options files → GoesOn options answer
      → (Rose old.gets new.gets → ⊥) → (Rose old.puts new.puts → ⊥) → (Rose out_old.faults out_new.faults → ⊥) → EndsSo options s files answer
  complete outcome.Done meets accepted goes gets puts faults = done refl
  complete outcome.NoMemory meets accepted goes gets puts faults = wanting refl
  complete outcome.Usage meets accepted goes gets puts faults = absurd meets
  complete (outcome.InputFailed file) meets accepted goes gets puts faults = absurd (no_input_fails (outcome.InputFailed file) meets accepted.read gets file refl)
  complete (outcome.InputRefused (refusal.TooLong file)) meets accepted goes gets puts faults =
      absurd (none_unread _ (IsLong old new file) (IsReadable files) (reads_of options) accepted.read (λ w readable long. long_clash old.held files w (Rose old.gets new.gets) held readable gets long.1) meets.0)
  complete (outcome.InputRefused (refusal.RecordTooLong index)) meets accepted goes gets puts faults = absurd (refused_clash old.held files options _ held accepted meets.0)
  complete (outcome.InputRefused (refusal.TooManySplits count)) meets accepted goes gets puts faults = absurd (refused_clash old.held files options _ held accepted meets.0)
  complete (outcome.InputRefused (refusal.TooManySpills count)) meets accepted goes gets puts faults = absurd (refused_clash old.held files options _ held accepted meets.0)
  complete (outcome.ScriptRefused file line) meets accepted goes gets puts faults = absurd (refused_clash old.held files options _ held accepted meets.0)
  complete (outcome.RetriesSpent split) meets accepted goes gets puts faults =
      let at = spends_at old.held files options s split (λ early. new.held ≡ with_files old.held early) held meets.0 in spent split at.0 at.1 refl
  complete outcome.FolderFailed meets accepted goes gets puts faults = absurd (puts meets.0)
  complete (outcome.SpillFailed worker) meets accepted goes gets puts faults = absurd (goes.unfailed worker refl meets.runs)
  complete (outcome.SpillDamaged worker at kept found) meets accepted goes gets puts faults = absurd (goes.undamaged worker at kept found refl meets.0.runs)
  complete (outcome.SpillCollides worker at place) meets accepted goes gets puts faults = absurd (goes.uncollided worker at place refl meets.0.runs)
  complete outcome.SayFailed meets accepted goes gets puts faults = absurd (faults meets.0)

-- # What stands in a run's way

-- where some split is doomed, no number of tries is enough
none-found : (p : ℕ → Bool) (xs : List ℕ) → ((k : ℕ) (x : ℕ) → slice_get xs k ≡ Some x → p x ≡ false) → find p xs ≡ None
none-found p [] h = refl
none-found p (x ∷ xs) h = of (p x) (h zero x refl) (none-found p xs (λ k. h (suc k)))
  where
    of : (t : Bool) → t ≡ false → find p xs ≡ None → (if t then Some x else find p xs) ≡ None
    of false e rest = rest
    of true e rest = cc

no-tries : (script : ScriptLines) (attempts split : ℕ) → IsDoomed script attempts split → tries script attempts split ≡ None
no-tries script attempts split doomed = ap (option_map (λ a. a + 1)) (none-found (λ a. is_none (fails_at script split a)) (range_with_len 0 attempts)
    (λ k x e. of (fails_at script split x) (doomed x (let l = in-range attempts 0 k x e in omega (arith, l)))))
  where
    of : (o : Option ℕ) → IsSome o → is_none o ≡ false
    of None h = cc
    of (Some a) h = refl

    in-range : (n from k x : ℕ) → slice_get (range_with_len from n) k ≡ Some x → x < from + n
    in-range zero from k x e = cc
    in-range (suc n) from zero x e = let same : from ≡ x = same_Some from x e in omega (arith, same)
    in-range (suc n) from (suc k) x e = let l = in-range n (from + 1) k x e in omega (arith, l)

tried : (o : Option ℕ) (n : ℕ) → o ≡ None → o ≡ Some n → ⊥
tried o n e f = cc

module _ (options : AskedOptions) (s : Spilling) (answer : Outcome) (left : RunLeaves options.settings.workers s answer) (told : all_tell options.settings.workers s.before ≡ true)
    (quiet : (w : ℕ) (a b : FolderView) → slice_get s.before w ≡ Some a → slice_get s.after w ≡ Some b → (Rose a.gets b.gets → ⊥) × (Rose a.puts b.puts → ⊥)) where
  -- the folder of a worker, before and after
  abbrev At : ℕ → Type 0
  At w = (a : FolderView) × (b : FolderView) × (slice_get s.before w ≡ Some a) × (slice_get s.after w ≡ Some b)

  at : (w : ℕ) → w < options.settings.workers → At w
  at w l =
      let none : FolderView = record { held = None; gets = 0; puts = 0 } in let few = left.few in let count = left.count in (
        get_or s.before w none,
        get_or s.after w none,
        slice_get-get_or s.before w none (omega (arith, l, few)),
        slice_get-get_or s.after w none (omega (arith, l, few, count)),
      )

  silent : (o : Option Files) → is_some o ≡ true → o ≡ None → ⊥
  silent None t e = cc
  silent (Some files) t e = cc

  no-fail : (w : ℕ) → answer ≡ outcome.SpillFailed w → ⊥
  no-fail w is =
      let left' = subst (RunLeaves options.settings.workers s) is left in let f = at w left'.named in
      let rose = (left'.own w f.0 f.1 left'.named f.2 f.3).answers.0 refl in
      let q = quiet w f.0 f.1 f.2 f.3 in
      ⊎_elim (λ (h : (f.1.gets ≡ f.0.gets) × Rose f.0.puts f.1.puts). q.1 h.1) (λ (h : Rose f.0.gets f.1.gets × (f.1.puts ≡ f.0.puts)). q.0 h.0) rose

  no-damage : (w : ℕ) (part : _) (was found : _) → answer ≡ outcome.SpillDamaged w part was found → ⊥
  no-damage w part was found is =
      let left' = subst (RunLeaves options.settings.workers s) is left in let f = at w left'.named in
      silent f.0.held (tells-at options.settings.workers s.before w f.0 told left'.named f.2) ((left'.own w f.0 f.1 left'.named f.2 f.3).answers.1 refl).0

  no-collision : (w : ℕ) (part : _) (place : ℕ) → answer ≡ outcome.SpillCollides w part place → ⊥
  no-collision w part place is =
      let left' = subst (RunLeaves options.settings.workers s) is left in let f = at w left'.named in
      silent f.0.held (tells-at options.settings.workers s.before w f.0 told left'.named f.2) ((left'.own w f.0 f.1 left'.named f.2 f.3).answers.1 refl)

-- a command whose spill folders tell goes on, where no count rose
pub goes : (options : AskedOptions) (s : Spilling) (answer : Outcome) → SpillsLeft (Some options) s answer → all_tell options.settings.workers s.before ≡ true
    → ((w : ℕ) (a b : FolderView) → slice_get s.before w ≡ Some a → slice_get s.after w ≡ Some b → (Rose a.gets b.gets → ⊥) × (Rose a.puts b.puts → ⊥))
    → GoesOn options answer
goes options s answer left told quiet = of options.command refl
  where
    run-so : RunLeaves options.settings.workers s answer → GoesOn options answer
    run-so leaves = record {
      unfailed = λ w is runs. no-fail options s answer leaves told quiet w is;
      undamaged = λ w part was found is runs. no-damage options s answer leaves told quiet w part was found is;
      uncollided = λ w part place is runs. no-collision options s answer leaves told quiet w part place is;
    }

    of : (c : Asked) → options.command ≡ c → GoesOn options answer
    of (block job input) is = let none : IsRun options.command → ⊥ = λ h. subst IsRun is h in
        record { unfailed = λ w e runs. none runs; undamaged = λ w part was found e runs. none runs; uncollided = λ w part place e runs. none runs }
    of (run job input) is = run-so (subst (λ (c : Asked). CommandLeaves c options.settings.workers s answer) is left)
    of (replay job input) is = run-so (subst (λ (c : Asked). CommandLeaves c options.settings.workers s answer) is left)
    of (chain jobs input) is = run-so (subst (λ (c : Asked). CommandLeaves c options.settings.workers s answer) is left)

-- a split that was spent is doomed, and the play ends so
doomed-so : (g : Given) (later : List Meaning) (tells : Bool) (split : ℕ) (early : Puts) → SpentWith g later tells split early → IsDoomedSplit (setup_given g) split
doomed-so g later tells split early h = record { is_split = h.spent.is_split; doomed = h.spent.doomed }

pub spends-doomed : (options : AskedOptions) (s : Spilling) (files : Files) (split : ℕ) (early : Puts) → Spends options s files split early → SomeDoomed options.command options files
spends-doomed options s files split early spends = of options.command refl
  where
    of : (c : Asked) → options.command ≡ c → SomeDoomed options.command options files
    of (block job input) is = absurd (subst (λ (c : Asked). CommandSpends c options s files split early) is spends)
    of (run job input) is = subst (λ (c : Asked). SomeDoomed c options files) (sym is) (split, doomed-so (run_given options job input files) _ _ split early (subst (λ (c : Asked). CommandSpends c options s files split early) is spends))
    of (replay job input) is = subst (λ (c : Asked). SomeDoomed c options files) (sym is) (split, doomed-so (run_given options job input files) _ _ split early (subst (λ (c : Asked). CommandSpends c options s files split early) is spends))
    of (chain [] input) is = absurd (subst (λ (c : Asked). CommandSpends c options s files split early) is spends)
    of (chain (job ∷ later) input) is = subst (λ (c : Asked). SomeDoomed c options files) (sym is) (split, doomed-so (run_given options job input files) _ _ split early (subst (λ (c : Asked). CommandSpends c options s files split early) is spends))

-- # A play ends once

same-split : (i j : ℕ) (y z : Machine) → ◌≡◌ {A = Place × Machine} (NoneLeft i, y) (NoneLeft j, z) → i ≡ j
same-split i j y z e = let p : NoneLeft i ≡ NoneLeft j = ap (λ (r : Place × Machine). r.0) e in cc

never-over : (i : ℕ) (y z : Machine) → ◌≡◌ {A = Place × Machine} (Over, y) (NoneLeft i, z) → ⊥
never-over i y z e = let p : Over ≡ NoneLeft i = ap (λ (r : Place × Machine). r.0) e in cc

play-one : (g : Given) (a b : Place × Machine) → PlaysTo g a.0 a.1 → PlaysTo g b.0 b.1 → a ≡ b
play-one g a b p q = (Plays-one (setup_given g) g.settings.backup _ a b p q).1

-- where the play of a command's turn list ends so, another split isn't spent, and no work is done
pub spends-it : (options : AskedOptions) (s : Spilling) (files : Files) (split other : ℕ) (early : Puts) → PlayIsSpent options.command options files split → Spends options s files other early → other ≡ split
spends-it options s files split other early plays spends = of options.command refl
  where
    at : (g : Given) → (end : Machine) × PlaysTo g (NoneLeft split) end → (later : List Meaning) (tells : Bool) → SpentWith g later tells other early → other ≡ split
    at g p later tells h = same-split other split h.spent.end p.0 (play-one g (NoneLeft other, h.spent.end) (NoneLeft split, p.0) h.spent.play p.1)

    of : (c : Asked) → options.command ≡ c → other ≡ split
    of (block job input) is = absurd (subst (λ (c : Asked). CommandSpends c options s files other early) is spends)
    of (run job input) is = at (run_given options job input files) (subst (λ (c : Asked). PlayIsSpent c options files split) is plays) _ _ (subst (λ (c : Asked). CommandSpends c options s files other early) is spends)
    of (replay job input) is = at (run_given options job input files) (subst (λ (c : Asked). PlayIsSpent c options files split) is plays) _ _ (subst (λ (c : Asked). CommandSpends c options s files other early) is spends)
    of (chain [] input) is = absurd (subst (λ (c : Asked). CommandSpends c options s files other early) is spends)
    of (chain (job ∷ later) input) is = at (run_given options job input files) (subst (λ (c : Asked). PlayIsSpent c options files split) is plays) _ _ (subst (λ (c : Asked). CommandSpends c options s files other early) is spends)

-- # What is never done

-- a run with a doomed split has no work
no-work : (g : Given) (later : List Meaning) (s : Spilling) (work : Work) (split : ℕ) → IsDoomedSplit (setup_given g) split → RunWorks g later s work → ⊥
no-work g later s work split doomed works =
    tried (tries g.script g.settings.attempts split) (slice_index works.t.begun split) (no-tries g.script g.settings.attempts split doomed.doomed) (works.reported.ran.tries split doomed.is_split)

no-works : (options : AskedOptions) (s : Spilling) (files : Files) (work : Work) → SomeDoomed options.command options files → Works options s files work → ⊥
no-works options s files work doomed works = of options.command refl
  where
    of : (c : Asked) → options.command ≡ c → ⊥
    of (block job input) is = subst (λ (c : Asked). SomeDoomed c options files) is doomed
    of (run job input) is = let d = subst (λ (c : Asked). SomeDoomed c options files) is doomed in
        no-work (run_given options job input files) _ s work d.0 d.1 (subst (λ (c : Asked). CommandWorks c options s files work) is works)
    of (replay job input) is = let d = subst (λ (c : Asked). SomeDoomed c options files) is doomed in
        no-work (run_given options job input files) _ s work d.0 d.1 (subst (λ (c : Asked). CommandWorks c options s files work) is works)
    of (chain [] input) is = subst (λ (c : Asked). SomeDoomed c options files) is doomed
    of (chain (job ∷ later) input) is = let d = subst (λ (c : Asked). SomeDoomed c options files) is doomed in
        no-work (run_given options job input files) _ s work d.0 d.1 (subst (λ (c : Asked). CommandWorks c options s files work) is works)

finished-at : (held : Option Files) (files : Files) (options : AskedOptions) (s : Spilling) (P : Work → Type 0) → held ≡ Some files
    → IfSome held (λ fs. Accepted options fs × ((work : Work) × Works options s fs work × P work)) → (work : Work) × Works options s files work
finished-at None files options s P e h = cc
finished-at (Some fs) files options s P e h = let same : fs ≡ files = same_Some fs files e in (h.1.0, subst (λ (f : Files). Works options s f h.1.0) same h.1.1)

pub never-done : (old new : FolderView) (out_old out_new : SinkView) (s : Spilling) (options : AskedOptions) (files : Files) (answer : Outcome) → old.held ≡ Some files
    → MeetsOptions old new out_old out_new s options answer → SomeDoomed options.command options files → answer ≡ outcome.Done → ⊥
never-done old new out_old out_new s options files answer held meets doomed is =
    let finished = subst (MeetsOptions old new out_old out_new s options) is meets in
    let w = finished-at old.held files options s (λ work. (new.held ≡ with_files old.held (work.early ++ work.files)) × (out_new.taken ≡ appended out_old.taken work.summary)) held finished in
    no-works options s files w.0 doomed w.1

-- a work has a play that came to its end
no-spent-work : (g : Given) (later : List Meaning) (s : Spilling) (work : Work) (split : ℕ) → (end : Machine) × PlaysTo g (NoneLeft split) end → RunWorks g later s work → ⊥
no-spent-work g later s work split p works = never-over split works.reported.ran.end p.0 (play-one g (Over, works.reported.ran.end) (NoneLeft split, p.0) works.reported.ran.play.played p.1)

no-spent-works : (options : AskedOptions) (s : Spilling) (files : Files) (work : Work) (split : ℕ) → PlayIsSpent options.command options files split → Works options s files work → ⊥
no-spent-works options s files work split plays works = of options.command refl
  where
    of : (c : Asked) → options.command ≡ c → ⊥
    of (block job input) is = subst (λ (c : Asked). PlayIsSpent c options files split) is plays
    of (run job input) is = no-spent-work (run_given options job input files) _ s work split (subst (λ (c : Asked). PlayIsSpent c options files split) is plays) (subst (λ (c : Asked). CommandWorks c options s files work) is works)
    of (replay job input) is = no-spent-work (run_given options job input files) _ s work split (subst (λ (c : Asked). PlayIsSpent c options files split) is plays) (subst (λ (c : Asked). CommandWorks c options s files work) is works)
    of (chain [] input) is = subst (λ (c : Asked). PlayIsSpent c options files split) is plays
    of (chain (job ∷ later) input) is = no-spent-work (run_given options job input files) _ s work split (subst (λ (c : Asked). PlayIsSpent c options files split) is plays) (subst (λ (c : Asked). CommandWorks c options s files work) is works)

pub never-spent : (old new : FolderView) (out_old out_new : SinkView) (s : Spilling) (options : AskedOptions) (files : Files) (split : ℕ) (answer : Outcome) → old.held ≡ Some files
    → MeetsOptions old new out_old out_new s options answer → PlayIsSpent options.command options files split → answer ≡ outcome.Done → ⊥
never-spent old new out_old out_new s options files split answer held meets plays is =
    let finished = subst (MeetsOptions old new out_old out_new s options) is meets in
    let w = finished-at old.held files options s (λ work. (new.held ≡ with_files old.held (work.early ++ work.files)) × (out_new.taken ≡ appended out_old.taken work.summary)) held finished in
    no-spent-works options s files w.0 split plays w.1

-- # The two clauses

pub done-so : (options : AskedOptions) (s : Spilling) (files : Files) (answer : Outcome) → (SomeDoomed options.command options files → ⊥) → EndsSo options s files answer → (answer ≡ outcome.Done) ⊎ (answer ≡ outcome.NoMemory)
done-so options s files answer undoomed (done e) = inl e
done-so options s files answer undoomed (spent split early spends e) = absurd (undoomed (spends-doomed options s files split early spends))
done-so options s files answer undoomed (wanting e) = inr e

pub spent-so : (options : AskedOptions) (s : Spilling) (files : Files) (split : ℕ) (answer : Outcome) → PlayIsSpent options.command options files split → (answer ≡ outcome.Done → ⊥) → EndsSo options s files answer
    → (answer ≡ outcome.RetriesSpent split) ⊎ (answer ≡ outcome.NoMemory)
spent-so options s files split answer plays never (done e) = absurd (never e)
spent-so options s files split answer plays never (spent other early spends e) = inl (e ∙ ap outcome.RetriesSpent (spends-it options s files split other early plays spends))
spent-so options s files split answer plays never (wanting e) = inr e
