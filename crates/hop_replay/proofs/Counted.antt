-- The spill folders of a run, by worker.
use Rattle.std.proofs.Common.{◌≡◌, ◌≢◌, ◌⊎◌, inl, inr, ⊎_elim, ℕ, zero, suc, ◌≤◌, ◌<◌, false, List, [], ◌∷◌, length, map, Some, None, Option, slice_set, is_some, refl, sym, ap, ◌∙◌, subst, arith}
use Rattle.std.specs.List.{slice_get}
use Rattle.std.proofs.lemmas.Bool.{true≢false}
use Rattle.std.proofs.lemmas.List.{length-map}
use Rattle.std.proofs.lemmas.Option.{same_Some, slice_get_within}
use Rattle.hop_base.specs.Files.{Files}
use Rattle.hop_base.specs.Meaning.{Meaning}
use Rattle.hop_base.specs.Run.{ScriptLines, RunSettings}
use Rattle.hop_ports.specs.Views.{FolderView}
use Rattle.hop_actors.specs.Counting.{Counts, PutFailed, GetFailed, StoreCause, WriterCause}
use Rattle.hop_actors.specs.declared.fault.Fault.{Fault}
use Rattle.hop_actors.specs.declared.fault.Fault.TheVariants as fault
use Rattle.hop_machine.proofs.ending.Winners.{less_or_not}
use Rattle.hop_settle.specs.Stops.{CrewStops, StoresStop}
use Rattle.hop_settle.proofs.Lists.{map-at}
use Rattle.hop_replay.specs.Folders.{counts_seen, SameCounts, CountRose, WorkerFaults, NamesWorker, NoneFailed, Stopped}

-- # Lists

module _ {A : Type 0} where
  -- what was set at a place stands there
  pub set-here : (xs : List A) (i : ℕ) (a x : A) → slice_get xs i ≡ Some x → slice_get (slice_set xs i a) i ≡ Some a
  set-here [] i a x e = cc
  set-here (y ∷ ys) zero a x e = refl
  set-here (y ∷ ys) (suc i) a x e = set-here ys i a x e

  -- and what stands at the others is as before
  pub set-else : (xs : List A) (i j : ℕ) (a : A) → j ≢ i → slice_get (slice_set xs i a) j ≡ slice_get xs j
  set-else [] i j a n = refl
  set-else (y ∷ ys) zero zero a n = absurd (n refl)
  set-else (y ∷ ys) zero (suc j) a n = refl
  set-else (y ∷ ys) (suc i) zero a n = refl
  set-else (y ∷ ys) (suc i) (suc j) a n = set-else ys i j a (λ e. n (ap suc e))

pub same-or-not : (v w : ℕ) → (v ≡ w) ⊎ (v ≢ w)
same-or-not v w =
    ⊎_elim (λ (l : v < w). inr (λ (e : v ≡ w). omega (arith, l, e))) (λ (l : w ≤ v).
    ⊎_elim (λ (k : w < v). inr (λ (e : v ≡ w). omega (arith, k, e))) (λ (k : v ≤ w). inl (omega (arith, l, k))) (less_or_not w v)) (less_or_not v w)

-- # Counts

same-counts : (a b : FolderView) → counts_seen b ≡ counts_seen a → SameCounts a b
same-counts a b e = record { gets = ap (λ (c : Counts). c.gets) e; puts = ap (λ (c : Counts). c.puts) e }

-- no count rose
pub none-failed : (before after : List FolderView) → map counts_seen after ≡ map counts_seen before → NoneFailed (record { before = before; after = after })
none-failed before after e = λ w a b ga gb.
    same-counts a b (same_Some (counts_seen b) (counts_seen a) (sym (map-at counts_seen after w b gb) ∙ ap (λ (l : List Counts). slice_get l w) e ∙ map-at counts_seen before w a ga))

-- where the worker's own call failed
rose : (a b : FolderView) → PutFailed (counts_seen a) (counts_seen b) ⊎ GetFailed (counts_seen a) (counts_seen b) → CountRose a b
rose a b (inl h) = inl (h.gets, h.puts)
rose a b (inr h) = inr (h.gets, h.puts)

tells-not : (o : Option Files) → is_some o ≡ false → o ≡ None
tells-not None e = refl
tells-not (Some x) e = absurd (true≢false e)

at-worker : (job : Meaning) (records : List (List ℕ)) (script : ScriptLines) (settings : RunSettings) (w : ℕ) (a b : FolderView) (f : Fault) → StoreCause job records script settings w (counts_seen a) (counts_seen b) f → WorkerFaults w a b f
at-worker job records script settings w a b (fault.SpentAt split) h = same-counts a b h
at-worker job records script settings w a b fault.FolderFailed h = absurd h
at-worker job records script settings w a b (fault.SpillFailed worker) h = (λ e. rose a b h.1, λ n. absurd (n h.0))
at-worker job records script settings w a b (fault.SpillDamaged worker at kept found) h = (same-counts a b h.3, λ e. (tells-not a.held h.1, h.2))
at-worker job records script settings w a b (fault.SpillCollides worker at place) h = (same-counts a b h.2, λ e. tells-not a.held h.1)
at-worker job records script settings w a b fault.NoMemory h = same-counts a b h

-- where another worker's did
at-others : (job : Meaning) (records : List (List ℕ)) (script : ScriptLines) (settings : RunSettings) (w v : ℕ) (a b : FolderView) (x y : Counts) (f : Fault) → StoreCause job records script settings v x y f → w ≢ v → counts_seen b ≡ counts_seen a → WorkerFaults w a b f
at-others job records script settings w v a b x y (fault.SpentAt split) h n e = same-counts a b e
at-others job records script settings w v a b x y fault.FolderFailed h n e = absurd h
at-others job records script settings w v a b x y (fault.SpillFailed worker) h n e = (λ k. absurd (n (sym k ∙ h.0)), λ k. same-counts a b e)
at-others job records script settings w v a b x y (fault.SpillDamaged worker at kept found) h n e = (same-counts a b e, λ k. absurd (n (sym k ∙ h.0)))
at-others job records script settings w v a b x y (fault.SpillCollides worker at place) h n e = (same-counts a b e, λ k. absurd (n (sym k ∙ h.0)))
at-others job records script settings w v a b x y fault.NoMemory h n e = same-counts a b e

names : (job : Meaning) (records : List (List ℕ)) (script : ScriptLines) (settings : RunSettings) (workers v : ℕ) (x y : Counts) (f : Fault) → StoreCause job records script settings v x y f → v < workers → NamesWorker workers f
names job records script settings workers v x y (fault.SpentAt split) h l = tt
names job records script settings workers v x y fault.FolderFailed h l = absurd h
names job records script settings workers v x y (fault.SpillFailed worker) h l = let e = h.0 in omega (arith, e, l)
names job records script settings workers v x y (fault.SpillDamaged worker at kept found) h l = let e = h.0 in omega (arith, e, l)
names job records script settings workers v x y (fault.SpillCollides worker at place) h l = let e = h.0 in omega (arith, e, l)
names job records script settings workers v x y fault.NoMemory h l = tt

-- where the writer's did, or memory was wanting
names-writer : (workers : ℕ) (x y : Counts) (f : Fault) → WriterCause x y f → NamesWorker workers f
names-writer workers x y (fault.SpentAt split) h = absurd h
names-writer workers x y fault.FolderFailed h = tt
names-writer workers x y (fault.SpillFailed worker) h = absurd h
names-writer workers x y (fault.SpillDamaged worker at kept found) h = absurd h
names-writer workers x y (fault.SpillCollides worker at place) h = absurd h
names-writer workers x y fault.NoMemory h = tt

at-writer : (w : ℕ) (a b : FolderView) (x y : Counts) (f : Fault) → WriterCause x y f → SameCounts a b → WorkerFaults w a b f
at-writer w a b x y (fault.SpentAt split) h e = absurd h
at-writer w a b x y fault.FolderFailed h e = e
at-writer w a b x y (fault.SpillFailed worker) h e = absurd h
at-writer w a b x y (fault.SpillDamaged worker at kept found) h e = absurd h
at-writer w a b x y (fault.SpillCollides worker at place) h e = absurd h
at-writer w a b x y fault.NoMemory h e = e

module _ (job : Meaning) (records : List (List ℕ)) (script : ScriptLines) (settings : RunSettings) (workers : ℕ) (before after : List FolderView) where
  -- where memory was wanting
  stopped-early : map counts_seen after ≡ map counts_seen before → (f : Fault) → f ≡ fault.NoMemory → Stopped workers (record { before = before; after = after }) f
  stopped-early e f is =
      subst (λ (z : Fault). Stopped workers (record { before = before; after = after }) z) (sym is)
      (record { named = tt; each = λ w a b ga gb. none-failed before after e w a b ga gb })

  -- a run stops where a mapper did, or where memory was wanting
  stopped-then : length before ≡ workers → (f : Fault) → StoresStop job records script settings (map counts_seen before) (map counts_seen after) f → Stopped workers (record { before = before; after = after }) f
  stopped-then count f (inr h) = stopped-early h.1 f h.0
  stopped-then count f (inl h) = record {
    named = names job records script settings workers h.worker h.before h.after f h.cause (let l = slice_get_within (map counts_seen before) h.worker h.before h.here in omega (arith, l, count, length-map before counts_seen));
    each = λ w a b ga gb.
        let now = sym (map-at counts_seen after w b gb) ∙ ap (λ (l : List Counts). slice_get l w) h.now in
        ⊎_elim (λ (s : w ≡ h.worker).
        let here : slice_get (map counts_seen before) w ≡ Some h.before = ap (slice_get (map counts_seen before)) s ∙ h.here in
        let is_a : h.before ≡ counts_seen a = same_Some h.before (counts_seen a) (sym here ∙ map-at counts_seen before w a ga) in
        let is_b : h.after ≡ counts_seen b = same_Some h.after (counts_seen b) (sym (set-here (map counts_seen before) h.worker h.after h.before h.here) ∙ ap (slice_get (slice_set (map counts_seen before) h.worker h.after)) (sym s) ∙ sym now) in
        at-worker job records script settings w a b f (subst (λ (z : ℕ × Counts × Counts). StoreCause job records script settings z.0 z.1 z.2 f) (λ i. (sym s i, is_a i, is_b i)) h.cause))
        (λ (n : w ≢ h.worker).
        at-others job records script settings w h.worker a b h.before h.after f h.cause n (same_Some (counts_seen b) (counts_seen a) (now ∙ set-else (map counts_seen before) h.worker w h.after n ∙ map-at counts_seen before w a ga)))
        (same-or-not w h.worker);
  }

  -- or where the writer did
  pub crew-stopped : length before ≡ workers → (f : Fault) (x y : Counts) → CrewStops job records script settings (map counts_seen before) (map counts_seen after) x y f → Stopped workers (record { before = before; after = after }) f
  crew-stopped count f x y (inl h) = stopped-then count f h.0
  crew-stopped count f x y (inr h) = record { named = names-writer workers x y f h.0; each = λ w a b ga gb. at-writer w a b x y f h.0 (none-failed before after h.1 w a b ga gb) }
