-- What the job folder holds at the end of a run.
use Rattle.std.proofs.Common.{◌≡◌, ◌≢◌, ℕ, Bool, true, false, List, [], ◌∷◌, ◌++◌, Some, None, Option, is_some, inl, inr, refl, sym, ap, ◌∙◌, subst, arith}
use Rattle.std.specs.Prelude.{IfSome}
use Rattle.std.proofs.lemmas.Bool.{true≢false}
use Rattle.hop_actors.specs.Counting.{Counts, StoreCause, WriterCause}
use Rattle.hop_actors.specs.declared.fault.Fault.{Fault}
use Rattle.hop_actors.specs.declared.fault.Fault.TheVariants as fault
use Rattle.hop_base.specs.Files.{Files}
use Rattle.hop_base.specs.Meaning.{Meaning}
use Rattle.hop_base.specs.Run.{ScriptLines, RunSettings}
use Rattle.hop_ending.specs.Cuts.{ArePut}
use Rattle.hop_machine.specs.actors.ReducerTurns.{Writing}
use Rattle.hop_ports.specs.Views.{FolderView}
use Rattle.hop_settle.specs.Stops.{CrewStops, StoresStop}
use Rattle.hop_writer.specs.Puts.{HoldsPut, Puts}
use Rattle.hop_writer.specs.Snapshots.{AreThere, HoldsSnaps, Snapshot}
use Rattle.hop_replay.specs.Driven.{Traced}
use Rattle.hop_replay.specs.Folders.{SameCounts, counts_seen}
use Rattle.hop_replay.specs.Given.{Given}
use Rattle.hop_replay.specs.Snapshots.{JobFolderFaults, Snapped, SnappedUntil, Wrote, WroteUntil}

-- what it holds is what it held at the start
pub start-so : (start held : Option Files) → start ≡ held → IfSome held (λ files. start ≡ Some files)
start-so start None e = tt
start-so start (Some files) e = e

-- # No turn of a writer failed that put all

last-put : (n : ℕ) (earlier : List Writing) (last : Writing) → ArePut n (earlier ++ last ∷ []) → last.put ≡ true
last-put n [] last h = h.0
last-put n (x ∷ xs) last h = last-put n xs last h.2

none-failed : (later : List Meaning) (n : ℕ) (failed : Bool) (ws : List Writing) (snaps : List Snapshot) (there : Puts) → ArePut n ws → AreThere later n failed ws snaps there → failed ≡ false
none-failed later n false ws snaps there put h = refl
none-failed later n true ws snaps there put h = absurd (true≢false (sym (last-put n h.earlier h.last (subst (ArePut n) h.writings_are put)) ∙ h.not_put))

-- # Counts

same-seen : (a b : FolderView) → counts_seen b ≡ counts_seen a → SameCounts a b
same-seen a b e = record { gets = ap (λ (c : Counts). c.gets) e; puts = ap (λ (c : Counts). c.puts) e }

store-faults : (job : Meaning) (records : List (List ℕ)) (script : ScriptLines) (settings : RunSettings) (w : ℕ) (c d : Counts) (a b : FolderView) (f : Fault) → StoreCause job records script settings w c d f → SameCounts a b → JobFolderFaults a b f
store-faults job records script settings w c d a b (fault.SpentAt split) h e = e
store-faults job records script settings w c d a b fault.FolderFailed h e = absurd h
store-faults job records script settings w c d a b (fault.SpillFailed worker) h e = e
store-faults job records script settings w c d a b (fault.SpillDamaged worker at kept found) h e = e
store-faults job records script settings w c d a b (fault.SpillCollides worker at place) h e = e
store-faults job records script settings w c d a b fault.NoMemory h e = e

stores-faults : (job : Meaning) (records : List (List ℕ)) (script : ScriptLines) (settings : RunSettings) (cs ds : List Counts) (a b : FolderView) (f : Fault) → StoresStop job records script settings cs ds f → SameCounts a b → JobFolderFaults a b f
stores-faults job records script settings cs ds a b f (inl h) e = store-faults job records script settings h.worker h.before h.after a b f h.cause e
stores-faults job records script settings cs ds a b f (inr h) e = subst (λ (z : Fault). JobFolderFaults a b z) (sym h.0) e

writer-faults : (a b : FolderView) (f : Fault) → WriterCause (counts_seen a) (counts_seen b) f → JobFolderFaults a b f
writer-faults a b (fault.SpentAt split) h = absurd h
writer-faults a b fault.FolderFailed h = (h.gets, h.puts)
writer-faults a b (fault.SpillFailed worker) h = absurd h
writer-faults a b (fault.SpillDamaged worker at kept found) h = absurd h
writer-faults a b (fault.SpillCollides worker at place) h = absurd h
writer-faults a b fault.NoMemory h = same-seen a b h

crew-faults : (job : Meaning) (records : List (List ℕ)) (script : ScriptLines) (settings : RunSettings) (cs ds : List Counts) (a b : FolderView) (f : Fault) → CrewStops job records script settings cs ds (counts_seen a) (counts_seen b) f → JobFolderFaults a b f
crew-faults job records script settings cs ds a b f (inl h) = stores-faults job records script settings cs ds a b f h.0 (same-seen a b h.1)
crew-faults job records script settings cs ds a b f (inr h) = writer-faults a b f h.0

-- # Whether it tells

writer-tells : (a b : FolderView) (f : Fault) → WriterCause (counts_seen a) (counts_seen b) f → is_some b.held ≡ is_some a.held
writer-tells a b (fault.SpentAt split) h = absurd h
writer-tells a b fault.FolderFailed h = h.tells
writer-tells a b (fault.SpillFailed worker) h = absurd h
writer-tells a b (fault.SpillDamaged worker at kept found) h = absurd h
writer-tells a b (fault.SpillCollides worker at place) h = absurd h
writer-tells a b fault.NoMemory h = ap (λ (c : Counts). c.tells) h

crew-tells : (job : Meaning) (records : List (List ℕ)) (script : ScriptLines) (settings : RunSettings) (cs ds : List Counts) (a b : FolderView) (f : Fault) → CrewStops job records script settings cs ds (counts_seen a) (counts_seen b) f → is_some b.held ≡ is_some a.held
crew-tells job records script settings cs ds a b f (inl h) = ap (λ (c : Counts). c.tells) h.1
crew-tells job records script settings cs ds a b f (inr h) = writer-tells a b f h.0

-- # The job folder

none-put : (held : Option Files) → HoldsPut held held []
none-put None = tt
none-put (Some files) = refl

no-split : (split : ℕ) → fault.NoMemory ≢ fault.SpentAt split
no-split split e = cc

module _ (g : Given) (later : List Meaning) (tells : Bool) where
  -- where the run came to its end
  pub snapped-so : (t : Traced) (failed : Bool) (start : Option Files) (a b : FolderView) (ws : List Writing) → start ≡ a.held → HoldsSnaps g.job g.records g.settings later tells failed start b.held ws → counts_seen b ≡ counts_seen a
      → Wrote g t ws → Snapped g later tells t a b
  snapped-so t failed start a b ws same holds counts wrote =
      let well : failed ≡ false = none-failed later g.settings.reducers failed ws holds.snaps holds.there wrote.put holds.are_there in
      record {
        writings = ws;
        cuts = wrote.cuts;
        reached = wrote.reached;
        told = ap (λ (c : Counts). c.tells) counts;
        holds = subst (λ (k : Bool × Option Files). HoldsSnaps g.job g.records g.settings later tells k.0 k.1 b.held ws) (λ i. (well i, same i)) holds;
        counts = (ap (λ (c : Counts). c.gets) counts, ap (λ (c : Counts). c.puts) counts);
      }

  -- where it stopped
  pub until-so : (f : Fault) (failed : Bool) (start : Option Files) (a b : FolderView) (ws : List Writing) (cs ds : List Counts) → start ≡ a.held → HoldsSnaps g.job g.records g.settings later tells failed start b.held ws
      → CrewStops g.job g.records g.script g.settings cs ds (counts_seen a) (counts_seen b) f → WroteUntil g f ws → SnappedUntil g later tells f a b
  until-so f failed start a b ws cs ds same holds counts wrote = record {
    failed = failed;
    writings = ws;
    reached = wrote.reached;
    holds = subst (λ (o : Option Files). HoldsSnaps g.job g.records g.settings later tells failed o b.held ws) same holds;
    counts = crew-faults g.job g.records g.script g.settings cs ds a b f counts;
    told = crew-tells g.job g.records g.script g.settings cs ds a b f counts;
    spent = λ split e. let k = wrote.spent split e in (k.0, none-failed later g.settings.reducers failed ws holds.snaps holds.there k.1 holds.are_there);
  }

  -- where memory was wanting before the writer had a turn
  pub until-none : (a : FolderView) → SnappedUntil g later tells fault.NoMemory a a
  until-none a = record {
    failed = false;
    writings = [];
    reached = λ k d l. absurd (omega (arith, l));
    holds = record { snaps = []; are = tt; there = []; are_there = record { put = λ k d l. absurd (omega (arith, l)); there_are = refl }; held = none-put a.held };
    told = refl;
    counts = record { gets = refl; puts = refl };
    spent = λ split e. absurd (no-split split e);
  }
