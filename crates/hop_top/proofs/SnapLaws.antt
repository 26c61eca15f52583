-- From what a run's writer left in the job folder to the snapshots that were put.
use Rattle.std.proofs.Common.{◌≡◌, ◌<◌, ℕ, Bool, true, false, List, [], ◌∷◌, Option, None, Some, is_some, refl, sym, ◌∙◌, length, le_refl}
use Rattle.std.proofs.lemmas.List.{take_all}
use Rattle.std.proofs.lemmas.List.Elements.{All-nil}
use Rattle.hop_base.specs.Files.{Files}
use Rattle.hop_base.specs.Meaning.{Meaning}
use Rattle.hop_ports.specs.Views.{FolderView}
use Rattle.hop_machine.specs.actors.ReducerTurns.{Writing}
use Rattle.hop_ending.specs.Reached.{IsReached, WroteReached}
use Rattle.hop_actors.specs.declared.fault.Fault.{Fault}
use Rattle.hop_actors.specs.declared.fault.Fault.TheVariants as fault
use Rattle.hop_writer.specs.Puts.{HoldsPut}
use Rattle.hop_writer.specs.Snapshots.{AreSnapshots, AreThere, Snapshot, files_of}
use Rattle.hop_replay.specs.Driven.{Traced}
use Rattle.hop_replay.specs.Given.{Given, setup_given}
use Rattle.hop_replay.specs.Named.{NamesIts}
use Rattle.hop_replay.specs.Snapshots.{JobFolderFaults, Snapped, SnappedUntil}
use Rattle.hop_top.specs.Ends.{JobAnswers, RunFails, RunSnaps, RunStops}
use Rattle.hop_top.specs.Puts.{Puts, with_files}
use Rattle.hop_top.specs.Snaps.{MaySnap, SpentWith}
use Rattle.hop_top.specs.Stops.{outcome_of}
use Rattle.hop_top.specs.declared.outcome.Outcome.TheVariants as outcome

-- # What the folder holds

none-told : (files : Puts) → with_files None files ≡ None
none-told [] = refl
none-told (file ∷ files) = none-told files

-- a folder that tells before and after, or never, holds what it held with what was put
pub held-so : (a b : Option Files) (put : Puts) → is_some b ≡ is_some a → HoldsPut a b put → b ≡ with_files a put
held-so None None put t h = sym (none-told put)
held-so None (Some now) put t h = cc
held-so (Some was) None put t h = cc
held-so (Some was) (Some now) put t h = sym h

-- # The files that may be put

module _ (g : Given) (later : List Meaning) (tells : Bool) where
  -- a cut of a mark that was reached, of a reducer of the run
  abbrev OfMark : Writing → Type 0
  OfMark w = (w.reducer < (setup_given g).reducers) × IsReached (setup_given g) w.cut

  abbrev all-files : List Snapshot → Puts
  all-files snaps = files_of later g.settings.reducers snaps

  -- the files that are there are the first ones of all
  may-snap : (failed : Bool) (writings : List Writing) (snaps : List Snapshot) (there : Puts) → WroteReached (setup_given g) writings → AreSnapshots g.job g.records g.settings tells writings snaps
      → AreThere later g.settings.reducers failed writings snaps there → MaySnap g later tells there
  may-snap false writings snaps there reached are is = record {
    writings = writings;
    reached = reached;
    files = all-files snaps;
    are = record { snaps = snaps; are = are; files_are = refl };
    count = length (all-files snaps);
    first = is.there_are ∙ sym (take_all (length (all-files snaps)) (all-files snaps) (le_refl _));
  }
  may-snap true writings snaps there reached are is = record {
    writings = writings;
    reached = reached;
    files = all-files snaps;
    are = record { snaps = snaps; are = are; files_are = refl };
    count = is.count;
    first = is.there_are;
  }

  -- # At the end of a run

  pub snaps-so : (t : Traced) (a b : FolderView) → Snapped g later tells t a b → RunSnaps g later tells t a b
  snaps-so t a b h = record {
    early = h.holds.there;
    may = may-snap false h.writings h.holds.snaps h.holds.there h.reached h.holds.are h.holds.are_there;
    are = record { writings = h.writings; cuts = h.cuts; files = record { snaps = h.holds.snaps; are = h.holds.are; files_are = h.holds.are_there.there_are } };
    held = held-so a.held b.held h.holds.there h.told h.holds.held;
    counts = record { gets = h.counts.0; puts = h.counts.1 };
  }

  -- # Where it stopped

  all-there : (failed : Bool) (writings : List Writing) (snaps : List Snapshot) (there : Puts) → failed ≡ false → AreThere later g.settings.reducers failed writings snaps there → there ≡ all-files snaps
  all-there false writings snaps there e are = are.there_are
  all-there true writings snaps there e are = cc

  counts-so : (a b : FolderView) (f : Fault) → JobFolderFaults a b f → JobAnswers a b (outcome_of f)
  counts-so a b (fault.SpentAt split) h = h
  counts-so a b fault.FolderFailed h = h
  counts-so a b (fault.SpillFailed worker) h = h
  counts-so a b (fault.SpillDamaged worker at kept found) h = h
  counts-so a b (fault.SpillCollides worker at place) h = h
  counts-so a b fault.NoMemory h = h

  stops-so : (f : Fault) (early : Puts) → ((split : ℕ) → f ≡ fault.SpentAt split → SpentWith g later tells split early) → NamesIts g f → RunStops g later tells early (outcome_of f)
  stops-so (fault.SpentAt split) early spent named = spent split refl
  stops-so fault.FolderFailed early spent named = tt
  stops-so (fault.SpillFailed worker) early spent named = tt
  stops-so (fault.SpillDamaged worker at kept found) early spent named = named
  stops-so (fault.SpillCollides worker at place) early spent named = named
  stops-so fault.NoMemory early spent named = tt

  pub fails-so : (f : Fault) (a b : FolderView) → SnappedUntil g later tells f a b → NamesIts g f → RunFails g later tells a b (outcome_of f)
  fails-so f a b h named = record {
    early = h.holds.there;
    may = may-snap h.failed h.writings h.holds.snaps h.holds.there h.reached h.holds.are h.holds.are_there;
    held = held-so a.held b.held h.holds.there h.told h.holds.held;
    counts = counts-so a b f h.counts;
    why = stops-so f h.holds.there (λ split is.
        let spent = h.spent split is in
        record {
          writings = h.writings;
          spent = spent.0;
          files = record { snaps = h.holds.snaps; are = h.holds.are; files_are = all-there h.failed h.writings h.holds.snaps h.holds.there spent.1 h.holds.are_there };
        }) named;
  }

  -- nothing was put
  pub fails-unput : (a : FolderView) → RunFails g later tells a a outcome.NoMemory
  fails-unput a = record {
    early = [];
    may = record { writings = []; reached = All-nil OfMark; files = []; are = record { snaps = []; are = tt; files_are = refl }; count = 0; first = refl };
    held = refl;
    counts = record { gets = refl; puts = refl };
    why = tt;
  }
