-- What contracts see of a mapper, and the machine's mapper that it is.
use Rattle.std.specs.Prelude.{◌≡◌, ℕ, Bool, List, length, slice_index, is_some}
use Rattle.hop_base.specs.declared.settings.Settings.{Settings}
use Rattle.hop_base.specs.Meaning.{Meaning}
use Rattle.hop_base.specs.Run.{ScriptLines, RunSettings}
use Rattle.hop_ports.specs.Views.{FolderView}
use Rattle.hop_shelf.specs.Names.{rules_of}
use Rattle.hop_vault.specs.Rows.{kept_end}
use Rattle.hop_vault.specs.Vaults.{VaultValue}
use Rattle.hop_machine.specs.step.Steps.{Deeds, Verdicts}
use Rattle.hop_machine.specs.actors.MapperTurns.{Mapper}
use Rattle.hop_machine.specs.actors.MapperTurns as machine
use Rattle.hop_press.specs.Fits.{HeldFits}
use Rattle.hop_press.specs.Held.{LaneValue, said_lanes}
use Rattle.hop_actors.specs.Counting.{Counts}
use Rattle.hop_mapper.specs.declared.work.Running.{Running}
use Rattle.hop_mapper.specs.declared.work.Work.{Work}
use Rattle.hop_mapper.specs.declared.work.Work.TheVariants.{Runs, Retries, Free}

-- the settings as the name of a run has them
abbrev pub settings_of : Settings → RunSettings
settings_of s = record {
  reducers = s.reducers;
  split = s.split;
  spill = s.spill;
  workers = s.workers;
  attempts = s.attempts;
  lane = s.lane;
  mergers = s.mergers;
  threads = s.threads;
  backup = s.backup;
  tentative = s.tentative;
  marks = s.marks;
}

-- a mapper: its vault, what it holds for its lanes, and what it has to do
pub record MapperValue (V K : Type 0) : Type 0 where
  pub vault : VaultValue V
  pub held : List (LaneValue K)
  pub turns : ℕ
  pub work : Work
  pub dry : Bool
  pub place : ℕ
  pub begun : List ℕ
  pub ended : Bool
  pub failed : Bool

-- a running attempt, as the machine says it
abbrev pub running_of : Running → machine.Running
running_of run = record { split = run.split; attempt = run.attempt; done = run.done }

-- what it has to do, as the machine says it
abbrev pub work_of : Work → machine.Work
work_of (Runs run) = machine.Runs (running_of run)
work_of (Retries split) = machine.Retries split
work_of Free = machine.Free

-- the mapper of the machine that it is, in a run of these records, this script and these settings
abbrev pub mapper_of : List (List ℕ) → ScriptLines → RunSettings → {V K : Type 0} → MapperValue V K → Mapper
mapper_of records script settings m = record {
  number = m.vault.worker;
  rules = rules_of records script settings;
  backup = settings.backup;
  turns = m.turns;
  work = work_of m.work;
  dry = m.dry;
  place = m.place;
  held = said_lanes m.held;
  begun = λ i. slice_index m.begun i;
  kept = λ i a. kept_end m.vault.rows i a;
  ended = m.ended;
}

-- what contracts see of its folder
abbrev pub counts_of : {V : Type 0} → (V → FolderView) → VaultValue V → Counts
counts_of seen vault = record { tells = is_some (seen vault.folder).held; gets = (seen vault.folder).gets; puts = (seen vault.folder).puts }

-- what it holds can be sent over ends of this board
abbrev pub FitsBoard : Meaning → List (List ℕ) → RunSettings → Bool → {V K : Type 0} → (K → Verdicts) → (K → List ℕ) → MapperValue V K → Deeds → Type 0
FitsBoard job records settings tells knows board m d = HeldFits job records settings tells m.vault.rows knows board d.ends.board m.held

-- what it keeps and holds, and how many turns it took, is as before
pub record SameStore {V K : Type 0} (old new : MapperValue V K) : Type 0 where
  pub vault : new.vault ≡ old.vault
  pub held : new.held ≡ old.held
  pub failed : new.failed ≡ old.failed

-- all but its vault is as before, and that is of the same worker
pub record SameButVault {V K : Type 0} (old new : MapperValue V K) : Type 0 where
  pub rest : new ≡ record old { vault = new.vault }
  pub worker : new.vault.worker ≡ old.vault.worker

-- all but what it holds is as before, and it holds messages for as many lanes
pub record SameButHeld {V K : Type 0} (old new : MapperValue V K) : Type 0 where
  pub rest : new ≡ record old { held = new.held }
  pub lanes : length new.held ≡ length old.held
