-- An actor's folder: whether it tells what it holds, its counts of faults, and why a turn fails.
use Rattle.std.specs.Prelude.{◌≡◌, ◌≢◌, ◌⊎◌, ℕ, Bool, true, false, List}
use Rattle.hop_base.specs.Causes.{Rose}
use Rattle.hop_base.specs.Meaning.{Meaning}
use Rattle.hop_base.specs.Run.{ScriptLines, RunSettings}
use Rattle.hop_actors.specs.declared.turn.Turn.{Turn}
use Rattle.hop_actors.specs.declared.turn.Turn.TheVariants as answer
use Rattle.hop_actors.specs.declared.fault.Fault.{Fault}
use Rattle.hop_actors.specs.declared.fault.Fault.TheVariants as fault
use Rattle.hop_actors.specs.Acting.{Acting, Maps, Reduces, Writes, Merges}
use Rattle.hop_actors.specs.Named.{NamesSpill, NamesText}

-- what contracts see of the folder of an actor; one that has none tells, and has no faults
pub record Counts : Type 0 where
  pub tells : Bool
  pub gets : ℕ
  pub puts : ℕ

-- an actor without a folder
abbrev pub no_folder : Counts
no_folder = record { tells = true; gets = 0; puts = 0 }

-- a put failed, and no get
pub record PutFailed (a b : Counts) : Type 0 where
  pub tells : b.tells ≡ a.tells
  pub gets : b.gets ≡ a.gets
  pub puts : Rose a.puts b.puts

-- a get failed, and no put
pub record GetFailed (a b : Counts) : Type 0 where
  pub tells : b.tells ≡ a.tells
  pub gets : Rose a.gets b.gets
  pub puts : b.puts ≡ a.puts

-- a reducer and a merger fail for want of memory alone
abbrev pub MemoryCause : Counts → Counts → Fault → Type 0
MemoryCause a b fault.NoMemory = b ≡ a
MemoryCause a b f = ⊥

-- the writer also where a put of its folder failed
abbrev pub WriterCause : Counts → Counts → Fault → Type 0
WriterCause a b fault.FolderFailed = PutFailed a b
WriterCause a b fault.NoMemory = b ≡ a
WriterCause a b f = ⊥

module _ (job : Meaning) (records : List (List ℕ)) (script : ScriptLines) (settings : RunSettings) where
  -- Why a call of a mapper's failed: a count rose only where the answer says so, and what was read back differs from what was put only where its
  -- folder doesn't tell. The spill that is named then is one of the run, and the digest that was kept is that of its text.
  abbrev pub StoreCause : ℕ → Counts → Counts → Fault → Type 0
  StoreCause w a b (fault.SpentAt split) = b ≡ a
  StoreCause w a b fault.FolderFailed = ⊥
  StoreCause w a b (fault.SpillFailed worker) = (worker ≡ w) × (PutFailed a b ⊎ GetFailed a b)
  StoreCause w a b (fault.SpillDamaged worker at kept found) = (worker ≡ w) × (a.tells ≡ false) × (found ≢ kept) × (b ≡ a) × NamesText job records script settings at kept
  StoreCause w a b (fault.SpillCollides worker at place) = (worker ≡ w) × (a.tells ≡ false) × (b ≡ a) × NamesSpill job records script settings at
  StoreCause w a b fault.NoMemory = b ≡ a

  -- why a turn failed, by the actor's kind
  abbrev pub FaultCause : Acting → Counts → Counts → Fault → Type 0
  FaultCause (Maps m) a b f = StoreCause m.number a b f
  FaultCause (Reduces r) a b f = MemoryCause a b f
  FaultCause (Writes x) a b f = WriterCause a b f
  FaultCause Merges a b f = MemoryCause a b f

  -- a fault has its cause, and no count rises without one
  abbrev pub TurnCause : Acting → Counts → Counts → Turn → Type 0
  TurnCause x a b (answer.Failed f) = FaultCause x a b f
  TurnCause x a b t = b ≡ a
