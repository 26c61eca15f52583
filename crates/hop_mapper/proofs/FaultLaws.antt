-- Why what is held can't go out, as a cause of a worker's fault.
use Rattle.std.proofs.Common.{◌≡◌, ℕ, ◌≤◌, false, List, Option, None, inr, refl, ap}
use Rattle.std.specs.Prelude.{is_some}
use Rattle.hop_base.specs.Meaning.{Meaning}
use Rattle.hop_base.specs.Run.{ScriptLines, RunSettings}
use Rattle.hop_ports.specs.Views.{FolderView}
use Rattle.hop_ports.specs.Causes.{OnlyRead}
use Rattle.hop_vault.specs.Vaults.{VaultValue}
use Rattle.hop_machine.specs.declared.words.Turn.TheVariants.{Stopped}
use Rattle.hop_press.specs.declared.fault.FlushFault.{FlushFault}
use Rattle.hop_press.specs.declared.fault.FlushFault.TheVariants as flush
use Rattle.hop_press.specs.Faults.{FlushCause, FlushAnswered}
use Rattle.hop_press.specs.Fits.{KeepsMade}
use Rattle.hop_shelf.specs.Names.{rules_of}
use Rattle.hop_actors.specs.Acting.{said_fault}
use Rattle.hop_actors.specs.Counting.{StoreCause}
use Rattle.hop_mapper.specs.Mappers.{counts_of}
use Rattle.hop_mapper.specs.Faults.{flush_fault}
use Rattle.hop_mapper.specs.Next.{KeepsWithin}
use Rattle.hop_mapper.proofs.NamedLaws.{damaged_named, collides_named}

module _ {V : Type 0} (seen : V → FolderView) (a b : VaultValue V) (read : OnlyRead (seen a.folder) (seen b.folder)) where
  -- no count rose
  pub counts_same : (seen b.folder).gets ≡ (seen a.folder).gets → counts_of seen b ≡ counts_of seen a
  counts_same gets = λ k. record { tells = is_some (read.held k); gets = gets k; puts = read.puts k }

  untold_is : (o : Option Rattle.hop_base.specs.Files.Files) → o ≡ None → is_some o ≡ false
  untold_is o e = ap is_some e

  module _ (job : Meaning) (records : List (List ℕ)) (script : ScriptLines) (settings : RunSettings) (some_spill : 1 ≤ settings.spill)
      (keeps : KeepsMade job records settings (seen a.folder).held a.rows) (ends : KeepsWithin (rules_of records script settings) a.rows) where
    pub flush_cause : (w : ℕ) (p : ℕ) (f : FlushFault) → FlushAnswered (seen a.folder) (seen b.folder) f → FlushCause seen a b p f → StoreCause job records script settings w (counts_of seen a) (counts_of seen b) (flush_fault w f)
    flush_cause w p flush.SpillFailed answered cause = (refl, inr (record { tells = ap is_some read.held; gets = cause; puts = read.puts }))
    flush_cause w p (flush.Damaged at kept found) answered cause =
        (refl, untold_is _ cause.1.untold, cause.1.differs, counts_same answered, damaged_named job records script settings (seen a.folder).held a.rows some_spill keeps ends cause.0 at kept found cause.1)
    flush_cause w p (flush.Collides at place) answered cause =
        (refl, untold_is _ cause.1.untold, counts_same answered, collides_named job records script settings (seen a.folder).held a.rows some_spill keeps ends cause.0 p at place cause.1)
    flush_cause w p flush.NoMemory answered cause = counts_same answered

-- a flush's fault stops the turn
pub flush_stops : (w : ℕ) (f : FlushFault) → said_fault (flush_fault w f) ≡ Stopped
flush_stops w flush.SpillFailed = refl
flush_stops w (flush.Damaged at kept found) = refl
flush_stops w (flush.Collides at place) = refl
flush_stops w flush.NoMemory = refl
