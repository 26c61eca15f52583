-- Why a flush stops, and what a count of faults tells then.
use Rattle.std.specs.Prelude.{◌≡◌, ℕ, List}
use Rattle.std.specs.List.{flat_map}
use Rattle.hop_base.specs.declared.value.Pair.{Pair}
use Rattle.hop_vault.specs.declared.kept.FetchFault.{FetchFault}
use Rattle.hop_vault.specs.declared.kept.FetchFault.TheVariants as fetch
use Rattle.hop_base.specs.declared.part.Part.{Part}
use Rattle.hop_base.specs.Causes.{Rose}
use Rattle.hop_ports.specs.Views.{FolderView}
use Rattle.hop_vault.specs.Vaults.{VaultValue, IsDamaged, Collides as CollidesAt}
use Rattle.hop_press.specs.declared.fault.FlushFault.{FlushFault}
use Rattle.hop_press.specs.declared.fault.FlushFault.TheVariants.{SpillFailed, Damaged, Collides, NoMemory}

-- The folder's count of gets rose; or, of a kept spill of some held range, the bytes have another digest than
-- was kept, or are no spill text of that range with a sheet p. The last two only where the folder doesn't tell.
abbrev pub FlushCause : {V : Type 0} → (V → FolderView) → VaultValue V → VaultValue V → ℕ → FlushFault → Type 0
FlushCause seen old new p SpillFailed = Rose (seen old.folder).gets (seen new.folder).gets
FlushCause seen old new p (Damaged at kept found) = (part : Part) × IsDamaged (seen old.folder).held old.rows part at kept found
FlushCause seen old new p (Collides at place) = (part : Part) × CollidesAt (seen old.folder).held old.rows part p at place
FlushCause seen old new p NoMemory = Unit {0}

-- no get failed, unless this is the answer that tells of it
abbrev pub FlushAnswered : FolderView → FolderView → FlushFault → Type 0
FlushAnswered old new SpillFailed = Unit {0}
FlushAnswered old new (Damaged at kept found) = new.gets ≡ old.gets
FlushAnswered old new (Collides at place) = new.gets ≡ old.gets
FlushAnswered old new NoMemory = new.gets ≡ old.gets

-- a fetch's fault as a flush's
abbrev pub fault_in : FetchFault → FlushFault
fault_in fetch.StoreFailed = SpillFailed
fault_in (fetch.Damaged at kept found) = Damaged at kept found
fault_in (fetch.Collides at place) = Collides at place
fault_in (fetch.NotKept have) = NoMemory
fault_in fetch.NoMemory = NoMemory

-- the pairs of some sheets, one sheet after the other
abbrev pub pairs_in : List (List Pair) → List Pair
pairs_in sheets = flat_map (λ sheet. sheet) sheets
