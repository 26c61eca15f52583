-- What contracts see of a folder on disk: its counts alone.
use Rattle.std.specs.Prelude.{◌≡◌, ℕ, None, Result, Ok, Err}
use Rattle.hop_ports.specs.Views.{FolderView}
use Rattle.hop_ports.specs.Counts.{one_more}
use Rattle.hop_ports.specs.declared.folder.GetFault.{GetFault}
use Rattle.hop_ports.specs.declared.folder.GetFault.TheVariants as get_fault
use Rattle.hop_ports.specs.declared.folder.PutFault.{PutFault}
use Rattle.hop_ports.specs.declared.folder.PutFault.TheVariants as put_fault
use Rattle.hop_ports.specs.declared.disk.DiskFolder.{DiskFolder}

-- a folder that doesn't tell what it holds
abbrev pub untold : ℕ → ℕ → FolderView
untold gets puts = record { held = None; gets = gets; puts = puts }

module _ {R F D : Type 0} where
  -- its two counts
  abbrev pub disk_view : DiskFolder R F D → FolderView
  disk_view f = untold f.gets f.puts

module _ {T : Type 0} where
  -- the count of faults in gets before a get, its answer, and the count after it
  abbrev pub GetCounted : ℕ → Result T GetFault → ℕ → Type 0
  GetCounted before (Ok bytes) after = after ≡ before
  GetCounted before (Err get_fault.NoMemory) after = after ≡ before
  GetCounted before (Err fault) after = after ≡ one_more before

  -- the count of faults in puts before a put, its answer, and the count after it
  abbrev pub PutCounted : ℕ → Result T PutFault → ℕ → Type 0
  PutCounted before (Ok done) after = after ≡ before
  PutCounted before (Err put_fault.NoMemory) after = after ≡ before
  PutCounted before (Err put_fault.Failed) after = after ≡ one_more before
