-- What contracts see of a folder in memory whose calls may fail.
use Rattle.std.specs.Prelude.{◌≡◌, ℕ, Bool, List, Some}
use Rattle.hop_ports.specs.Views.{FolderView}
use Rattle.hop_ports.specs.Files.{files_of}
use Rattle.hop_ports.specs.Counts.{one_more, fails_after}
use Rattle.hop_ports.specs.declared.memory.MemFolder.{MemFolder}

-- what it holds, and its two counts
abbrev pub memory_view : MemFolder → FolderView
memory_view f = record { held = Some (files_of f.files); gets = f.gets; puts = f.puts }

-- how many gets and puts were made
abbrev pub calls_made : MemFolder → ℕ
calls_made f = f.calls

-- the numbers of the calls that fail
abbrev pub failing_calls : MemFolder → List ℕ
failing_calls f = f.fails.items

-- the next get or put fails
abbrev pub fails_next : MemFolder → Bool
fails_next f = fails_after (calls_made f) (failing_calls f)

-- one more call was made
pub record IsNextCall (old new : MemFolder) : Type 0 where
  pub calls : calls_made new ≡ one_more (calls_made old)
  pub fails : failing_calls new ≡ failing_calls old
