-- Files that are put one after another.
use Rattle.std.specs.Prelude.{◌≡◌, ℕ, List, [], ◌∷◌, map, take, Option, Some, IfSome, string_bytes}
use Rattle.hop_base.specs.Causes.{Rose}
use Rattle.hop_base.specs.Files.{Files}
use Rattle.hop_ports.specs.Views.{FolderView, with_file}
use Rattle.hop_ports.specs.declared.folder.PutFault.{PutFault}
use Rattle.hop_ports.specs.declared.folder.PutFault.TheVariants.{Failed, NoMemory}
use Rattle.hop_writer.specs.declared.files.NamedFile.{NamedFile}

-- a file: its name and its bytes
abbrev pub File : Type 0
File = List ℕ × List ℕ

-- files by name, in the order in which they are put
abbrev pub Puts : Type 0
Puts = List File

-- a file by its name
abbrev pub file_of : NamedFile → File
file_of file = (string_bytes file.name, file.bytes)

abbrev pub files_in : List NamedFile → Puts
files_in files = map file_of files

-- the same files, with these put one after another
abbrev pub with_files : Option Files → Puts → Option Files
with_files held [] = held
with_files held (file ∷ others) = with_files (with_file held file.0 file.1) others

-- where the folder tells, it holds what it held at the start, with these files put one after another
abbrev pub HoldsPut : Option Files → Option Files → Puts → Type 0
HoldsPut start now put = IfSome now (λ held. with_files start put ≡ Some held)

-- the first of the files were put
abbrev pub PutFirst : FolderView → FolderView → Puts → Type 0
PutFirst old new files = (k : ℕ) × (new.held ≡ with_files old.held (take k files))

-- why not all files were put, and what was left; where memory was wanting, no put failed
abbrev pub PutsCause : FolderView → FolderView → Puts → PutFault → Type 0
PutsCause old new files Failed = Rose old.puts new.puts × PutFirst old new files
PutsCause old new files NoMemory = PutFirst old new files × (new.puts ≡ old.puts)
