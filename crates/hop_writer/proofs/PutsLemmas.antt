-- Files that are put one after another.
use Rattle.std.proofs.Common.{◌≡◌, ℕ, ◌+◌, ◌<◌, ◌≤◌, List, [], ◌∷◌, ◌++◌, inl, inr, Option, Some, None, is_some, length, take, get_or, refl, sym, ap, ◌∙◌, arith}
use Rattle.std.proofs.lemmas.List.{take_more, take-map, map-append}
use Rattle.std.specs.Prelude.{string_bytes}
use Rattle.hop_base.specs.Causes.{Rose}
use Rattle.hop_base.specs.Files.{Files}
use Rattle.hop_ports.specs.Views.{FolderView, with_file}
use Rattle.hop_ports.specs.Causes.{OnlyPut, PutCause}
use Rattle.hop_ports.specs.declared.folder.PutFault.{PutFault}
use Rattle.hop_ports.specs.declared.folder.PutFault.TheVariants.{Failed, NoMemory}
use Rattle.hop_writer.specs.Puts.{PutFirst, Puts, PutsCause, files_in, file_of, with_files}
use Rattle.hop_writer.specs.declared.files.NamedFile.{NamedFile}

-- one more file
pub with_files-push : (held : Option Files) (files : Puts) (file : List ℕ × List ℕ) → with_files held (files ++ file ∷ []) ≡ with_file (with_files held files) file.0 file.1
with_files-push held [] file = refl
with_files-push held (f ∷ files) file = with_files-push (with_file held f.0 f.1) files file

-- the first files as files
take-files_in : (k : ℕ) (files : List NamedFile) → take k (files_in files) ≡ files_in (take k files)
take-files_in k files = take-map file_of k files

-- the files of one more file
pub with_one : (held : Option Files) (files : List NamedFile) (i : ℕ) (file : NamedFile) → i < length files → file ≡ get_or files i file
    → with_files held (files_in (take (i + 1) files)) ≡ with_file (with_files held (files_in (take i files))) (string_bytes file.name) file.bytes
with_one held files i file within is =
    ap (λ ps. with_files held (files_in ps)) (take_more files i file within ∙ ap (λ p. take i files ++ p ∷ []) (sym is))
    ∙ ap (with_files held) (map-append file_of (take i files) (file ∷ []))
    ∙ with_files-push held (files_in (take i files)) (file_of file)

-- a count that didn't fall before it rose
pub rose_later : (before middle after : ℕ) → before ≤ middle → Rose middle after → Rose before after
rose_later before middle after later rose = omega arith

-- a put that failed after the first files were put
pub puts_cause : (before middle after : FolderView) (files : List NamedFile) (i : ℕ) (file : NamedFile) (fault : PutFault)
    → OnlyPut before middle → middle.puts ≡ before.puts → middle.held ≡ with_files before.held (files_in (take i files)) → i < length files → file ≡ get_or files i file
    → PutCause middle after (string_bytes file.name) file.bytes fault → PutsCause before after (files_in files) fault
puts_cause before middle after files i file Failed only quiet held within is cause = (
  rose_later before.puts middle.puts after.puts only.puts cause.0,
  elim cause.1 [
    | inl same ↦ (i, same ∙ held ∙ ap (with_files before.held) (sym (take-files_in i files)))
    | inr put ↦ (
      i + 1,
      put ∙ ap (λ h. with_file h (string_bytes file.name) file.bytes) held ∙ sym (with_one before.held files i file within is)
          ∙ ap (with_files before.held) (sym (take-files_in (i + 1) files)),
    )
  ],
)
puts_cause before middle after files i file NoMemory only quiet held within is cause =
    ((i, cause.0 ∙ held ∙ ap (with_files before.held) (sym (take-files_in i files))), cause.1 ∙ quiet)

-- # Whether the folder tells

pub told_still : (held : Option Files) (files : Puts) → is_some (with_files held files) ≡ is_some held
told_still held [] = refl
told_still None (f ∷ files) = told_still None files
told_still (Some now) (f ∷ files) = told_still (with_file (Some now) f.0 f.1) files

pub told_first : (old new : FolderView) (files : Puts) → PutFirst old new files → is_some new.held ≡ is_some old.held
told_first old new files first = ap is_some first.1 ∙ told_still old.held (take first.0 files)
