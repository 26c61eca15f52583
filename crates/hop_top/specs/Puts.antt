-- Files that are put one after another.
use Rattle.std.specs.Prelude.{◌≡◌, ◌⊎◌, ◌+◌, ℕ, List, [], ◌∷◌, ◌++◌, codes, decimal}
use Rattle.hop_base.specs.Causes.{Rose}
use Rattle.hop_ports.specs.Views.{FolderView, SinkView, appended}
use Rattle.hop_ports.specs.Causes.{TookPrefix}
pub use Rattle.hop_writer.specs.Puts.{Puts, PutFirst, PutsCause, file_of, files_in, with_files}
use Rattle.hop_top.specs.declared.outcome.Outcome.{Outcome}
use Rattle.hop_top.specs.declared.outcome.Outcome.TheVariants as outcome

-- what a command does: the files that it puts while it runs, those that it puts at its end, and what it prints
pub record Work : Type 0 where
  pub early : Puts
  pub files : Puts
  pub summary : List ℕ

-- the name of the part file of partition p
abbrev pub part_name : ℕ → List ℕ
part_name p = codes "part-" ++ decimal p

-- each text under the name of its partition's part file, counted from p
abbrev pub part_files : ℕ → List (List ℕ) → Puts
part_files p [] = []
part_files p (text ∷ texts) = (part_name p, text) ∷ part_files (p + 1) texts

module _ (old new : FolderView) (out_old out_new : SinkView) (files : Puts) (summary : List ℕ) where
  -- the first files were put and nothing was written
  pub record HandsFirst : Type 0 where
    pub put : PutFirst old new files
    pub taken : out_new.taken ≡ out_old.taken

  -- all files were put and a prefix of the summary was written
  pub record HandsUnsaid : Type 0 where
    pub held : new.held ≡ with_files old.held files
    pub said : TookPrefix out_old out_new summary

  -- all files were put and the summary was written
  pub record HandsAll : Type 0 where
    pub held : new.held ≡ with_files old.held files
    pub said : out_new.taken ≡ appended out_old.taken summary

  -- how it ends to put files and to write a summary
  abbrev pub HandsOut : Outcome → Type 0
  HandsOut outcome.Done = HandsAll
  HandsOut outcome.FolderFailed = Rose old.puts new.puts × HandsFirst
  HandsOut outcome.SayFailed = Rose out_old.faults out_new.faults × HandsUnsaid
  HandsOut outcome.NoMemory = HandsFirst ⊎ HandsUnsaid
  HandsOut other = ⊥
