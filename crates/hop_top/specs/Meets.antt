-- What each outcome says of the words, the job folder and the sink, before and after the call.
use Rattle.std.specs.Prelude.{◌≡◌, ℕ, ◌⊎◌, ◌++◌, take, Option, None, Some, IfSome}
use Rattle.hop_base.specs.Causes.{Rose}
use Rattle.hop_base.specs.Files.{Files}
use Rattle.hop_ports.specs.Views.{FolderView, SinkView, appended}
use Rattle.hop_ports.specs.Causes.{TookPrefix}
use Rattle.hop_words.specs.Options.{AskedOptions}
use Rattle.hop_top.specs.Named.{CommandNames}
use Rattle.hop_top.specs.Puts.{Puts, Work, with_files}
use Rattle.hop_top.specs.Reading.{AreReadable, IsAbsent, IsLong, Unread, reads_of}
use Rattle.hop_replay.specs.Folders.{Spilling}
use Rattle.hop_top.specs.Work.{Accepted, IsRun, MayPutEarly, Spends, Works, refusal_of}
use Rattle.hop_top.specs.declared.outcome.Refusal.TheVariants as refusal
use Rattle.hop_top.specs.declared.outcome.Outcome.{Outcome}
use Rattle.hop_top.specs.declared.outcome.Outcome.TheVariants as outcome

-- where the folder tells, what was read is accepted and P holds of it
abbrev pub WhereAccepted : FolderView → AskedOptions → (Files → Type 0) → Type 0
WhereAccepted old options P = IfSome old.held (λ files. Accepted options files × P files)

-- where the folder tells, what was read is accepted and P holds of a work that may be done
abbrev pub Does : FolderView → Spilling → AskedOptions → (Work → Type 0) → Type 0
Does old s options P = WhereAccepted old options (λ files. (work : Work) × Works options s files work × P work)

module _ (old new : FolderView) (out_old out_new : SinkView) (s : Spilling) where
  -- nothing was put and nothing was written: neither count of their faults rose
  pub record Untouched : Type 0 where
    pub held : new.held ≡ old.held
    pub puts : new.puts ≡ old.puts
    pub taken : out_new.taken ≡ out_old.taken
    pub faults : out_new.faults ≡ out_old.faults

  -- nothing was even read: the folder and the sink are as before, with all their counts
  pub record AsBefore : Type 0 where
    pub folder : new ≡ old
    pub out : out_new ≡ out_old

  -- all was read, and this refuses it
  abbrev pub Refused : AskedOptions → Outcome → Type 0
  Refused options answer = IfSome old.held (λ files. AreReadable files (reads_of options) × (refusal_of options files ≡ Some answer))

  -- all files were put and the summary was written
  abbrev pub Finished : AskedOptions → Type 0
  Finished options =
      Does old s options (λ work. (new.held ≡ with_files old.held (work.early ++ work.files)) × (out_new.taken ≡ appended out_old.taken work.summary))

  -- while it ran, files were put that the command may put
  abbrev pub Early : AskedOptions → Type 0
  Early options = WhereAccepted old options (λ files. (early : Puts) × MayPutEarly options.command options s files early × (new.held ≡ with_files old.held early))

  -- it ran, and the first of its files were put
  abbrev pub Late : AskedOptions → Type 0
  Late options = Does old s options (λ work. (k : ℕ) × (new.held ≡ with_files old.held (work.early ++ take k work.files)))

  -- some files were put and nothing was written
  pub record Stopped (options : AskedOptions) : Type 0 where
    pub files : Early options ⊎ Late options
    pub taken : out_new.taken ≡ out_old.taken

  -- it stopped while it ran: nothing was put but what may be put early, and nothing was written
  pub record Broken (options : AskedOptions) : Type 0 where
    pub runs : IsRun options.command
    pub files : Early options
    pub taken : out_new.taken ≡ out_old.taken

  -- a split had no attempt left, and just the files were put that this says
  abbrev pub SpentAfter : AskedOptions → ℕ → Type 0
  SpentAfter options split = WhereAccepted old options (λ files. (early : Puts) × Spends options s files split early × (new.held ≡ with_files old.held early))

  -- the spill that is named is one of the command's run, with its digest
  abbrev pub NamesIts : AskedOptions → Outcome → Type 0
  NamesIts options answer = WhereAccepted old options (λ files. CommandNames options.command options files answer)

  -- all files were put and a prefix of the summary was written
  abbrev pub Unsaid : AskedOptions → Type 0
  Unsaid options = Does old s options (λ work. (new.held ≡ with_files old.held (work.early ++ work.files)) × TookPrefix out_old out_new work.summary)

  -- what the outcome says where the words ask for this
  abbrev pub MeetsOptions : AskedOptions → Outcome → Type 0
  MeetsOptions options outcome.Done = Finished options
  MeetsOptions options outcome.Usage = ⊥
  MeetsOptions options (outcome.InputFailed file) = Unread old new (reads_of options) (IsAbsent old new file) × Untouched
  MeetsOptions options (outcome.InputRefused (refusal.TooLong file)) = Unread old new (reads_of options) (IsLong old new file) × Untouched
  MeetsOptions options (outcome.InputRefused (refusal.RecordTooLong index)) = Refused options (outcome.InputRefused (refusal.RecordTooLong index)) × Untouched
  MeetsOptions options (outcome.InputRefused (refusal.TooManySplits count)) = Refused options (outcome.InputRefused (refusal.TooManySplits count)) × Untouched
  MeetsOptions options (outcome.InputRefused (refusal.TooManySpills count)) = Refused options (outcome.InputRefused (refusal.TooManySpills count)) × Untouched
  MeetsOptions options (outcome.ScriptRefused file line) = Refused options (outcome.ScriptRefused file line) × Untouched
  MeetsOptions options (outcome.RetriesSpent split) = SpentAfter options split × Broken options
  MeetsOptions options outcome.FolderFailed = Rose old.puts new.puts × Stopped options
  MeetsOptions options (outcome.SpillFailed worker) = Broken options
  MeetsOptions options (outcome.SpillDamaged worker at kept found) = Broken options × NamesIts options (outcome.SpillDamaged worker at kept found)
  MeetsOptions options (outcome.SpillCollides worker at place) = Broken options × NamesIts options (outcome.SpillCollides worker at place)
  MeetsOptions options outcome.SayFailed = Rose out_old.faults out_new.faults × Unsaid options
  MeetsOptions options outcome.NoMemory = Untouched ⊎ (Stopped options ⊎ Unsaid options)

  -- what the outcome says where the words ask for nothing
  abbrev pub MeetsNothing : Outcome → Type 0
  MeetsNothing outcome.Usage = AsBefore
  MeetsNothing outcome.NoMemory = AsBefore
  MeetsNothing other = ⊥

  -- what the outcome says
  abbrev pub Meets : Option AskedOptions → Outcome → Type 0
  Meets None answer = MeetsNothing answer
  Meets (Some options) answer = MeetsOptions options answer
