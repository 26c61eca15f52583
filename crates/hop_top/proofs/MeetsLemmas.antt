-- From what was put and written to what the outcome says of the whole call.
use Rattle.std.proofs.Common.{◌≡◌, ℕ, ◌≤◌, List, [], ◌∷◌, ◌++◌, inl, inr, Option, None, Some, take, length, unwrap_or, refl, sym, ap, subst, ◌∙◌}
use Rattle.std.specs.Option.{IfSome}
use Rattle.std.specs.List.{AllByRecursion}
use Rattle.std.specs.FinMap as map
use Rattle.hop_base.specs.Files.{Files}
use Rattle.hop_base.specs.Meaning.{Meaning}
use Rattle.hop_laws.specs.Blocking.{blocking_texts}
use Rattle.hop_ports.specs.Views.{FolderView, SinkView, with_file}
use Rattle.hop_records.specs.Records.{records_of, first_long}
use Rattle.hop_words.specs.Options.{Asked, AskedOptions, block}
use Rattle.hop_top.specs.Plans.{long_refusal}
use Rattle.hop_top.specs.Reading.{IsReadable, bytes_of, command_reads, input_named}
use Rattle.hop_replay.specs.Folders.{Spilling}
use Rattle.hop_top.specs.Work.{Accepted, CommandWorks, Works, block_summary, block_work, command_refusal}
use Rattle.hop_top.specs.Puts.{HandsOut, HandsFirst, HandsUnsaid, Puts, Work, part_files, with_files}
use Rattle.hop_top.specs.Meets.{MeetsOptions, Does, Stopped, Unsaid}
use Rattle.hop_top.specs.declared.outcome.Outcome.{Outcome}
use Rattle.hop_top.specs.declared.outcome.Outcome.TheVariants as outcome
use Rattle.hop_top.proofs.PutsLemmas.{rose_later}

-- files put after others
pub with_files-append : (held : Option Files) (first second : Puts) → with_files held (first ++ second) ≡ with_files (with_files held first) second
with_files-append held [] second = refl
with_files-append held (f ∷ first) second = with_files-append (with_file held f.0 f.1) first second

if_some_more : {A : Type 0} (o : Option A) (P Q : A → Type 0) → ((a : A) → P a → Q a) → IfSome o P → IfSome o Q
if_some_more None P Q more holds = holds
if_some_more (Some a) P Q more holds = more a holds

everywhere : {A : Type 0} (o : Option A) (P : A → Type 0) → ((a : A) → P a) → IfSome o P
everywhere None P all = tt
everywhere (Some a) P all = all a

-- where the folder tells, what was read is accepted and this is a work that may be done
abbrev pub MayDo : FolderView → Spilling → AskedOptions → Work → Type 0
MayDo old s options work = IfSome old.held (λ files. Accepted options files × Works options s files work)

does : (old : FolderView) (s : Spilling) (options : AskedOptions) (work : Work) (P : Work → Type 0) → MayDo old s options work → P work → Does old s options P
does old s options work P may holds = if_some_more old.held _ _ (λ files accepted. (accepted.0, (work, accepted.1, holds))) may

module _ (old middle new : FolderView) (out_old out_new : SinkView) (s : Spilling) (options : AskedOptions) (early files : Puts) (summary : List ℕ)
    (may : MayDo old s options (record { early = early; files = files; summary = summary })) (held : middle.held ≡ with_files old.held early) where
  stopped : HandsFirst middle new out_old out_new files summary → Stopped old new out_old out_new s options
  stopped first = record {
    files = inr (does old s options _ _ may
        (first.put.0, first.put.1 ∙ ap (λ h. with_files h (take first.put.0 files)) held ∙ sym (with_files-append old.held early (take first.put.0 files))));
    taken = first.taken;
  }

  unsaid : HandsUnsaid middle new out_old out_new files summary → Unsaid old new out_old out_new s options
  unsaid hands = does old s options _ _ may (hands.held ∙ ap (λ h. with_files h files) held ∙ sym (with_files-append old.held early files), hands.said)

-- the end of a command: its early files are put, and it hands out the others and the summary
pub meets_at_end : (old middle new : FolderView) (out_old out_new : SinkView) (s : Spilling) (options : AskedOptions) (early files : Puts) (summary : List ℕ) (answer : Outcome)
    → MayDo old s options (record { early = early; files = files; summary = summary })
    → middle.held ≡ with_files old.held early → old.puts ≤ middle.puts
    → HandsOut middle new out_old out_new files summary answer
    → MeetsOptions old new out_old out_new s options answer
meets_at_end old middle new out_old out_new s options early files summary outcome.Done may held later hands =
    does old s options _ _ may (hands.held ∙ ap (λ h. with_files h files) held ∙ sym (with_files-append old.held early files), hands.said)
meets_at_end old middle new out_old out_new s options early files summary outcome.Usage may held later hands = absurd hands
meets_at_end old middle new out_old out_new s options early files summary (outcome.InputFailed file) may held later hands = absurd hands
meets_at_end old middle new out_old out_new s options early files summary (outcome.InputRefused why) may held later hands = absurd hands
meets_at_end old middle new out_old out_new s options early files summary (outcome.ScriptRefused file line) may held later hands = absurd hands
meets_at_end old middle new out_old out_new s options early files summary (outcome.RetriesSpent split) may held later hands = absurd hands
meets_at_end old middle new out_old out_new s options early files summary (outcome.SpillFailed worker) may held later hands = absurd hands
meets_at_end old middle new out_old out_new s options early files summary (outcome.SpillDamaged worker at kept found) may held later hands = absurd hands
meets_at_end old middle new out_old out_new s options early files summary (outcome.SpillCollides worker at place) may held later hands = absurd hands
meets_at_end old middle new out_old out_new s options early files summary outcome.FolderFailed may held later hands =
    (rose_later old.puts middle.puts new.puts later hands.0, stopped old middle new out_old out_new s options early files summary may held hands.1)
meets_at_end old middle new out_old out_new s options early files summary outcome.SayFailed may held later hands =
    (hands.0, unsaid old middle new out_old out_new s options early files summary may held hands.1)
meets_at_end old middle new out_old out_new s options early files summary outcome.NoMemory may held later hands =
    inr (elim hands [
      | inl first ↦ inl (stopped old middle new out_old out_new s options early files summary may held first)
      | inr said ↦ inr (unsaid old middle new out_old out_new s options early files summary may held said)
    ])

same_work : {early files files' : Puts} {summary summary' : List ℕ} → files ≡ files' → summary ≡ summary' → ◌≡◌ {A = Work} (record { early = early; files = files; summary = summary }) (record { early = early; files = files'; summary = summary' })
same_work {early = early} f s = λ i. record { early = early; files = f i; summary = s i }

-- what is read, where this is a file's command
block_accepted : (options : AskedOptions) (command : Asked) (job : Meaning) (input : List ℕ) (files : Files) → command ≡ block job input
    → AllByRecursion (IsReadable files) (input_named input ∷ []) → long_refusal (records_of (bytes_of files input)) ≡ None
    → AllByRecursion (IsReadable files) (command_reads command options.script options.turns) × (command_refusal command options files ≡ None)
block_accepted options command job input files is read none = (
  subst (λ c. AllByRecursion (IsReadable files) (command_reads c options.script options.turns)) (sym is) read,
  ap (λ c. command_refusal c options files) is ∙ none,
)

-- the blocking job over what was read
pub may_block : (old : FolderView) (s : Spilling) (options : AskedOptions) (job : Meaning) (reducers : ℕ) (input bytes : List ℕ) (files : Puts) (summary : List ℕ)
    → options.command ≡ block job input → options.settings.reducers ≡ reducers
    → IfSome old.held (λ held. map.get held input ≡ Some bytes) → length bytes ≤ 16777216 → first_long (records_of bytes) ≡ None
    → files ≡ part_files 0 (blocking_texts job (records_of bytes) reducers) → summary ≡ block_summary (length (records_of bytes)) reducers
    → MayDo old s options (record { early = []; files = files; summary = summary })
may_block old s options job reducers input bytes files summary is same_reducers found short none is_files is_summary = if_some_more old.held _ _ (λ held here.
    let same : bytes_of held input ≡ bytes = ap (λ o. unwrap_or o []) here in
    let accepted = block_accepted options options.command job input held is (record { present = here ∙ ap Some (sym same); short = rw same short }, tt) (rw (same, none) refl) in
    let works : ◌≡◌ {A = Work} (record { early = []; files = files; summary = summary }) (block_work job options.settings.reducers (bytes_of held input)) =
    same_work is_files is_summary ∙ ap (λ n. block_work job n bytes) (sym same_reducers) ∙ ap (block_work job options.settings.reducers) (sym same) in (
      record { read = accepted.0; unrefused = accepted.1 },
      subst (λ c. CommandWorks c options s held (record { early = []; files = files; summary = summary })) (sym is) works,
    )) found
