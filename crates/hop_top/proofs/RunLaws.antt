-- What a run's outcome says of the whole call.
use Rattle.std.proofs.Common.{◌≡◌, ℕ, Bool, List, [], ◌∷◌, inl, inr, Option, None, Some, refl, sym, ap, subst, ◌∙◌, arith}
use Rattle.std.specs.Option.{IfSome}
use Rattle.hop_base.specs.Causes.{Rose}
use Rattle.hop_base.specs.Files.{Files}
use Rattle.hop_base.specs.Meaning.{Meaning}
use Rattle.hop_ports.specs.Causes.{OnlyRead}
use Rattle.hop_ports.specs.Views.{FolderView, SinkView}
use Rattle.hop_replay.specs.Driven.{Traced}
use Rattle.hop_replay.specs.Folders.{SameCounts, Spilling}
use Rattle.hop_replay.specs.Given.{Given}
use Rattle.hop_replay.specs.Replayed.{Ran}
use Rattle.hop_words.specs.Options.{Asked, AskedOptions, run, replay, chain, command_of, options_of}
use Rattle.hop_words.specs.declared.options.Command.{Command}
use Rattle.hop_words.specs.declared.options.Command.TheVariants.{Block, Chain, Run, Replay}
use Rattle.hop_words.specs.declared.options.Options.{Options}
use Rattle.hop_top.specs.Ends.{JobAnswers, RunEnds, RunSnaps, RunStops}
use Rattle.hop_top.specs.Meets.{MeetsOptions, WhereAccepted, Untouched, Early, Broken, NamesIts, Stopped}
use Rattle.hop_top.specs.Named.{CommandNames, RunNames}
use Rattle.hop_top.specs.Plans.{IsRefusal, given_by, run_refusal}
use Rattle.hop_top.specs.Puts.{HandsOut, Puts, Work, with_files}
use Rattle.hop_top.specs.Snaps.{MaySnap, SpentWith}
use Rattle.hop_top.specs.Reading.{AreReadable, ReadsFault, ReadsRun, RunTexts, Wanted, command_reads, reads_of, run_reads, texts_held}
use Rattle.hop_top.specs.Runs.{RunWorks, run_files, run_summary}
use Rattle.hop_top.specs.Spilling.{LeavesSpills, RunLeaves, WorkerAnswers, NamesWorker, all_tell}
use Rattle.hop_top.specs.Work.{AsksRun, CommandSpends, CommandWorks, IsRun, MayPutEarly, Spends, Works, command_refusal, refusal_of, run_given, run_texts}
use Rattle.hop_top.proofs.MeetsLemmas.{MayDo, meets_at_end}
use Rattle.hop_top.specs.declared.outcome.Outcome.{Outcome}
use Rattle.hop_top.specs.declared.outcome.Outcome.TheVariants as outcome
use Rattle.hop_top.specs.declared.outcome.Refusal.TheVariants as refusal

-- # What the three commands have in common

-- the command is a run of this job over this input, with these later jobs
pub record RunsJob (options : AskedOptions) (job : Meaning) (later : List Meaning) (input : List ℕ) : Type 0 where
  pub reads : reads_of options ≡ run_reads input options.script options.turns
  pub refuses : (files : Files) → refusal_of options files ≡ run_refusal options.settings (run_texts options input files)
  pub works : (s : Spilling) (files : Files) (work : Work) → RunWorks (run_given options job input files) later s work → Works options s files work
  pub spends : (s : Spilling) (files : Files) (split : ℕ) (early : Puts) → SpentWith (run_given options job input files) later (all_tell options.settings.workers s.before) split early → Spends options s files split early
  pub snaps : (s : Spilling) (files : Files) (early : Puts) → MaySnap (run_given options job input files) later (all_tell options.settings.workers s.before) early → MayPutEarly options.command options s files early
  pub names : (files : Files) (answer : Outcome) → RunNames (run_given options job input files) answer → CommandNames options.command options files answer
  pub runs : IsRun options.command

runs-so : (options : AskedOptions) (job : Meaning) (input : List ℕ) → options.command ≡ run job input → RunsJob options job [] input
runs-so options job input is = record {
  reads = ap (λ (c : Asked). command_reads c options.script options.turns) is;
  refuses = λ files. ap (λ (c : Asked). command_refusal c options files) is;
  works = λ s files work h. subst (λ (c : Asked). CommandWorks c options s files work) (sym is) h;
  spends = λ s files split early h. subst (λ (c : Asked). CommandSpends c options s files split early) (sym is) h;
  snaps = λ s files early h. subst (λ (c : Asked). MayPutEarly c options s files early) (sym is) h;
  names = λ files answer h. subst (λ (c : Asked). CommandNames c options files answer) (sym is) h;
  runs = subst IsRun (sym is) tt;
}

replays-so : (options : AskedOptions) (job : Meaning) (input : List ℕ) → options.command ≡ replay job input → RunsJob options job [] input
replays-so options job input is = record {
  reads = ap (λ (c : Asked). command_reads c options.script options.turns) is;
  refuses = λ files. ap (λ (c : Asked). command_refusal c options files) is;
  works = λ s files work h. subst (λ (c : Asked). CommandWorks c options s files work) (sym is) h;
  spends = λ s files split early h. subst (λ (c : Asked). CommandSpends c options s files split early) (sym is) h;
  snaps = λ s files early h. subst (λ (c : Asked). MayPutEarly c options s files early) (sym is) h;
  names = λ files answer h. subst (λ (c : Asked). CommandNames c options files answer) (sym is) h;
  runs = subst IsRun (sym is) tt;
}

chains-so : (options : AskedOptions) (job : Meaning) (later : List Meaning) (input : List ℕ) → options.command ≡ chain (job ∷ later) input → RunsJob options job later input
chains-so options job later input is = record {
  reads = ap (λ (c : Asked). command_reads c options.script options.turns) is;
  refuses = λ files. ap (λ (c : Asked). command_refusal c options files) is;
  works = λ s files work h. subst (λ (c : Asked). CommandWorks c options s files work) (sym is) h;
  spends = λ s files split early h. subst (λ (c : Asked). CommandSpends c options s files split early) (sym is) h;
  snaps = λ s files early h. subst (λ (c : Asked). MayPutEarly c options s files early) (sym is) h;
  names = λ files answer h. subst (λ (c : Asked). CommandNames c options files answer) (sym is) h;
  runs = subst IsRun (sym is) tt;
}

pub runs-job : (o : Options) (job : Meaning) (later : List Meaning) (input : List ℕ) → AsksRun o.command job later input → RunsJob (options_of o) job later input
runs-job o job later input asks = of o.command refl asks
  where
    of : (c : Command) → o.command ≡ c → AsksRun c job later input → RunsJob (options_of o) job later input
    of (Block j name) is h = absurd h
    of (Run j name) is h = subst (λ (l : List Meaning). RunsJob (options_of o) job l input) (sym h.1) (runs-so (options_of o) job input (ap command_of is ∙ (λ i. run (h.0 i) (h.2 i))))
    of (Replay j name) is h = subst (λ (l : List Meaning). RunsJob (options_of o) job l input) (sym h.1) (replays-so (options_of o) job input (ap command_of is ∙ (λ i. replay (h.0 i) (h.2 i))))
    of (Chain js name) is h = chains-so (options_of o) job later input (ap command_of is ∙ (λ i. chain (h.0 i) (h.1 i)))

-- # Where the folder tells

if-some : {A : Type 0} (o : Option A) (P Q : A → Type 0) → ((a : A) → P a → Q a) → IfSome o P → IfSome o Q
if-some None P Q more holds = holds
if-some (Some a) P Q more holds = more a holds

module _ (options : AskedOptions) (job : Meaning) (later : List Meaning) (input : List ℕ) (asks : RunsJob options job later input) (old new : FolderView) (out_old out_new : SinkView) (s : Spilling) where
  -- # What was read

  abbrev pub Meets : Outcome → Type 0
  Meets answer = MeetsOptions old new out_old out_new s options answer

  abbrev pub NothingPut : Type 0
  NothingPut = Untouched old new out_old out_new s

  pub nothing-put : OnlyRead old new → out_new ≡ out_old → NothingPut
  nothing-put only out = record { held = only.held; puts = only.puts; taken = ap (λ (v : SinkView). v.taken) out; faults = ap (λ (v : SinkView). v.faults) out }

  -- why not all was read
  pub unread-meets : (answer : Outcome) → ReadsFault old new (run_reads input options.script options.turns) answer → NothingPut → Meets answer
  unread-meets answer fault none = of answer (subst (λ (w : List Wanted). ReadsFault old new w answer) (sym asks.reads) fault)
    where
      of : (a : Outcome) → ReadsFault old new (reads_of options) a → Meets a
      of (outcome.InputFailed file) f = (f, none)
      of (outcome.InputRefused (refusal.TooLong file)) f = (f, none)
      of (outcome.InputRefused (refusal.RecordTooLong index)) f = absurd f
      of (outcome.InputRefused (refusal.TooManySplits count)) f = absurd f
      of (outcome.InputRefused (refusal.TooManySpills count)) f = absurd f
      of outcome.NoMemory f = inl none
      of outcome.Done f = absurd f
      of outcome.Usage f = absurd f
      of (outcome.ScriptRefused file line) f = absurd f
      of (outcome.RetriesSpent split) f = absurd f
      of outcome.FolderFailed f = absurd f
      of (outcome.SpillFailed worker) f = absurd f
      of (outcome.SpillDamaged worker at kept found) f = absurd f
      of (outcome.SpillCollides worker at place) f = absurd f
      of outcome.SayFailed f = absurd f

  -- it names no worker's folder
  module _ (texts : RunTexts) (read : ReadsRun old input options.script options.turns texts) where
    -- what was read is what the folder holds
    held-texts : (files : Files) → AreReadable files (run_reads input options.script options.turns) × (texts ≡ texts_held files input options.script options.turns) → AreReadable files (reads_of options) × (refusal_of options files ≡ run_refusal options.settings texts)
    held-texts files h = (subst (AreReadable files) (sym asks.reads) h.0, asks.refuses files ∙ sym (ap (run_refusal options.settings) h.1))

    refused : (answer : Outcome) → run_refusal options.settings texts ≡ Some answer → IfSome old.held (λ files. AreReadable files (reads_of options) × (refusal_of options files ≡ Some answer))
    refused answer is = if-some old.held _ _ (λ files h. let k = held-texts files h in (k.0, k.1 ∙ is)) read

    -- why it was refused
    pub refused-meets : (answer : Outcome) → IsRefusal (run_refusal options.settings texts) answer → NothingPut → Meets answer
    refused-meets outcome.NoMemory f none = inl none
    refused-meets (outcome.InputRefused (refusal.TooLong file)) f none = absurd f
    refused-meets (outcome.InputRefused (refusal.RecordTooLong index)) f none = (refused (outcome.InputRefused (refusal.RecordTooLong index)) f, none)
    refused-meets (outcome.InputRefused (refusal.TooManySplits count)) f none = (refused (outcome.InputRefused (refusal.TooManySplits count)) f, none)
    refused-meets (outcome.InputRefused (refusal.TooManySpills count)) f none = (refused (outcome.InputRefused (refusal.TooManySpills count)) f, none)
    refused-meets (outcome.ScriptRefused file line) f none = (refused (outcome.ScriptRefused file line) f, none)
    refused-meets outcome.Done f none = absurd f
    refused-meets outcome.Usage f none = absurd f
    refused-meets (outcome.InputFailed file) f none = absurd f
    refused-meets (outcome.RetriesSpent split) f none = absurd f
    refused-meets outcome.FolderFailed f none = absurd f
    refused-meets (outcome.SpillFailed worker) f none = absurd f
    refused-meets (outcome.SpillDamaged worker at kept found) f none = absurd f
    refused-meets (outcome.SpillCollides worker at place) f none = absurd f
    refused-meets outcome.SayFailed f none = absurd f

    module _ (accepted : run_refusal options.settings texts ≡ None) (g : Given) (is : g ≡ given_by job options.settings texts) where
      -- where the folder tells, all is accepted, and the run is given what is held
      pub where-accepted : (P : Files → Type 0) → ((files : Files) → g ≡ run_given options job input files → P files) → WhereAccepted old options P
      where-accepted P holds = if-some old.held _ _ (λ files h. let k = held-texts files h in (record { read = k.0; unrefused = k.1 ∙ accepted }, holds files (is ∙ ap (given_by job options.settings) h.1))) read

      abbrev told : Bool
      told = all_tell options.settings.workers s.before

      -- the files that were put are some that may be put
      early : (put : Puts) → MaySnap g later told put → new.held ≡ with_files old.held put → Early old new out_old out_new s options
      early put may held = where-accepted (λ files. (early : Puts) × MayPutEarly options.command options s files early × (new.held ≡ with_files old.held early))
          (λ files e. (put, asks.snaps s files put (subst (λ (q : Given). MaySnap q later told put) e may), held))

      -- the spill that is named is one of the command's run
      named : (answer : Outcome) → RunNames g answer → NamesIts old new out_old out_new s options answer
      named answer h = where-accepted (λ files. CommandNames options.command options files answer) (λ files e. asks.names files answer (subst (λ (q : Given). RunNames q answer) e h))

      -- why it stopped, and what was put before
      module _ (middle : FolderView) (only : OnlyRead old middle) (quiet : out_new ≡ out_old) where
        held-then : (put : Puts) → new.held ≡ with_files middle.held put → new.held ≡ with_files old.held put
        held-then put h = h ∙ ap (λ (o : Option Files). with_files o put) only.held

        broken : (put : Puts) → MaySnap g later told put → new.held ≡ with_files middle.held put → Broken old new out_old out_new s options
        broken put may held = record { runs = asks.runs; files = early put may (held-then put held); taken = ap (λ (v : SinkView). v.taken) quiet }

        halted : (put : Puts) → MaySnap g later told put → new.held ≡ with_files middle.held put → Stopped old new out_old out_new s options
        halted put may held = record { files = inl (early put may (held-then put held)); taken = ap (λ (v : SinkView). v.taken) quiet }

        pub stopped-meets : (answer : Outcome) (put : Puts) → MaySnap g later told put → new.held ≡ with_files middle.held put → JobAnswers middle new answer → RunStops g later told put answer → Meets answer
        stopped-meets (outcome.RetriesSpent split) put may held c f = (
          where-accepted (λ files. (put : Puts) × Spends options s files split put × (new.held ≡ with_files old.held put))
              (λ files e. (put, asks.spends s files split put (subst (λ (q : Given). SpentWith q later told split put) e f), held-then put held)),
          broken put may held,
        )
        stopped-meets (outcome.SpillFailed worker) put may held c f = broken put may held
        stopped-meets (outcome.SpillDamaged worker at kept found) put may held c f = (broken put may held, named (outcome.SpillDamaged worker at kept found) f)
        stopped-meets (outcome.SpillCollides worker at place) put may held c f = (broken put may held, named (outcome.SpillCollides worker at place) f)
        stopped-meets outcome.NoMemory put may held c f = inr (inl (halted put may held))
        stopped-meets outcome.FolderFailed put may held c f = (subst (λ (n : ℕ). Rose n new.puts) only.puts c.1, halted put may held)
        stopped-meets outcome.Done put may held c f = absurd f
        stopped-meets outcome.Usage put may held c f = absurd f
        stopped-meets (outcome.InputFailed file) put may held c f = absurd f
        stopped-meets (outcome.InputRefused why) put may held c f = absurd f
        stopped-meets (outcome.ScriptRefused file line) put may held c f = absurd f
        stopped-meets outcome.SayFailed put may held c f = absurd f

  -- what it hands out at its end
  pub ended-meets : (middle last : FolderView) (texts : RunTexts) → ReadsRun old input options.script options.turns texts → run_refusal options.settings texts ≡ None → (g : Given) → g ≡ given_by job options.settings texts
      → (t : Traced) (parts : List (List ℕ)) → Ran g (all_tell g.settings.workers s.before) s t parts → OnlyRead old middle → RunSnaps g later (all_tell g.settings.workers s.before) t middle last
      → (answer : Outcome) → RunEnds last new out_old out_new g later t parts answer → Meets answer
  ended-meets middle last texts read accepted g is t parts ran only snaps answer (inl unsaid) =
      let held : new.held ≡ with_files old.held snaps.early = ap (λ (v : FolderView). v.held) unsaid.folder ∙ snaps.held ∙ ap (λ (o : Option Files). with_files o snaps.early) only.held in
      let may : MaySnap g later (all_tell options.settings.workers s.before) snaps.early =
      subst (λ (n : ℕ). MaySnap g later (all_tell n s.before) snaps.early) (ap (λ (q : Given). q.settings.workers) is) snaps.may in
      subst (λ (a : Outcome). Meets a) (sym unsaid.memory) (inr (inl (record { files = inl (early texts read accepted g is snaps.early may held); taken = ap (λ (v : SinkView). v.taken) unsaid.out })))
  ended-meets middle last texts read accepted g is t parts ran only snaps answer (inr handed) =
      let work : Work = record { early = snaps.early; files = run_files g later t parts; summary = run_summary g later t } in
      let works : RunWorks g later s work = record { t = t; texts = parts; reported = record { ran = ran; told = handed.told }; snaps = snaps.are; files = refl; summary = refl } in
      let may : MayDo old s options work = where-accepted texts read accepted g is _ (λ files e. asks.works s files work (subst (λ (q : Given). RunWorks q later s work) e works)) in
      meets_at_end old last new out_old out_new s options snaps.early (run_files g later t parts) (run_summary g later t) answer may
      (snaps.held ∙ ap (λ (o : Option Files). with_files o snaps.early) only.held) (let k = only.puts in let l = snaps.counts.puts in omega (arith, k, l)) handed.hands

-- # What it leaves of the spill folders

-- the outcome tells of no spill folder
abbrev pub TellsNone : Outcome → Type 0
TellsNone (outcome.SpillFailed worker) = ⊥
TellsNone (outcome.SpillDamaged worker at kept found) = ⊥
TellsNone (outcome.SpillCollides worker at place) = ⊥
TellsNone other = Unit {0}

leaves-so : (workers : ℕ) (s : Spilling) (answer : Outcome) → LeavesSpills workers s → NamesWorker workers answer → ((w : ℕ) (a b : FolderView) → SameCounts a b → WorkerAnswers w a b answer) → RunLeaves workers s answer
leaves-so workers s answer left named answers = record {
  few = left.few;
  count = left.count;
  named = named;
  own = λ w a b l ga gb. let k = left.own w a b l ga gb in record { puts = k.0; answers = answers w a b k.1 };
  others = left.others;
}

pub leaves-after : (workers : ℕ) (s : Spilling) → LeavesSpills workers s → (answer : Outcome) → TellsNone answer → RunLeaves workers s answer
leaves-after workers s left (outcome.SpillFailed worker) t = absurd t
leaves-after workers s left (outcome.SpillDamaged worker at kept found) t = absurd t
leaves-after workers s left (outcome.SpillCollides worker at place) t = absurd t
leaves-after workers s left outcome.Done t = leaves-so workers s outcome.Done left tt (λ w a b h. h)
leaves-after workers s left outcome.Usage t = leaves-so workers s outcome.Usage left tt (λ w a b h. h)
leaves-after workers s left (outcome.InputFailed file) t = leaves-so workers s (outcome.InputFailed file) left tt (λ w a b h. h)
leaves-after workers s left (outcome.InputRefused why) t = leaves-so workers s (outcome.InputRefused why) left tt (λ w a b h. h)
leaves-after workers s left (outcome.ScriptRefused file line) t = leaves-so workers s (outcome.ScriptRefused file line) left tt (λ w a b h. h)
leaves-after workers s left (outcome.RetriesSpent split) t = leaves-so workers s (outcome.RetriesSpent split) left tt (λ w a b h. h)
leaves-after workers s left outcome.FolderFailed t = leaves-so workers s outcome.FolderFailed left tt (λ w a b h. h)
leaves-after workers s left outcome.SayFailed t = leaves-so workers s outcome.SayFailed left tt (λ w a b h. h)
leaves-after workers s left outcome.NoMemory t = leaves-so workers s outcome.NoMemory left tt (λ w a b h. h)

pub reads-none : (old new : FolderView) (wanteds : List Wanted) (answer : Outcome) → ReadsFault old new wanteds answer → TellsNone answer
reads-none old new wanteds (outcome.SpillFailed worker) f = f
reads-none old new wanteds (outcome.SpillDamaged worker at kept found) f = f
reads-none old new wanteds (outcome.SpillCollides worker at place) f = f
reads-none old new wanteds outcome.Done f = tt
reads-none old new wanteds outcome.Usage f = tt
reads-none old new wanteds (outcome.InputFailed file) f = tt
reads-none old new wanteds (outcome.InputRefused why) f = tt
reads-none old new wanteds (outcome.ScriptRefused file line) f = tt
reads-none old new wanteds (outcome.RetriesSpent split) f = tt
reads-none old new wanteds outcome.FolderFailed f = tt
reads-none old new wanteds outcome.SayFailed f = tt
reads-none old new wanteds outcome.NoMemory f = tt

pub refusal-none : (first : Option Outcome) (answer : Outcome) → IsRefusal first answer → TellsNone answer
refusal-none first (outcome.SpillFailed worker) f = f
refusal-none first (outcome.SpillDamaged worker at kept found) f = f
refusal-none first (outcome.SpillCollides worker at place) f = f
refusal-none first outcome.Done f = tt
refusal-none first outcome.Usage f = tt
refusal-none first (outcome.InputFailed file) f = tt
refusal-none first (outcome.InputRefused why) f = tt
refusal-none first (outcome.ScriptRefused file line) f = tt
refusal-none first (outcome.RetriesSpent split) f = tt
refusal-none first outcome.FolderFailed f = tt
refusal-none first outcome.SayFailed f = tt
refusal-none first outcome.NoMemory f = tt

hands-none : (old new : FolderView) (out_old out_new : SinkView) (files : Puts) (summary : List ℕ) (answer : Outcome) → HandsOut old new out_old out_new files summary answer → TellsNone answer
hands-none old new out_old out_new files summary (outcome.SpillFailed worker) f = f
hands-none old new out_old out_new files summary (outcome.SpillDamaged worker at kept found) f = f
hands-none old new out_old out_new files summary (outcome.SpillCollides worker at place) f = f
hands-none old new out_old out_new files summary outcome.Done f = tt
hands-none old new out_old out_new files summary outcome.Usage f = tt
hands-none old new out_old out_new files summary (outcome.InputFailed file) f = tt
hands-none old new out_old out_new files summary (outcome.InputRefused why) f = tt
hands-none old new out_old out_new files summary (outcome.ScriptRefused file line) f = tt
hands-none old new out_old out_new files summary (outcome.RetriesSpent split) f = tt
hands-none old new out_old out_new files summary outcome.FolderFailed f = tt
hands-none old new out_old out_new files summary outcome.SayFailed f = tt
hands-none old new out_old out_new files summary outcome.NoMemory f = tt

pub ends-none : (old new : FolderView) (out_old out_new : SinkView) (g : Given) (later : List Meaning) (t : Traced) (texts : List (List ℕ)) (answer : Outcome) → RunEnds old new out_old out_new g later t texts answer → TellsNone answer
ends-none old new out_old out_new g later t texts answer (inl unsaid) = subst TellsNone (sym unsaid.memory) tt
ends-none old new out_old out_new g later t texts answer (inr handed) = hands-none old new out_old out_new (run_files g later t texts) (run_summary g later t) answer handed.hands
