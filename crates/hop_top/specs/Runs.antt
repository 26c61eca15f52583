-- How a run ends, by what it was given.
use Rattle.std.specs.Prelude.{◌≡◌, ℕ, ◌+◌, ◌*◌, List, [], ◌∷◌, ◌++◌, length, map, reverse, sum, codes, decimal}
use Rattle.hop_base.specs.Meaning.{Meaning}
use Rattle.hop_chain.specs.Chain.{chained_texts}
use Rattle.hop_event.specs.declared.event.Event.{Event}
use Rattle.hop_replay.specs.Given.{Given, rules_given}
use Rattle.hop_replay.specs.Driven.{Traced}
use Rattle.hop_replay.specs.Folders.{Spilling}
use Rattle.hop_replay.specs.Replayed.{Ran}
use Rattle.hop_trace.specs.declared.totals.Way.TheVariants.{Pulled, Settled}
use Rattle.hop_trace.specs.Told.{IsTold}
use Rattle.hop_trace.specs.Totals.{kept_in_all}
use Rattle.hop_trace.specs.Trace.{trace_of}
use Rattle.hop_top.specs.Puts.{Puts, Work, part_files}
use Rattle.hop_top.specs.Snaps.{AreSnaps}
use Rattle.hop_top.specs.Spilling.{all_tell}

-- ---- what is traced

-- the histories, each in its order
abbrev pub in_order : Traced → List (List Event)
in_order t = map reverse t.histories

-- the trace
abbrev pub trace_text : Given → Traced → List ℕ
trace_text g t = trace_of g.job.name t.begun (in_order t)

-- ---- what is put and printed

-- in a chain, what its summary says of its jobs
abbrev pub jobs_words : List Meaning → List ℕ
jobs_words [] = []
jobs_words (job ∷ jobs) = codes " jobs=" ++ decimal (length (job ∷ jobs) + 1)

-- what a run of so many records, splits, partitions, snapshots, attempts, ranges that were pulled, and ranges that were taken from lanes while it was settled prints of them
abbrev pub numbers_text : ℕ → ℕ → ℕ → ℕ → ℕ → ℕ → ℕ → List ℕ
numbers_text records splits parts snapshots attempts pulled settled =
    codes "done records=" ++ (decimal records
    ++ (codes " splits=" ++ (decimal splits
    ++ (codes " parts=" ++ (decimal parts
    ++ (codes " snapshots=" ++ (decimal snapshots
    ++ (codes " attempts=" ++ (decimal attempts
    ++ (codes " pulled=" ++ (decimal pulled
    ++ (codes " settled=" ++ decimal settled))))))))))))

-- the line that is printed at its end: its numbers, and in a chain what is said of its jobs
abbrev pub summary_text : ℕ → ℕ → ℕ → ℕ → ℕ → ℕ → ℕ → List ℕ → List ℕ
summary_text records splits parts snapshots attempts pulled settled jobs = numbers_text records splits parts snapshots attempts pulled settled ++ (jobs ++ codes "\n")

abbrev pub run_summary : Given → List Meaning → Traced → List ℕ
run_summary g later t =
    summary_text (length g.records) (length (rules_given g).lens) g.settings.reducers (g.settings.reducers * length g.settings.marks)
    (sum t.begun) (kept_in_all Pulled (in_order t)) (kept_in_all Settled (in_order t)) (jobs_words later)

-- the name of the trace
abbrev pub trace_name : List ℕ
trace_name = codes "trace"

-- the name of the part file of job j of a chain
abbrev pub stage_name : ℕ → ℕ → List ℕ
stage_name j p = codes "j" ++ (decimal j ++ (codes "-part-" ++ decimal p))

-- each text of job j under the name of its part file, counted from p
abbrev pub stage_parts : ℕ → ℕ → List (List ℕ) → Puts
stage_parts j p [] = []
stage_parts j p (text ∷ texts) = (stage_name j p, text) ∷ stage_parts j (p + 1) texts

-- the part files of all jobs from job j on
abbrev pub later_parts : ℕ → List (List (List ℕ)) → Puts
later_parts j [] = []
later_parts j (texts ∷ all) = stage_parts j 0 texts ++ later_parts (j + 1) all

-- a part file for each text, the trace, and the part files of the later jobs, each over the parts of the job before it
abbrev pub run_files : Given → List Meaning → Traced → List (List ℕ) → Puts
run_files g later t texts = part_files 0 texts ++ (trace_name, trace_text g t) ∷ later_parts 2 (chained_texts later texts g.settings.reducers)

-- A run that came to its end: where all its spill folders told before, its texts are those of the blocking job; and its trace tells all of it.
pub record Reported (g : Given) (s : Spilling) (t : Traced) (texts : List (List ℕ)) : Type 0 where
  pub ran : Ran g (all_tell g.settings.workers s.before) s t texts
  pub told : IsTold g.job.name t.begun (in_order t)

-- The work of such a run: its snapshots while it ran, and at its end its other files and the summary.
pub record RunWorks (g : Given) (later : List Meaning) (s : Spilling) (work : Work) : Type 0 where
  pub t : Traced
  pub texts : List (List ℕ)
  pub reported : Reported g s t texts
  pub snaps : AreSnaps g later (all_tell g.settings.workers s.before) t work.early
  pub files : work.files ≡ run_files g later t texts
  pub summary : work.summary ≡ run_summary g later t
