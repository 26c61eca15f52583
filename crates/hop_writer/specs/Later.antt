-- The later jobs' snapshots of a chain: each is computed from scratch from the snapshots of one mark.
use Rattle.std.specs.Prelude.{ℕ, zero, suc, ◌+◌, ◌==◌, ◌&&◌, List, [], ◌∷◌, ◌++◌, Option, None, Some, codes, decimal, if◌then◌else◌}
use Rattle.hop_base.specs.Meaning.{Meaning}
use Rattle.hop_chain.specs.Chain.{chained_texts}
use Rattle.hop_writer.specs.Puts.{Puts}
use Rattle.hop_writer.specs.declared.kept.Kept.{Kept}

-- # Files

-- the name of the snapshot file of job j at this mark
abbrev pub later_name : ℕ → ℕ → ℕ → List ℕ
later_name j mark p = codes "j" ++ (decimal j ++ (codes "-snap-" ++ (decimal mark ++ (codes "-" ++ decimal p))))

-- its lines up to the body
abbrev pub later_header : ℕ → List ℕ → ℕ → ℕ → ℕ → List ℕ
later_header j name mark p r =
    codes "hop-chain-snapshot 1\nstage " ++ (decimal j
    ++ (codes "\njob " ++ (name
    ++ (codes "\nmark " ++ (decimal mark
    ++ (codes "\nreducer " ++ (decimal p
    ++ (codes " of " ++ (decimal r
    ++ codes "\n--\n")))))))))

-- a file for each body of job j, from partition p on
abbrev pub stage_files : ℕ → List ℕ → ℕ → ℕ → ℕ → List (List ℕ) → Puts
stage_files j name mark r p [] = []
stage_files j name mark r p (body ∷ bodies) = (later_name j mark p, later_header j name mark p r ++ body) ∷ stage_files j name mark r (p + 1) bodies

-- the files of all jobs from job j on
abbrev pub later_files : ℕ → List Meaning → ℕ → ℕ → List (List (List ℕ)) → Puts
later_files j [] mark r all = []
later_files j (job ∷ jobs) mark r [] = []
later_files j (job ∷ jobs) mark r (bodies ∷ all) = stage_files j job.name mark r 0 bodies ++ later_files (j + 1) jobs mark r all

-- # Bodies

-- the body of reducer p's snapshot at this mark, where it was put
abbrev pub body_at : List Kept → ℕ → ℕ → Option (List ℕ)
body_at [] mark p = None
body_at (k ∷ kept) mark p = if (k.mark == mark) && (k.reducer == p) then Some k.body else body_at kept mark p

-- one more body, where it and those before it are there
abbrev pub body_more : Option (List (List ℕ)) → Option (List ℕ) → Option (List (List ℕ))
body_more (Some bodies) (Some body) = Some (bodies ++ body ∷ [])
body_more (Some bodies) None = None
body_more None body = None

-- the bodies of the first k reducers' snapshots at this mark, where all were put
abbrev pub bodies_at : List Kept → ℕ → ℕ → Option (List (List ℕ))
bodies_at kept mark zero = Some []
bodies_at kept mark (suc k) = body_more (bodies_at kept mark k) (body_at kept mark k)

-- # What comes with a snapshot

-- the later jobs' snapshots over these bodies of one mark
abbrev pub over_bodies : List Meaning → ℕ → ℕ → Option (List (List ℕ)) → Puts
over_bodies jobs mark r None = []
over_bodies jobs mark r (Some bodies) = later_files 2 jobs mark r (chained_texts jobs bodies r)

-- The later jobs' snapshots that come with the last of the r snapshots of a mark. In a run of one job there are none.
abbrev pub with_last : List Meaning → ℕ → List Kept → ℕ → Puts
with_last [] r kept mark = []
with_last (job ∷ jobs) r kept mark = over_bodies (job ∷ jobs) mark r (bodies_at kept mark r)
