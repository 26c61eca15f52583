-- The snapshots that a writer puts, their files, and what its folder then holds.
use Rattle.std.specs.Prelude.{◌≡◌, ℕ, ◌≤◌, Bool, true, false, List, [], ◌∷◌, ◌++◌, length, take, All, Option, IsTrue, codes, decimal}
use Rattle.hop_base.specs.Files.{Files}
use Rattle.hop_base.specs.Meaning.{Meaning}
use Rattle.hop_base.specs.Run.{RunSettings}
use Rattle.hop_laws.specs.Blocking.{blocking}
use Rattle.hop_records.specs.Records.{lens_of}
use Rattle.hop_shelf.specs.Names.{book_of}
use Rattle.hop_event.specs.Coverage.{progress_of}
use Rattle.hop_cut.specs.Snapshot.{Header}
use Rattle.hop_cut.specs.Covered.{covered_records, declared_at, header_of, text_with}
use Rattle.hop_machine.specs.step.Setup.{CutSaid}
use Rattle.hop_machine.specs.actors.ReducerTurns.{Writing}
use Rattle.hop_writer.specs.Later.{with_last}
use Rattle.hop_writer.specs.Puts.{File, Puts, HoldsPut}
use Rattle.hop_writer.specs.declared.kept.Kept.{Kept}

-- # Snapshots and their files

-- a snapshot: what its header says, and its body
pub record Snapshot : Type 0 where
  pub header : Header
  pub body : List ℕ

-- the name of the file of a reducer's snapshot at this mark
abbrev pub snap_name : ℕ → ℕ → List ℕ
snap_name mark p = codes "snap-" ++ (decimal mark ++ (codes "-" ++ decimal p))

-- its file
abbrev pub snap_file : Snapshot → File
snap_file s = (snap_name s.header.mark s.header.reducer, text_with s.header s.body)

-- what the later jobs take of it
abbrev pub kept_of : Snapshot → Kept
kept_of s = record { mark = s.header.mark; reducer = s.header.reducer; body = s.body }

-- all files that are put with a snapshot of one of r reducers, where these were put before: its own, and with the last one of its mark those of the later jobs
abbrev pub files_at : List Meaning → ℕ → List Kept → Snapshot → Puts
files_at later r kept s = snap_file s ∷ with_last later r (kept ++ kept_of s ∷ []) s.header.mark

-- all files of these snapshots, in their order, where those were put before
abbrev pub files_from : List Meaning → ℕ → List Kept → List Snapshot → Puts
files_from later r kept [] = []
files_from later r kept (s ∷ snaps) = files_at later r kept s ++ files_from later r (kept ++ kept_of s ∷ []) snaps

-- all files of these snapshots
abbrev pub files_of : List Meaning → ℕ → List Snapshot → Puts
files_of later r snaps = files_from later r [] snaps

-- # Which files are there

-- the file of the writing was put
abbrev pub IsPut : Writing → Type 0
IsPut w = w.put ≡ true

-- no turn failed: all writings were put, and all their files are there
pub record AllThere (later : List Meaning) (r : ℕ) (writings : List Writing) (snaps : List Snapshot) (there : Puts) : Type 0 where
  pub put : All IsPut writings
  pub there_are : there ≡ files_of later r snaps

-- a turn failed: all writings but the last were put, and their files are there; of those of the last one the first may be there
pub record AllButLastThere (later : List Meaning) (r : ℕ) (writings : List Writing) (snaps : List Snapshot) (there : Puts) : Type 0 where
  pub earlier : List Writing
  pub last : Writing
  pub writings_are : writings ≡ earlier ++ last ∷ []
  pub put : All IsPut earlier
  pub not_put : last.put ≡ false
  pub before : List Snapshot
  pub final : Snapshot
  pub snaps_are : snaps ≡ before ++ final ∷ []
  pub count : ℕ
  pub enough : length (files_of later r before) ≤ count
  pub there_are : there ≡ take count (files_of later r snaps)

-- the files that are there, by whether a turn failed
abbrev pub AreThere : List Meaning → ℕ → Bool → List Writing → List Snapshot → Puts → Type 0
AreThere later r false writings snaps there = AllThere later r writings snaps there
AreThere later r true writings snaps there = AllButLastThere later r writings snaps there

-- # Of a run

-- the cut declares each split, and has the progress of what it declares
pub record IsWhole (lens : List ℕ) (c : CutSaid) : Type 0 where
  pub each : length c.declared ≡ length lens
  pub progress_is : c.progress ≡ progress_of lens (declared_at c.declared)

module _ (job : Meaning) (records : List (List ℕ)) (settings : RunSettings) where
  -- the header of the snapshot that a cut of this reducer declares
  abbrev pub snap_header : ℕ → CutSaid → Header
  snap_header p c =
      let lens = lens_of (book_of records settings) in header_of job.name c.mark p settings.reducers (progress_of lens (declared_at c.declared)) lens c.declared

  -- its body: the blocking job's text of just the records that the cut covers
  abbrev pub snap_body : ℕ → CutSaid → List ℕ
  snap_body p c = blocking job (covered_records records settings.split c.declared) p settings.reducers

  -- It is a snapshot of this cut of a reducer: its header says what the cut declares, and where the spill folders tell, its body is the reduction of that.
  pub record IsSnapshot (tells : Bool) (p : ℕ) (c : CutSaid) (s : Snapshot) : Type 0 where
    pub header_is : s.header ≡ snap_header p c
    pub right : IsTrue tells → s.body ≡ snap_body p c

  -- a snapshot of each of the writings, in their order
  abbrev pub AreSnapshots : Bool → List Writing → List Snapshot → Type 0
  AreSnapshots tells [] [] = Unit {0}
  AreSnapshots tells [] (s ∷ snaps) = ⊥
  AreSnapshots tells (w ∷ writings) [] = ⊥
  AreSnapshots tells (w ∷ writings) (s ∷ snaps) = IsSnapshot tells w.reducer w.cut s × AreSnapshots tells writings snaps

  -- Where the folder tells, it holds what it held at the start, with the files of a snapshot of each writing, in their order; where a turn failed, perhaps without the last files of the last one.
  pub record HoldsSnaps (later : List Meaning) (tells failed : Bool) (start now : Option Files) (writings : List Writing) : Type 0 where
    pub snaps : List Snapshot
    pub are : AreSnapshots tells writings snaps
    pub there : Puts
    pub are_there : AreThere later settings.reducers failed writings snaps there
    pub held : HoldsPut start now there
