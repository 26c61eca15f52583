-- Messages and cuts as the machine sees them, and what the lanes of a run allow.
use Rattle.std.specs.Prelude.{◌≡◌, ℕ, Bool, List, [], ◌∷◌, ◌++◌, IsTrue}
use Rattle.std.specs.List.{flat_map}
use Rattle.hop_base.specs.declared.value.Val.{Val}
use Rattle.hop_base.specs.declared.value.Pair.{Pair}
use Rattle.hop_base.specs.declared.part.Part.{Part}
use Rattle.hop_base.specs.Meaning.{Meaning}
use Rattle.hop_base.specs.Run.{ScriptLines, RunSettings}
use Rattle.hop_run.specs.declared.message.Parcel.{Parcel}
use Rattle.hop_cut.specs.declared.cut.Cut.{Cut}
use Rattle.hop_cut.specs.Covered.{covered_parts, StandTogether}
use Rattle.hop_shelf.specs.Names.{pairs_of}
use Rattle.hop_shelf.specs.Holds.{RunHolds}
use Rattle.hop_shelf.specs.Sound.{IsParcel}
use Rattle.hop_machine.specs.declared.words.Message.{Message as Said}
use Rattle.hop_machine.specs.declared.words.Message.TheVariants as machine
use Rattle.hop_machine.specs.step.Steps.{Verdicts, CutSaid, Setup, rules_of}
use Rattle.hop_machine.specs.step.Pushing.{IsWorkersList}
use Rattle.hop_machine.specs.step.CutLane.{AreCuts}
use Rattle.hop_inner.specs.declared.message.Message.{Message}
use Rattle.hop_inner.specs.declared.message.Message.TheVariants.{Parcel as Parcels, Notice}
use Rattle.hop_inner.specs.Boards.{KnowsVerdict}
use Rattle.hop_inner.specs.Setups.{setup_of}

-- # As the machine sees them

-- a parcel stands as its part, and a notice as its attempt
abbrev pub said : {K : Type 0} → Message K → Said
said (Parcels x) = machine.Range x.part
said (Notice i a known) = machine.Notice i a

-- a cut stands as its mark, its progress and what it declares
abbrev pub said_cut : Cut → CutSaid
said_cut c = record { mark = c.mark; progress = c.progress; declared = c.declared }

-- # What one message says beyond that

-- the run is of the part, and stands for it where the spill folders tell
pub record FitsParcel (tells : Bool) (reduced : List ℕ → List Val → List ℕ) (pairs_of : Part → List Pair) (x : Parcel) : Type 0 where
  pub parts : IsParcel x.part x.run
  pub stands : IsTrue tells → RunHolds reduced pairs_of x.run

-- the seat of a notice is of the board of this name, and knows what became of the attempt
pub record FitsNotice (i a : ℕ) (knows : Verdicts) (board name : List ℕ) : Type 0 where
  pub known : KnowsVerdict knows i a
  pub here : board ≡ name

-- so of each message
abbrev pub Fits : Bool → (List ℕ → List Val → List ℕ) → (Part → List Pair) → {K : Type 0} → (K → Verdicts) → (K → List ℕ) → List ℕ → Message K → Type 0
Fits tells reduced pairs_of knows board name (Parcels x) = FitsParcel tells reduced pairs_of x
Fits tells reduced pairs_of knows board name (Notice i a known) = FitsNotice i a (knows known) (board known) name

-- where the spill folders tell, the cut's runs stand together for what it declares
abbrev pub FitsCut : Bool → (List ℕ → List Val → List ℕ) → (Part → List Pair) → Cut → Type 0
FitsCut tells reduced pairs_of c = IsTrue tells → StandTogether reduced c.runs (flat_map pairs_of (covered_parts c.declared))

-- # What the lanes of a run allow

-- the message makes a worker's list of what was sent before it, and fits
pub record AllowsMessage (setup : Setup) (tells : Bool) (reduced : List ℕ → List Val → List ℕ) (pairs_of : Part → List Pair) {K : Type 0} (knows : K → Verdicts) (board : K → List ℕ) (name : List ℕ) (earlier : List Said) (m : Message K) : Type 0 where
  pub list : IsWorkersList (rules_of setup) (earlier ++ said m ∷ [])
  pub fits : Fits tells reduced pairs_of knows board name m

-- the cut makes a list of cuts of ascending marks, each with its coverage and progress, and fits
pub record AllowsCut (setup : Setup) (tells : Bool) (reduced : List ℕ → List Val → List ℕ) (pairs_of : Part → List Pair) (earlier : List CutSaid) (c : Cut) : Type 0 where
  pub list : AreCuts setup (earlier ++ said_cut c ∷ [])
  pub fits : FitsCut tells reduced pairs_of c

-- the message fits partition p of this run
abbrev pub FitsAt : Meaning → List (List ℕ) → RunSettings → Bool → ℕ → {K : Type 0} → (K → Verdicts) → (K → List ℕ) → List ℕ → Message K → Type 0
FitsAt job records settings tells p knows board name m = Fits tells job.reduced (pairs_of job records settings p) knows board name m

-- the cut fits partition p of this run
abbrev pub CutFitsAt : Meaning → List (List ℕ) → RunSettings → Bool → ℕ → Cut → Type 0
CutFitsAt job records settings tells p c = FitsCut tells job.reduced (pairs_of job records settings p) c

-- a lane to reducer p of this run allows the message after these
abbrev pub AllowsAt : Meaning → List (List ℕ) → ScriptLines → RunSettings → Bool → ℕ → {K : Type 0} → (K → Verdicts) → (K → List ℕ) → List ℕ → List Said → Message K → Type 0
AllowsAt job records script settings tells p knows board name earlier m =
    AllowsMessage (setup_of records script settings) tells job.reduced (pairs_of job records settings p) knows board name earlier m

-- the cut lane of reducer p of this run allows the cut after these
abbrev pub AllowsCutAt : Meaning → List (List ℕ) → ScriptLines → RunSettings → Bool → ℕ → List CutSaid → Cut → Type 0
AllowsCutAt job records script settings tells p earlier c = AllowsCut (setup_of records script settings) tells job.reduced (pairs_of job records settings p) earlier c
