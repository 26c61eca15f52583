-- The runs that a shelf keeps.
use Rattle.std.specs.Prelude.{◌≡◌, ◌≢◌, ℕ, ◌<◌, Bool, true, false, not, if◌then◌else◌, List, [], ◌∷◌, ◌++◌, length, map, filter, AllPairs, slice_index_or, slice_set}
use Rattle.std.specs.List.{flat_map, remove}
use Rattle.hop_base.specs.declared.part.Part.{Part}
use Rattle.hop_base.specs.declared.value.Pair.{Pair}
use Rattle.hop_run.specs.Runs.{RunValue}
use Rattle.hop_event.specs.History.{same_attempt}
use Rattle.hop_shelf.specs.declared.kept.Kept.{Kept}
use Rattle.hop_shelf.specs.declared.kept.Owner.{Owner}
use Rattle.hop_shelf.specs.declared.kept.Owner.TheVariants.{Committed, Attempt}

-- whether the run is this attempt's
abbrev pub owned_by : ℕ → ℕ → Owner → Bool
owned_by i a Committed = false
owned_by i a (Attempt j b) = same_attempt j b i a

abbrev pub is_other : ℕ → ℕ → Kept → Bool
is_other i a k = not (owned_by i a k.owner)

-- the run as it is once the attempt has won
abbrev pub committed_by : ℕ → ℕ → Kept → Kept
committed_by i a k = if owned_by i a k.owner then record k { owner = Committed } else k

-- the parts of all runs
abbrev pub all_parts : List Kept → List Part
all_parts kept = flat_map (λ k. k.run.parts) kept

-- the pairs of the runs that pass a test
abbrev pub pairs_where : (Kept → Bool) → List Kept → List Pair
pairs_where test kept = flat_map (λ (r : RunValue). r.sheet) (map (λ (k : Kept). k.run) (filter test kept))

abbrev pub no_kept : Kept
no_kept = record { number = 0; owner = Committed; run = record { sheet = []; parts = [] } }

abbrev pub kept_at : List Kept → ℕ → Kept
kept_at kept i = slice_index_or kept i no_kept

abbrev pub at_number : List Kept → ℕ → ℕ
at_number kept i = (kept_at kept i).number

-- the run at this place has this number and these parts
pub record HasRun (kept : List Kept) (i number : ℕ) (parts : List Part) : Type 0 where
  pub within : i < length kept
  pub number_is : (kept_at kept i).number ≡ number
  pub parts_are : (kept_at kept i).run.parts ≡ parts

-- at these places stand these two runs, and they have one owner
pub record AreMergeable (kept : List Kept) (m n : ℕ) (a : ℕ) (a_parts : List Part) (b : ℕ) (b_parts : List Part) : Type 0 where
  pub first : HasRun kept m a a_parts
  pub second : HasRun kept n b b_parts
  pub owner : (kept_at kept m).owner ≡ (kept_at kept n).owner

-- numbers are apart
abbrev pub AreApart : List Kept → Type 0
AreApart kept = AllPairs (λ k l. k.number ≢ l.number) kept

-- no two runs have one owner
abbrev pub OwnersApart : List Kept → Type 0
OwnersApart kept = (m n : ℕ) → m < n → n < length kept → (kept_at kept m).owner ≡ (kept_at kept n).owner → ⊥

-- a merge in the place of the first run, without the second
abbrev pub joined_at : List Kept → ℕ → ℕ → RunValue → List Kept
joined_at kept m n run = remove (slice_set kept m (record (kept_at kept m) { run = run })) n

-- whether two owners are the same
abbrev pub same_owner : Owner → Owner → Bool
same_owner Committed Committed = true
same_owner Committed (Attempt j b) = false
same_owner (Attempt i a) Committed = false
same_owner (Attempt i a) (Attempt j b) = same_attempt i a j b

-- the runs of an owner, and those of the others
abbrev pub is_owners : Owner → Kept → Bool
is_owners o k = same_owner k.owner o

abbrev pub is_anothers : Owner → Kept → Bool
is_anothers o k = not (is_owners o k)

-- the runs of the owner of the run at this place gave way to one, with that run's number and the parts of all of them
pub record IsOneForOwner (kept : List Kept) (m : ℕ) (new : List Kept) : Type 0 where
  pub run : RunValue
  pub parts : run.parts ≡ all_parts (filter (is_owners (kept_at kept m).owner) kept)
  pub are : new ≡ filter (is_anothers (kept_at kept m).owner) kept ++ record (kept_at kept m) { run = run } ∷ []
