-- A run of the tests as it begins.
use Rattle.std.proofs.Common.{◌≡◌, ℕ, zero, suc, ◌<◌, arith, Bool, true, false, nat_lt, cond, List, [], ◌∷◌, Some, None, refl, sym, ap, ◌∙◌, subst}
use Rattle.std.specs.List.{slice_get}
use Rattle.std.specs.Prelude.{◌&&◌, Option, filter, nat_le}
use Rattle.hop_event.specs.Coverage.{declared, first_reached, progress_of, tentative_records}
use Rattle.hop_event.specs.declared.declared.Declared.{Declared}
use Rattle.hop_event.proofs.CoverageLaws.{leader_nothing}
use Rattle.hop_ports.specs.Clean.{nothing_held}
use Rattle.hop_ports.specs.Memory.{memory_view}
use Rattle.hop_ports.specs.declared.memory.MemFolder.{MemFolder}
use Rattle.hop_machine.specs.step.Steps.{Setup, Deeds}
use Rattle.hop_machine.specs.actors.ReducerTurns.{marks_due}
use Rattle.hop_machine.specs.play.FirstState.{nothing_under_lock}
use Rattle.hop_machine.specs.run.AllHome.{new_deeds, AllNoneDue}
use Rattle.hop_start.specs.Given.{IsSpillFolder, AreSpillFolders}
use Rattle.hop_actor_tests.specs.Runs.{no_files}

-- # At first no cut is due

none_of : (t : Bool) (due : List ℕ) → due ≡ [] → (cond t (record { events = []; due = due }) nothing_under_lock).due ≡ []
none_of true due e = e
none_of false due e = refl

pub none_due : (s : Setup) (d : Deeds) → marks_due s [] ≡ [] → d ≡ new_deeds s d.ends → AllNoneDue d
none_due s d none new q l = ap (λ (x : Deeds). (x.did.keeps q).due) new ∙ none_of (nat_lt q s.reducers) (marks_due s []) none

-- without marks
pub no_marks : (s : Setup) → s.marks ≡ [] → marks_due s [] ≡ []
no_marks s e = λ i. first_reached s.tentative s.lens (e i) []

-- with marks above what nothing reaches
nothing_declared : (tentative : Bool) (i : ℕ) → declared tentative [] i ≡ None
nothing_declared true i = leader_nothing (tentative_records i []) 16 (λ a below. refl)
nothing_declared false i = refl

pub none_reached : (tentative : Bool) (lens marks : List ℕ) → filter (λ m. nat_lt 0 m && nat_le m (progress_of lens (λ i. None))) marks ≡ [] → first_reached tentative lens marks [] ≡ []
none_reached tentative lens marks none =
    ap (λ (at : ℕ → Option Declared). filter (λ m. nat_lt 0 m && nat_le m (progress_of lens at)) marks) (λ j i. nothing_declared tentative i j) ∙ none

-- # Folders that hold nothing

empty_at : (w : ℕ) → w < 2 → IsSpillFolder true no_files w nothing_held
empty_at zero l = record { told = λ _. refl; start = refl }
empty_at (suc zero) l = record { told = λ _. refl; start = refl }
empty_at (suc (suc w)) l = absurd (omega arith)

empty_folder : (w : ℕ) → w < 2 → (f : MemFolder) → memory_view f ≡ nothing_held → IsSpillFolder true no_files w (memory_view f)
empty_folder w l f e = subst (IsSpillFolder true no_files w) (sym e) (empty_at w l)

same_folder : (f g : MemFolder) → Some f ≡ Some g → f ≡ g
same_folder f g e = cc

no_folder : (P : Type 0) (g : MemFolder) → None ≡ Some g → P
no_folder P g e = cc

pub one_folder : (x : MemFolder) → memory_view x ≡ nothing_held → AreSpillFolders true no_files 1 memory_view (x ∷ [])
one_folder x e = record { count = refl; each = each } where
  each : (w : ℕ) (f : MemFolder) → slice_get (x ∷ []) w ≡ Some f → IsSpillFolder true no_files w (memory_view f)
  each zero f is = subst (λ (g : MemFolder). IsSpillFolder true no_files 0 (memory_view g)) (same_folder x f is) (empty_folder 0 (omega arith) x e)
  each (suc w) f is = no_folder (IsSpillFolder true no_files (suc w) (memory_view f)) f is

pub two_folders : (x y : MemFolder) → memory_view x ≡ nothing_held → memory_view y ≡ nothing_held → AreSpillFolders true no_files 2 memory_view (x ∷ y ∷ [])
two_folders x y e k = record { count = refl; each = each } where
  each : (w : ℕ) (f : MemFolder) → slice_get (x ∷ y ∷ []) w ≡ Some f → IsSpillFolder true no_files w (memory_view f)
  each zero f is = subst (λ (g : MemFolder). IsSpillFolder true no_files 0 (memory_view g)) (same_folder x f is) (empty_folder 0 (omega arith) x e)
  each (suc zero) f is = subst (λ (g : MemFolder). IsSpillFolder true no_files 1 (memory_view g)) (same_folder y f is) (empty_folder 1 (omega arith) y k)
  each (suc (suc w)) f is = no_folder (IsSpillFolder true no_files (suc (suc w)) (memory_view f)) f is
