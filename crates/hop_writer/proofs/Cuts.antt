-- A cut that a cut lane allows declares each split, and has the progress of what it declares.
use Rattle.std.proofs.Common.{◌≡◌, ℕ, zero, suc, ◌+◌, ◌<◌, ◌≤◌, ◌/◌, Bool, List, [], ◌∷◌, ◌++◌, length, None, refl, sym, ap, ◌∙◌, arith, if◌then◌else◌, ◌==◌}
use Rattle.std.specs.Prelude.{map, sum}
use Rattle.std.specs.List.{range_with_len}
use Rattle.std.proofs.lemmas.List.FromFn.{length-map-range_with_len, get_or-map-range_with_len}
use Rattle.hop_event.specs.declared.event.Event.{Event}
use Rattle.hop_event.specs.Coverage.{declared, progress, progress_of, score_of}
use Rattle.hop_cut.specs.Covered.{declared_at}
use Rattle.hop_machine.specs.step.Setup.{Setup, CutSaid}
use Rattle.hop_machine.specs.step.CutLane.{IsCutAbove, AreCutsFrom}
use Rattle.hop_writer.specs.Snapshots.{IsWhole}

-- two functions that agree from a on give one list
same_in : (f g : ℕ → ℕ) (a k : ℕ) → ((i : ℕ) → a ≤ i → i < a + k → f i ≡ g i) → map f (range_with_len a k) ≡ map g (range_with_len a k)
same_in f g a zero h = refl
same_in f g a (suc k) h = λ j. h a (omega arith) (omega arith) j ∷ same_in f g (a + 1) k (λ i l m. h i (omega arith) (omega arith)) j

-- the progress of what a history covers is that of the list of it
same_progress : (tentative : Bool) (lens : List ℕ) (h : List Event) → progress tentative lens h ≡ progress_of lens (declared_at (map (declared tentative h) (range_with_len 0 (length lens))))
same_progress tentative lens h =
    let c = map (declared tentative h) (range_with_len 0 (length lens)) in
    ap (λ (scores : List ℕ). if length lens == 0 then 10000 else sum scores / length lens)
    (same_in (λ i. score_of lens i (declared tentative h i)) (λ i. score_of lens i (declared_at c i)) 0 (length lens) (λ i l m. ap (score_of lens i) (sym (get_or-map-range_with_len (declared tentative h) 0 (length lens) i i None (omega arith) (omega arith)))))

pub whole : (s : Setup) (low : ℕ) (c : CutSaid) → IsCutAbove s low c → IsWhole s.lens c
whole s low c h = record {
  each = ap length h.declares ∙ length-map-range_with_len (declared s.tentative h.history) 0 (length s.lens);
  progress_is = h.progress_is ∙ same_progress s.tentative s.lens h.history ∙ ap (λ x. progress_of s.lens (declared_at x)) (sym h.declares);
}

-- so is the last of the cuts
pub last_whole : (s : Setup) (cuts : List CutSaid) (c : CutSaid) (low : ℕ) → AreCutsFrom s low (cuts ++ c ∷ []) → IsWhole s.lens c
last_whole s [] c low h = whole s low c h.0
last_whole s (x ∷ cuts) c low h = last_whole s cuts c x.mark h.1
