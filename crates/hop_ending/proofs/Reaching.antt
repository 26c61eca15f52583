-- A cut that a cut lane allows, and that declares what a fine history does, is one of a mark that was reached.
use Rattle.std.proofs.Common.{◌≡◌, ℕ, zero, suc, ◌+◌, ◌<◌, List, [], ◌∷◌, ◌++◌, length, map, sum, drop, refl, sym, ap, ◌∙◌, subst, inl, inr, Option, Some, None, slice_index_or, if◌then◌else◌, ◌==◌, ◌/◌, arith}
use Rattle.std.specs.List.{Contains, range_with_len}
use Rattle.std.proofs.lemmas.List.FromFn.{get_or-map-range_with_len, length-map-range_with_len}
use Rattle.hop_event.specs.declared.declared.Declared.{Declared}
use Rattle.hop_event.specs.declared.event.Event.{Event}
use Rattle.hop_event.specs.Coverage.{declared, progress_of, score_of}
use Rattle.hop_machine.specs.step.Steps.{Setup, CutSaid}
use Rattle.hop_machine.specs.step.CutLane.{IsMark, IsCutAbove, AreCutsFrom, AreCuts}
use Rattle.hop_machine.specs.actors.ReducerTurns.{cut_after}
use Rattle.hop_ending.specs.Reached.{IsWithin, IsReached}
use Rattle.hop_ending.proofs.FineHistories.{AllFine, declared_fine}

-- what the cut declares is within the splits
abbrev pub IsWithinCut : Setup → CutSaid → Type 0
IsWithinCut s c = (i : ℕ) (d : Declared) → i < length s.lens → slice_index_or c.declared i None ≡ Some d → IsWithin s i d

-- so is that of each cut
abbrev pub AreWithin : Setup → List CutSaid → Type 0
AreWithin s [] = Unit {0}
AreWithin s (c ∷ cuts) = IsWithinCut s c × AreWithin s cuts

pub within_last : (s : Setup) (cuts : List CutSaid) (c : CutSaid) → AreWithin s cuts → IsWithinCut s c → AreWithin s (cuts ++ c ∷ [])
within_last s [] c h k = (k, tt)
within_last s (x ∷ cuts) c h k = (h.0, within_last s cuts c h.1 k)

-- what a table of the splits says at each
table_is : (s : Setup) (f : ℕ → Option Declared) (i : ℕ) → i < length s.lens → slice_index_or (map f (range_with_len 0 (length s.lens))) i None ≡ f i
table_is s f i l = get_or-map-range_with_len f 0 (length s.lens) i i None l (omega arith)

-- the cut of a fine history is within the splits
pub cut_fine : (s t : Setup) (h : List Event) (m : ℕ) → t ≡ s → AllFine s h → IsWithinCut s (cut_after t h m)
cut_fine s t h m e f = subst (λ k. IsWithinCut s (cut_after k h m)) (sym e) (λ i d l g. declared_fine s i h f d s.tentative (sym (table_is s (declared s.tentative h) i l) ∙ g))

-- # What a cut lane allows

is_among : (marks : List ℕ) (m : ℕ) → IsMark marks m → Contains marks m
is_among [] m h = absurd h
is_among (n ∷ marks) m (inl e) = (zero, omega arith, sym e)
is_among (n ∷ marks) m (inr h) = let t = is_among marks m h in let l = t.1 in (suc t.0, omega (arith, l), t.2)

last_allowed : (s : Setup) (low : ℕ) (cuts : List CutSaid) (c : CutSaid) → AreCutsFrom s low (cuts ++ c ∷ []) → (k : ℕ) × IsCutAbove s k c
last_allowed s low [] c h = (low, h.0)
last_allowed s low (x ∷ cuts) c h = last_allowed s x.mark cuts c h.1

same_map : {X : Type 0} (f g : ℕ → X) (at n : ℕ) → ((i : ℕ) → i < at + n → f i ≡ g i) → map f (range_with_len at n) ≡ map g (range_with_len at n)
same_map f g at zero e = refl
same_map f g at (suc n) e = λ j. e at (omega arith) j ∷ same_map f g (at + 1) n (λ i l. e i (omega (arith, l))) j

-- the progress of a table is that of what it says
progress_same : (s : Setup) (f g : ℕ → Option Declared) → ((i : ℕ) → i < length s.lens → f i ≡ g i) → progress_of s.lens f ≡ progress_of s.lens g
progress_same s f g e =
    ap (λ (xs : List ℕ). if length s.lens == 0 then 10000 else sum xs / length s.lens)
    (same_map (λ i. score_of s.lens i (f i)) (λ i. score_of s.lens i (g i)) 0 (length s.lens) (λ i l. ap (score_of s.lens i) (e i (omega (arith, l)))))

above_reached : (s : Setup) (low : ℕ) (c : CutSaid) → IsCutAbove s low c → IsWithinCut s c → IsReached s c
above_reached s low c h w =
    let f = declared s.tentative h.history in
    record {
      marked = is_among s.marks c.mark h.mark;
      each = ap length h.declares ∙ length-map-range_with_len f 0 (length s.lens);
      within = w;
      progress_is = h.progress_is ∙ progress_same s f (λ i. slice_index_or c.declared i None)
          (λ i l. sym (ap (λ (xs : List (Option Declared)). slice_index_or xs i None) h.declares ∙ table_is s f i l));
      reaches = h.reached;
    }

pub last_reached : (s : Setup) (cuts : List CutSaid) (c : CutSaid) → AreCuts s (cuts ++ c ∷ []) → IsWithinCut s c → IsReached s c
last_reached s cuts c h w = let t = last_allowed s 0 cuts c h in above_reached s t.0 c t.1 w

-- the first of what lies in a lane
pub first_within : (s : Setup) (n : ℕ) (cuts : List CutSaid) (c : CutSaid) → AreWithin s cuts → Some c ≡ Rattle.hop_machine.specs.step.Steps.first (drop n cuts) → IsWithinCut s c
first_within s zero [] c h e = cc
first_within s (suc n) [] c h e = cc
first_within s zero (x ∷ cuts) c h e = let same : x ≡ c = cc in subst (IsWithinCut s) same h.0
first_within s (suc n) (x ∷ cuts) c h e = first_within s n cuts c h.1 e
