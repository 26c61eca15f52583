-- Where a mark is first reached.
use Rattle.std.proofs.Common.{◌≡◌, ℕ, ◌<◌, ◌≤◌, Bool, true, false, if◌then◌else◌, Option, Some, None, List, [], ◌∷◌, length, max, refl, ap, ◌∙◌, arith}
use Rattle.std.specs.Prelude.{nat_le}
use Rattle.std.proofs.lemmas.Bool.Decides.{nat_tests}
use Rattle.hop_event.specs.declared.event.Event.{Event}
use Rattle.hop_event.specs.Coverage.{progress, top_progress, progress_before, cut_at, cut_or}

-- a mark above all progress so far is not reached
pub cut_none : (tentative : Bool) (lens : List ℕ) (m : ℕ) (h : List Event) → top_progress tentative lens h < m → cut_at tentative lens m h ≡ None
cut_none tentative lens m [] l = let f : nat_le m (progress tentative lens []) ≡ false = grind (arith, nat_tests) in rw f refl
cut_none tentative lens m (e ∷ h) l =
    let before : top_progress tentative lens h < m = omega (arith, l) in
    let f : nat_le m (progress tentative lens (e ∷ h)) ≡ false = grind (arith, nat_tests) in
    ap (λ o. cut_or o (nat_le m (progress tentative lens (e ∷ h))) (e ∷ h)) (cut_none tentative lens m h before) ∙ ap (λ b. cut_or None b (e ∷ h)) f

-- a mark that the last event first reached has its cut here
pub cut_now : (tentative : Bool) (lens : List ℕ) (m : ℕ) (h : List Event) → progress_before tentative lens h < m → m ≤ top_progress tentative lens h → cut_at tentative lens m h ≡ Some h
cut_now tentative lens m [] l u = let f : nat_le m (progress tentative lens []) ≡ true = grind (arith, nat_tests) in rw f refl
cut_now tentative lens m (e ∷ h) l u =
    let f : nat_le m (progress tentative lens (e ∷ h)) ≡ true = grind (arith, nat_tests) in
    ap (λ o. cut_or o (nat_le m (progress tentative lens (e ∷ h))) (e ∷ h)) (cut_none tentative lens m h l) ∙ ap (λ b. cut_or None b (e ∷ h)) f

-- ---- and no other mark has its cut here

short_step : (o : Option (List Event)) (b : Bool) (e : Event) (h f : List Event) → ((g : List Event) → o ≡ Some g → length g ≤ length h) → cut_or o b (e ∷ h) ≡ Some f → length f ≤ length (e ∷ h)
short_step (Some g) b e h f ih c = let same : g ≡ f = cc in omega (arith, ih g refl, ap length same)
short_step None true e h f ih c = let same : e ∷ h ≡ f = cc in omega (arith, ap length same)
short_step None false e h f ih c = absurd (let g : None ≡ Some f = c in cc)

-- a cut is a beginning of the history
cut_short : (tentative : Bool) (lens : List ℕ) (m : ℕ) (h f : List Event) → cut_at tentative lens m h ≡ Some f → length f ≤ length h
cut_short tentative lens m [] f c = empty (nat_le m (progress tentative lens [])) c
  where
    empty : (b : Bool) → (if b then Some [] else None) ≡ Some f → length f ≤ 0
    empty true e = let same : [] ≡ f = cc in omega (arith, ap length same)
    empty false e = absurd (let g : None ≡ Some f = e in cc)
cut_short tentative lens m (e ∷ h) f c = short_step (cut_at tentative lens m h) (nat_le m (progress tentative lens (e ∷ h))) e h f (λ g d. cut_short tentative lens m h g d) c

missed_step : (o : Option (List Event)) (b : Bool) (h : List Event) (m now top : ℕ) → nat_le m now ≡ b → (o ≡ None → top < m) → cut_or o b h ≡ None → max now top < m
missed_step (Some g) b h m now top t ih c = absurd (let f : Some g ≡ None = c in cc)
missed_step None true h m now top t ih c = absurd (let f : Some h ≡ None = c in cc)
missed_step None false h m now top t ih c = let low = ih refl in let above : now < m = grind (arith, nat_tests) in omega arith

-- a mark without a cut is above all progress so far
cut_missed : (tentative : Bool) (lens : List ℕ) (m : ℕ) (h : List Event) → cut_at tentative lens m h ≡ None → top_progress tentative lens h < m
cut_missed tentative lens m [] c = empty (nat_le m (progress tentative lens [])) refl c
  where
    empty : (b : Bool) → nat_le m (progress tentative lens []) ≡ b → ◌≡◌ {A = Option (List Event)} (if b then Some [] else None) None → progress tentative lens [] < m
    empty true t e = absurd (let f : Some [] ≡ None = e in cc)
    empty false t e = grind (arith, nat_tests)
cut_missed tentative lens m (e ∷ h) c = missed_step (cut_at tentative lens m h) (nat_le m (progress tentative lens (e ∷ h))) (e ∷ h) m (progress tentative lens (e ∷ h)) (top_progress tentative lens h) refl (λ n. cut_missed tentative lens m h n) c

here_step : (o : Option (List Event)) (b : Bool) (e : Event) (h : List Event) (m now top : ℕ) → nat_le m now ≡ b → ((g : List Event) → o ≡ Some g → length g ≤ length h) → (o ≡ None → top < m) → cut_or o b (e ∷ h) ≡ Some (e ∷ h) → (top < m) × (m ≤ max now top)
here_step (Some g) b e h m now top t short missed c = absurd (let same : g ≡ e ∷ h = cc in omega (arith, short g refl, ap length same))
here_step None true e h m now top t short missed c = let reached : m ≤ now = grind (arith, nat_tests) in (missed refl, omega arith)
here_step None false e h m now top t short missed c = absurd (let f : None ≡ Some (e ∷ h) = c in cc)

-- a mark that has its cut here was first reached by the last event
pub cut_here : (tentative : Bool) (lens : List ℕ) (m : ℕ) (h : List Event) → cut_at tentative lens m h ≡ Some h → 1 ≤ m → (progress_before tentative lens h < m) × (m ≤ top_progress tentative lens h)
cut_here tentative lens m [] c some = empty (nat_le m (progress tentative lens [])) refl c
  where
    empty : (b : Bool) → nat_le m (progress tentative lens []) ≡ b → ◌≡◌ {A = Option (List Event)} (if b then Some [] else None) (Some []) → (0 < m) × (m ≤ progress tentative lens [])
    empty true t e = (omega (arith, some), grind (arith, nat_tests))
    empty false t e = absurd (let f : ◌≡◌ {A = Option (List Event)} None (Some []) = e in cc)
cut_here tentative lens m (e ∷ h) c some = here_step (cut_at tentative lens m h) (nat_le m (progress tentative lens (e ∷ h))) e h m (progress tentative lens (e ∷ h)) (top_progress tentative lens h) refl (λ g d. cut_short tentative lens m h g d) (λ n. cut_missed tentative lens m h n) c
