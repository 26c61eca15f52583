-- Histories whose records are of their splits, and of attempts that there may be: so is what they declare.
use Rattle.std.proofs.Common.{◌≡◌, ℕ, ◌≤◌, ◌<◌, ◌==◌, Bool, true, false, cond, List, [], ◌∷◌, refl, subst, Option, Some, None, slice_index, arith}
use Rattle.std.proofs.lemmas.Bool.{eqb-false}
use Rattle.hop_event.specs.declared.declared.Declared.{Declared}
use Rattle.hop_event.specs.declared.event.Event.{Event}
use Rattle.hop_event.specs.declared.event.Event.TheVariants.{Arrive, Ignore, Won, Revoked, Restart, Finish}
use Rattle.hop_event.specs.History.{upto, winner, is_revoked, same_attempt}
use Rattle.hop_event.specs.Coverage.{declared, declared_by, committed_part, leader, tentative_records, Leads}
use Rattle.hop_event.proofs.Leaders.{leader_is_leader}
use Rattle.hop_machine.specs.step.Steps.{Setup}
use Rattle.hop_machine.proofs.reducer.Recording.{same_attempt-true}
use Rattle.hop_ending.specs.Reached.{IsWithin}

-- the event brings records that its split has, of an attempt that there may be, or names such an attempt
abbrev pub IsFine : Setup → Event → Type 0
IsFine s (Arrive part via) = (part.to ≤ slice_index s.lens part.split) × (part.attempt < s.attempts)
IsFine s (Won i a) = a < s.attempts
IsFine s (Ignore part via have) = Unit {0}
IsFine s (Revoked i a) = Unit {0}
IsFine s Restart = Unit {0}
IsFine s Finish = Unit {0}

-- so does each event
abbrev pub AllFine : Setup → List Event → Type 0
AllFine s [] = Unit {0}
AllFine s (e ∷ earlier) = IsFine s e × AllFine s earlier

-- so many records are of the split, and of an attempt that there may be
abbrev Holds : Setup → ℕ → ℕ → ℕ → Type 0
Holds s i a n = (n ≤ slice_index s.lens i) × (0 < n → a < s.attempts)

module _ (s : Setup) (i a : ℕ) where
  holds_none : Holds s i a 0
  holds_none = (omega arith, λ k. absurd (omega (arith, k)))

  holds_one : (j b n m : ℕ) (t : Bool) → (t ≡ true → (j ≡ i) × (b ≡ a)) → n ≤ slice_index s.lens j → b < s.attempts → Holds s i a m → Holds s i a (cond t n m)
  holds_one j b n m true same l k h = let e = same refl in (subst (λ q. n ≤ slice_index s.lens q) e.0 l, λ p. subst (λ q. q < s.attempts) e.1 k)
  holds_one j b n m false same l k h = h

  holds_gone : (m : ℕ) (t : Bool) → Holds s i a m → Holds s i a (cond t 0 m)
  holds_gone m true h = holds_none
  holds_gone m false h = h

  upto_fine : (h : List Event) → AllFine s h → Holds s i a (upto i a h)
  upto_fine [] f = holds_none
  upto_fine (Arrive part via ∷ h) f =
      holds_one part.split part.attempt part.to (upto i a h) (same_attempt part.split part.attempt i a) (same_attempt-true part.split part.attempt i a) f.0.0 f.0.1 (upto_fine h f.1)
  upto_fine (Revoked j b ∷ h) f = holds_gone (upto i a h) (same_attempt j b i a) (upto_fine h f.1)
  upto_fine (Restart ∷ h) f = holds_none
  upto_fine (Ignore part via have ∷ h) f = upto_fine h f.1
  upto_fine (Won j b ∷ h) f = upto_fine h f.1
  upto_fine (Finish ∷ h) f = upto_fine h f.1

-- a winner is an attempt that there may be
pub winner_fine : (s : Setup) (i : ℕ) (h : List Event) → AllFine s h → (a : ℕ) → winner i h ≡ Some a → a < s.attempts
winner_fine s i [] f a w = cc
winner_fine s i (Arrive part via ∷ h) f a w = winner_fine s i h f.1 a w
winner_fine s i (Ignore part via have ∷ h) f a w = winner_fine s i h f.1 a w
winner_fine s i (Won j b ∷ h) f a w = one (j == i) w (winner_fine s i h f.1 a)
  where
    one : (t : Bool) → cond t (Some b) (winner i h) ≡ Some a → (winner i h ≡ Some a → a < s.attempts) → a < s.attempts
    one true e ih = let same : b ≡ a = cc in subst (λ k. k < s.attempts) same f.0
    one false e ih = ih e
winner_fine s i (Revoked j b ∷ h) f a w = winner_fine s i h f.1 a w
winner_fine s i (Restart ∷ h) f a w = winner_fine s i h f.1 a w
winner_fine s i (Finish ∷ h) f a w = winner_fine s i h f.1 a w

-- # What is declared

module _ (s : Setup) (i : ℕ) (h : List Event) (f : AllFine s h) (d : Declared) where
  committed_fine : (a : ℕ) → committed_part a (upto i a h) ≡ Some d → IsWithin s i d
  committed_fine a = one (upto i a h) (upto i a h == 0) (λ e. let k = eqb-false (upto i a h) 0 e in omega (arith, k)) (upto_fine s i a h f)
    where
      one : (n : ℕ) (t : Bool) → (t ≡ false → 0 < n) → Holds s i a n → cond t None (Some (record { attempt = a; records = n; committed = true })) ≡ Some d → IsWithin s i d
      one n true more k e = cc
      one n false more k e =
          let same : record { attempt = a; records = n; committed = true } ≡ d = cc in
          subst (IsWithin s i) same (record { some = more refl; within = k.0; attempt = k.1 (more refl) })

  tentative_holds : (a : ℕ) → Holds s i a (tentative_records i h a)
  tentative_holds a = holds_gone s i a (upto i a h) (is_revoked i a h) (upto_fine s i a h f)

  leads_fine : (o : Option Declared) → Leads (tentative_records i h) 16 o → o ≡ Some d → IsWithin s i d
  leads_fine None l e = cc
  leads_fine (Some x) l e =
      let k = tentative_holds x.attempt in let n = l.its_records in let m = l.some in
      let same : x ≡ d = cc in
      subst (IsWithin s i) same (record { some = m; within = (let w = k.0 in omega (arith, w, n)); attempt = k.1 (omega (arith, n, m)) })

  by_winner : (o : Option ℕ) (t : Bool) → declared_by o t (tentative_records i h) (λ a. upto i a h) ≡ Some d → IsWithin s i d
  by_winner (Some a) t e = committed_fine a e
  by_winner None true e = leads_fine (leader (tentative_records i h) 16) (leader_is_leader (tentative_records i h) 16) e
  by_winner None false e = cc

  pub declared_fine : (t : Bool) → declared t h i ≡ Some d → IsWithin s i d
  declared_fine t e = by_winner (winner i h) t e
