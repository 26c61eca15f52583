-- No part on a sound shelf is of a revoked attempt.
use Rattle.std.proofs.Common.{◌≡◌, ℕ, Bool, true, false, if◌then◌else◌, Some, List, [], ◌∷◌, refl, sym, ap, ◌∙◌, subst, arith, eqb, ◌||◌}
use Rattle.std.specs.Prelude.{All}
use Rattle.std.specs.List.{AllByRecursion}
use Rattle.std.proofs.lemmas.Bool.{eqb-true}
use Rattle.std.proofs.lemmas.List.Elements.{All-append, All-weaker, recursion_from_All}
use Rattle.hop_base.specs.declared.value.Val.{Val}
use Rattle.hop_base.specs.declared.value.Pair.{Pair}
use Rattle.hop_base.specs.declared.part.Part.{Part}
use Rattle.hop_event.specs.declared.event.Event.{Event}
use Rattle.hop_event.specs.declared.event.Event.TheVariants.{Arrive, Ignore, Won, Revoked, Restart, Finish}
use Rattle.hop_event.specs.History.{winner, is_revoked, same_attempt}
use Rattle.hop_event.specs.Legal.{Rules, GrowsLegally}
use Rattle.hop_shelf.specs.declared.kept.Kept.{Kept}
use Rattle.hop_shelf.specs.declared.kept.Owner.{Owner}
use Rattle.hop_shelf.specs.declared.kept.Owner.TheVariants.{Committed, Attempt}
use Rattle.hop_shelf.specs.Kept.{all_parts}
use Rattle.hop_shelf.specs.Journal.{JournalValue}
use Rattle.hop_shelf.specs.Sound.{IsSound, IsKept, AreOwned}
use Rattle.hop_shelf.proofs.SoundLaws.{same_means}

won_alive : (h : List Event) (i a j b : ℕ) (t : Bool) → eqb j i ≡ t → is_revoked j b h ≡ false → (winner i h ≡ Some a → is_revoked i a h ≡ false) → (if t then Some b else winner i h) ≡ Some a → is_revoked i a h ≡ false
won_alive h i a j b true e alive ih w = let same : b ≡ a = cc in subst (λ k. is_revoked k a h ≡ false) (eqb-true j i e) (subst (λ c. is_revoked j c h ≡ false) same alive)
won_alive h i a j b false e alive ih w = ih w

revoked_alive : (h : List Event) (i a j b : ℕ) (t : Bool) → same_attempt j b i a ≡ t → (winner j h ≡ Some b → ⊥) → winner i h ≡ Some a → is_revoked i a h ≡ false → (t || is_revoked i a h) ≡ false
revoked_alive h i a j b true e loses w alive = let s = same_means j b i a e in absurd (loses (subst (λ k. winner k h ≡ Some b) (sym s.0) (w ∙ ap (λ c. Some c) (sym s.1))))
revoked_alive h i a j b false e loses w alive = alive

-- a winner is not revoked
winner_alive : (rules : Rules) (p : ℕ) (h : List Event) (i a : ℕ) → GrowsLegally rules p h → winner i h ≡ Some a → is_revoked i a h ≡ false
winner_alive rules p [] i a legal w = refl
winner_alive rules p (Arrive part via ∷ h) i a legal w = winner_alive rules p h i a legal.1 w
winner_alive rules p (Ignore part via have ∷ h) i a legal w = winner_alive rules p h i a legal.1 w
winner_alive rules p (Won j b ∷ h) i a legal w = won_alive h i a j b (eqb j i) refl legal.0.rule.alive (winner_alive rules p h i a legal.1) w
winner_alive rules p (Revoked j b ∷ h) i a legal w = revoked_alive h i a j b (same_attempt j b i a) refl legal.0.rule.loses w (winner_alive rules p h i a legal.1 w)
winner_alive rules p (Restart ∷ h) i a legal w = winner_alive rules p h i a legal.1 w
winner_alive rules p (Finish ∷ h) i a legal w = winner_alive rules p h i a legal.1 w

owned_alive : (rules : Rules) (p : ℕ) (h : List Event) (parts : List Part) (o : Owner) → GrowsLegally rules p h → AreOwned h parts o → All (λ q. is_revoked q.split q.attempt h ≡ false) parts
owned_alive rules p h parts Committed legal w = All-weaker (λ q. winner q.split h ≡ Some q.attempt) (λ q. is_revoked q.split q.attempt h ≡ false) (λ q. winner_alive rules p h q.split q.attempt legal) parts w
owned_alive rules p h parts (Attempt i a) legal w = All-weaker (λ q. (q.split ≡ i) × (q.attempt ≡ a)) (λ q. is_revoked q.split q.attempt h ≡ false) (λ q e. ap (λ j. is_revoked j q.attempt h) e.0 ∙ ap (λ b. is_revoked i b h) e.1 ∙ w.1) parts w.0

all_alive : (rules : Rules) (p : ℕ) (h : List Event) (kept : List Kept) → GrowsLegally rules p h → AllByRecursion (IsKept h) kept → All (λ q. is_revoked q.split q.attempt h ≡ false) (all_parts kept)
all_alive rules p h [] legal r = λ k d l. absurd (omega (arith, l))
all_alive rules p h (k ∷ kept) legal r = All-append (λ q. is_revoked q.split q.attempt h ≡ false) k.run.parts (all_parts kept) (owned_alive rules p h k.run.parts k.owner legal r.0.owned) (all_alive rules p h kept legal r.1)

pub none_revoked : (rules : Rules) (p : ℕ) (marks : List ℕ) (tentative : Bool) (tells : Bool) (reduce : List ℕ → List Val → List ℕ) (pairs_of : Part → List Pair) (j : JournalValue) (kept : List Kept) → IsSound rules p marks tentative tells reduce pairs_of j kept → All (λ q. is_revoked q.split q.attempt j.events ≡ false) (all_parts kept)
none_revoked rules p marks tentative tells reduce pairs_of j kept s = all_alive rules p j.events kept s.legal (recursion_from_All (IsKept j.events) kept s.fit.each)
