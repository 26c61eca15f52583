-- What the shelves of a run that is over tell.
use Rattle.std.proofs.Common.{◌≡◌, ℕ, ◌+◌, ◌<◌, false, List, length, map, get_or, refl, sym, ap, subst, ◌∙◌, arith}
use Rattle.std.specs.Prelude.{All, ◌==◌}
use Rattle.std.specs.List.{range_with_len}
use Rattle.std.proofs.lemmas.Bool.Decides.{nat_tests}
use Rattle.std.proofs.lemmas.List.{get_or-map, length-map}
use Rattle.std.proofs.lemmas.List.FromFn.{get_or-map-range_with_len, length-map-range_with_len}
use Rattle.std.proofs.lemmas.Simd.{map-map}
use Rattle.hop_event.specs.declared.event.Event.{Event}
use Rattle.hop_event.specs.Legal.{AllWon}
use Rattle.hop_shelf.specs.Sound.{ShelfValue}
use Rattle.hop_machine.specs.step.Steps.{Deeds, at1}
use Rattle.hop_finish.specs.Left.{EachWon, numbered_history, recorded, recorded_of}

-- at a later place the function is as before
pub at_later : {A : Type 0} (f : ℕ → A) (p q : ℕ) (x : A) → p < q → at1 f p x q ≡ f q
at_later f p q x h = let e : (q == p) ≡ false = grind (arith, nat_tests) in rw e refl

module _ (d : Deeds) (n : ℕ) (shelves : List ShelfValue) (told : map numbered_history shelves ≡ recorded_of d n) where
  pub shelves-length : length shelves ≡ n
  shelves-length = sym (length-map shelves numbered_history) ∙ ap (λ (xs : List (ℕ × List Event)). length xs) told ∙ length-map-range_with_len (recorded d) 0 n

  -- what is read off each shelf's number and history
  pub along : {B : Type 0} (f : ℕ × List Event → B) → map (λ s. f (numbered_history s)) shelves ≡ map (λ p. f (recorded d p)) (range_with_len 0 n)
  along f = sym (map-map f numbered_history shelves) ∙ ap (map f) told ∙ map-map f (recorded d) (range_with_len 0 n)

  -- the shelf at a place
  at_place : (k : ℕ) (s : ShelfValue) → k < length shelves → numbered_history (get_or shelves k s) ≡ recorded d k
  at_place k s within =
      let below : k < n = omega (arith, within, shelves-length) in
      let first : 0 + k ≡ k = omega arith in
      sym (get_or-map numbered_history shelves k s (numbered_history s) within)
      ∙ ap (λ (xs : List (ℕ × List Event)). get_or xs k (numbered_history s)) told
      ∙ get_or-map-range_with_len (recorded d) 0 n k k (numbered_history s) below first

  pub each_won : (lens : List ℕ) → EachWon lens d n → All (λ (s : ShelfValue). AllWon lens s.journal.events) shelves
  each_won lens won = λ k s within.
      subst (λ (h : List Event). AllWon lens h) (sym (ap (λ (x : ℕ × List Event). x.1) (at_place k s within))) (won k (omega (arith, within, shelves-length)))
