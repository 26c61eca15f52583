-- When the histories of the reducers of a run agree. Their last events stand first.
use Rattle.std.specs.Prelude.{◌≡◌, ℕ, false, Some, List, [], slice_index_or}
use Rattle.hop_event.specs.declared.event.Event.{Event}
use Rattle.hop_event.specs.History.{winner, is_revoked}

-- the history of reducer p
abbrev pub history_at : List (List Event) → ℕ → List Event
history_at histories p = slice_index_or histories p []

-- Two winners of one split are equal, and no attempt is won in one history and revoked in any.
pub record Agree (histories : List (List Event)) : Type 0 where
  pub winners : (p q i a b : ℕ) → winner i (history_at histories p) ≡ Some a → winner i (history_at histories q) ≡ Some b → a ≡ b
  pub alive : (p q i a : ℕ) → winner i (history_at histories p) ≡ Some a → is_revoked i a (history_at histories q) ≡ false
