-- A list, and older parts of it.
use Rattle.std.specs.Prelude.{◌≡◌, ℕ, Bool, true, List, ◌++◌}
use mathlib.Core.Option.{some}
use lib.ListN.{get_elem?}
use Rattle.hop_board.specs.declared.shared_log.Known.{Known}

-- the list, and the name of the table where it stands
pub record LogValue (T : Type 0) : Type 0 where
  pub name : List ℕ
  pub items : List T

module _ {T : Type 0} where
  -- the list ends with the other: its last items stand first
  abbrev pub Ends : List T → List T → Type 0
  Ends items older = (newer : List T) × (items ≡ newer ++ older)

  -- what a seat knows
  abbrev pub known : Bool → List T → List T → Known T
  known writes items heard = record { writes = writes; items = items; heard = heard }

  -- What the seat knows is an older part of the list; the one that writes knows it all.
  pub record IsOlder (writer : ℕ) (log : List T) (port : ℕ) (v : Known T) : Type 0 where
    pub items : Ends log v.items
    pub heard : Ends log v.heard
    pub writes : v.writes ≡ true → (port ≡ writer) × (v.items ≡ log)

  -- so does each seat
  abbrev pub EachOlder : ℕ → List T → List (Known T) → Type 0
  EachOlder writer log views = (port : ℕ) (v : Known T) → get_elem? views port ≡ some v → IsOlder writer log port v

  -- one seat writes, and the others know older parts
  pub record Shares (views : List (Known T)) : Type 0 where
    pub writer : ℕ
    pub log : List T
    pub each : EachOlder writer log views
