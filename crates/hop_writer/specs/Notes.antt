-- What a writer notes.
use Rattle.std.specs.Prelude.{List, [], ◌∷◌, ◌++◌}
use mathlib.Core.Option.{Option, none, some}

-- the notes, and what a step announces after them
abbrev pub with_said : {A : Type 0} → List A → Option A → List A
with_said notes none = notes
with_said notes (some x) = notes ++ x ∷ []
