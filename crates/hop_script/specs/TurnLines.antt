-- The lines of a turn list.
use Rattle.std.specs.Prelude.{◌≡◌, ℕ, ◌+◌, Bool, true, false, nat_lt, ◌<◌, ◌≤◌, ◌==◌, List, [], ◌∷◌, map, sum_by, length, take, Option, None, Some, slice_index_or, if◌then◌else◌}
use Rattle.std.specs.List.{filter_map}
use Rattle.std.specs.Option.{option_and_then}
use Rattle.hop_script.specs.Number.{number_of, ◌>>=◌}
use Rattle.hop_script.specs.Text.{lines_of, words_of, first_of_lines}
use Rattle.hop_script.specs.declared.turn.Actors.{Actors}
use Rattle.hop_script.specs.declared.turn.Turn.{Turn}
use Rattle.hop_script.specs.declared.turn.TurnOf.{TurnOf}
use Rattle.hop_script.specs.declared.turn.TurnOf.TheVariants.{Mapper, Reducer, Merger, Writer, CatchUp}

-- the number below `end` that the digits spell
abbrev pub number_below : ℕ → List ℕ → Option ℕ
number_below end digits = do
  n ← number_of 0 255 digits
  if nat_lt n end then Some n else None

-- the actor of a kind, which stands as one letter, with a number behind it
abbrev pub numbered : Actors → ℕ → List ℕ → Option TurnOf
numbered actors kind digits =
    if kind == 109 then (number_below actors.workers digits >>= λ w. Some (Mapper w))
    else (if kind == 114 then (number_below actors.reducers digits >>= λ p. Some (Reducer p))
    else (if kind == 103 then (number_below actors.mergers digits >>= λ j. Some (Merger j)) else None))

-- the actor that the word names, if the run has it: `mW`, `rP`, `gJ`, `s` or `c`
abbrev pub actor_of : Actors → List ℕ → Option TurnOf
actor_of actors [] = None
actor_of actors (kind ∷ []) = if kind == 115 then Some Writer else (if kind == 99 then Some CatchUp else None)
actor_of actors (kind ∷ digit ∷ digits) = numbered actors kind (digit ∷ digits)

-- the turns that the words are: an actor, or an actor and how many turns it takes
abbrev pub turn_form : Actors → List (List ℕ) → Option Turn
turn_form actors (word ∷ []) = do
  actor ← actor_of actors word
  Some (record { actor = actor; count = 1 })
turn_form actors (word ∷ number ∷ []) = do
  actor ← actor_of actors word
  count ← number_of 1 1000000 number
  Some (record { actor = actor; count = count })
turn_form actors words = None

-- what each line of the text says, None for one that has none of the forms or names an actor that isn't there
abbrev pub turns_said : Actors → List ℕ → List (Option Turn)
turns_said actors text = map (option_and_then (λ line. turn_form actors (words_of line))) (lines_of text)

-- the lines that say something
abbrev pub given_turns : List (Option Turn) → List Turn
given_turns said = filter_map (λ turn. turn) said

-- how many turns there are
abbrev pub turn_count : List Turn → ℕ
turn_count turns = sum_by (λ (turn : Turn). turn.count) turns

-- a line is bad behind so many turns: it says nothing, or brings the number of turns above 1,000,000
abbrev pub is_bad_behind : ℕ → Option Turn → Bool
is_bad_behind before None = true
is_bad_behind before (Some turn) = nat_lt 1000000 (before + turn.count)

-- line k, counted from 0, is bad
abbrev pub is_bad_turn : List (Option Turn) → ℕ → Bool
is_bad_turn said k = is_bad_behind (turn_count (given_turns (take k said))) (slice_index_or said k None)

-- the number of the first bad line of the text, counted from 1, if there is one
abbrev pub first_bad_turn : Actors → List ℕ → Option ℕ
first_bad_turn actors text = let said = turns_said actors text in first_of_lines (is_bad_turn said) (length said)

-- the turns of the text, in order
abbrev pub turns_of : Actors → List ℕ → List Turn
turns_of actors text = given_turns (turns_said actors text)

-- the run has the actor
abbrev pub HasActor : Actors → TurnOf → Type 0
HasActor actors (Mapper w) = w < actors.workers
HasActor actors (Reducer p) = p < actors.reducers
HasActor actors (Merger j) = j < actors.mergers
HasActor actors Writer = Unit {0}
HasActor actors CatchUp = Unit {0}

-- turns of an actor that the run has
pub record IsTurn (actors : Actors) (turn : Turn) : Type 0 where
  pub actor : HasActor actors turn.actor
  pub some : 1 ≤ turn.count
  pub few : turn.count ≤ 1000000

-- the first line of the text is bad behind so many turns
abbrev pub BeginsBadly : Actors → List ℕ → ℕ → Type 0
BeginsBadly actors text before = (first : Option Turn) × (later : List (Option Turn)) × (turns_said actors text ≡ first ∷ later) × (is_bad_behind before first ≡ true)

-- the first line of the text gives this turn behind so many, and another text follows
pub record Begins (actors : Actors) (text : List ℕ) (before : ℕ) (turn : Turn) (after : List ℕ) : Type 0 where
  pub said : turns_said actors text ≡ Some turn ∷ turns_said actors after
  pub known : IsTurn actors turn
  pub good : is_bad_behind before (Some turn) ≡ false
  pub shorter : length after < length text
