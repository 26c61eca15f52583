-- What is made of it.
use Rattle.std.specs.Prelude.{◌≡◌, ℕ, Bool, false, List, Some}
use Rattle.std.specs.List.{slice_get}
use Rattle.hop_base.specs.Meaning.{Meaning}
use Rattle.hop_base.specs.Run.{RunSettings}
use Rattle.hop_machine.specs.step.Steps.{Setup, Verdicts}
use Rattle.hop_machine.specs.actors.MapperTurns.{Mapper}
use Rattle.hop_machine.specs.actors.ReducerTurns.{Reducer}
use Rattle.hop_machine.specs.home.Starts.{new_writer}
use Rattle.hop_machine.specs.play.Play.{Actors}
use Rattle.hop_board.specs.declared.plain_board.Made.{Made}
use Rattle.hop_board.specs.PlainBoards.{words_of, verdicts_of}
use Rattle.hop_board.specs.SharedLogs.{LogValue}
use Rattle.hop_press.specs.Fits.{HeldFits}
use Rattle.hop_mapper.specs.Mappers.{MapperValue}

-- a seat of the board of one thread
abbrev pub Seat : Type 0
Seat = LogValue Made

-- what such a seat knows
abbrev pub known_by : Seat → Verdicts
known_by seat = verdicts_of (words_of seat.items)

-- the name of its board
abbrev pub board_of : Seat → List ℕ
board_of seat = seat.name

-- the folder in which the mapper keeps its spills
abbrev pub folder_of : {V K : Type 0} → MapperValue V K → V
folder_of m = m.vault.folder

-- no turn of the mapper failed, and what it holds can be sent over ends of any board
pub record IsFresh (job : Meaning) (records : List (List ℕ)) (settings : RunSettings) (tells : Bool) {V : Type 0} (m : MapperValue V Seat) : Type 0 where
  pub well : m.failed ≡ false
  pub fits : (board : List ℕ) → HeldFits job records settings tells m.vault.rows known_by board_of board m.held

-- so of each of these mappers
abbrev pub AreFresh : Meaning → List (List ℕ) → RunSettings → Bool → {V : Type 0} → List (MapperValue V Seat) → Type 0
AreFresh job records settings tells ms = (k : ℕ) (m : MapperValue _ Seat) → slice_get ms k ≡ Some m → IsFresh job records settings tells m

-- these mappers and these reducers, and the writer as it is made
abbrev pub actors_with : Setup → List Mapper → List Reducer → Actors
actors_with setup mappers reducers = record { mappers = mappers; reducers = reducers; writer = new_writer setup }
