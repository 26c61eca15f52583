-- What an actor is in the machine, and what a turn of it wants and does.
use Rattle.std.specs.Prelude.{◌≡◌, ◌^◌, ◌<◌, Bool}
use Rattle.hop_actors.specs.declared.turn.Turn.{Turn}
use Rattle.hop_actors.specs.declared.turn.Turn.TheVariants as answer
use Rattle.hop_actors.specs.declared.turn.Kind.{Kind}
use Rattle.hop_actors.specs.declared.turn.Kind.TheVariants as kind
use Rattle.hop_actors.specs.declared.fault.Fault.{Fault}
use Rattle.hop_actors.specs.declared.fault.Fault.TheVariants as fault
use Rattle.hop_machine.specs.declared.words.Turn.{Turn as Said}
use Rattle.hop_machine.specs.declared.words.Turn.TheVariants as said
use Rattle.hop_machine.specs.step.Steps.{Deeds, Runs}
use Rattle.hop_machine.specs.actors.MapperTurns.{Mapper, mapper_turn}
use Rattle.hop_machine.specs.actors.ReducerTurns.{Reducer, Writer, reducer_turn, writer_turn}
use Rattle.hop_machine.specs.home.MapperHome.{MapperAtHome}
use Rattle.hop_machine.specs.home.ReducerHome.{IsSetup, ReducerAtHome, WriterAtHome, NoneDue}
use Rattle.hop_machine.specs.home.Conditions.{HasMapper, HasReducer, HasWriter}
use Rattle.hop_machine.specs.play.Play.{Learns}

-- # Answers

-- a fault, as the machine sees it: a split with no attempt left, or want of memory or a folder that failed
abbrev pub said_fault : Fault → Said
said_fault (fault.SpentAt split) = said.Spent split
said_fault fault.FolderFailed = said.Stopped
said_fault (fault.SpillFailed worker) = said.Stopped
said_fault (fault.SpillDamaged worker at kept found) = said.Stopped
said_fault (fault.SpillCollides worker at place) = said.Stopped
said_fault fault.NoMemory = said.Stopped

-- an answer, as the machine sees it
abbrev pub said_turn : Turn → Said
said_turn answer.Worked = said.Worked
said_turn answer.Idle = said.Idle
said_turn answer.Ended = said.Ended
said_turn (answer.Failed fault) = said_fault fault

-- # Actors

-- An actor's part of the machine. A merger has none: what it does changes no history.
pub data Acting : Type 0 where
  Maps : Mapper → Acting
  Reduces : Reducer → Acting
  Writes : Writer → Acting
  Merges : Acting

-- what kind of actor that is
abbrev pub kind_of : Acting → Kind
kind_of (Maps m) = kind.Mapper
kind_of (Reduces r) = kind.Reducer
kind_of (Writes x) = kind.Writer
kind_of Merges = kind.Merger

-- a mapper at home may take a turn in a value that has its ends, as long as its end of the board has calls left
pub record MayMap (m : Mapper) (d : Deeds) : Type 0 where
  pub home : MapperAtHome m d
  pub ends : HasMapper m.number d
  pub turns : m.turns < 2 ^ 56

-- a reducer at home may be called in a value that has its ends
pub record MayCall (r : Reducer) (d : Deeds) : Type 0 where
  pub setup : IsSetup d.setup
  pub home : ReducerAtHome r d
  pub ends : HasReducer r.number d

-- and may take a turn where none of its cuts is due
pub record MayReduce (r : Reducer) (d : Deeds) : Type 0 where
  pub call : MayCall r d
  pub none_due : NoneDue r.number d

-- so may a writer at home
pub record MayWrite (x : Writer) (d : Deeds) : Type 0 where
  pub setup : IsSetup d.setup
  pub home : WriterAtHome x d
  pub ends : HasWriter d

-- when an actor may take a turn
abbrev pub MayTurn : Acting → Deeds → Type 0
MayTurn (Maps m) d = MayMap m d
MayTurn (Reduces r) d = MayReduce r d
MayTurn (Writes x) d = MayWrite x d
MayTurn Merges d = Unit {0}

-- it is a mapper still, and its program ran
abbrev pub MapTurned : Bool → Mapper → Deeds → Acting → Said → Deeds → Type 0
MapTurned e m a (Maps y) t b = Runs e (mapper_turn m) a (y, t) b
MapTurned e m a y t b = ⊥

-- a reducer
abbrev pub ReduceTurned : Bool → Reducer → Deeds → Acting → Said → Deeds → Type 0
ReduceTurned e r a (Reduces y) t b = Runs e (reducer_turn r) a (y, t) b
ReduceTurned e r a y t b = ⊥

-- the writer
abbrev pub WriteTurned : Bool → Writer → Deeds → Acting → Said → Deeds → Type 0
WriteTurned e x a (Writes y) t b = Runs e (writer_turn x) a (y, t) b
WriteTurned e x a y t b = ⊥

-- a turn: the actor's program ran, and gave what it is now and the answer; a merger's turn is no step, and leaves the value the same ends
abbrev pub Turned : Bool → Acting → Deeds → Acting → Said → Deeds → Type 0
Turned e (Maps m) a y t b = MapTurned e m a y t b
Turned e (Reduces r) a y t b = ReduceTurned e r a y t b
Turned e (Writes x) a y t b = WriteTurned e x a y t b
Turned e Merges a y t b = (y ≡ Merges) × Learns e a b × (b.ends ≡ a.ends)
