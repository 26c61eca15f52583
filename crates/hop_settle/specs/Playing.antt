-- The turns of a turn list, as a run takes them.
use Rattle.std.specs.Prelude.{◌≡◌, ℕ, zero, suc, Bool, List, [], ◌∷◌, Some, Result, Ok, Err}
use Rattle.std.specs.List.{slice_get}
use Rattle.hop_script.specs.declared.turn.Actors.{Actors as Numbers}
use Rattle.hop_script.specs.declared.turn.Turn.{Turn}
use Rattle.hop_script.specs.declared.turn.TurnOf.{TurnOf as Line}
use Rattle.hop_script.specs.declared.turn.TurnOf.TheVariants as line
use Rattle.hop_machine.specs.declared.words.Who.TheVariants as whose
use Rattle.hop_machine.specs.play.Play.{Order, TurnOf, CatchUp, Place, NoneLeft, Halted, World, Went}
use Rattle.hop_actors.specs.declared.fault.Fault.{Fault}
use Rattle.hop_actors.specs.declared.fault.Fault.TheVariants as fault
use Rattle.hop_actors.specs.Acting.{Acting, Merges}

-- what a line asks for
abbrev pub order_of : Line → Order
order_of (line.Mapper w) = TurnOf (whose.Mapper w)
order_of (line.Reducer p) = TurnOf (whose.Reducer p)
order_of (line.Merger j) = TurnOf (whose.Merger j)
order_of line.Writer = TurnOf whose.Writer
order_of line.CatchUp = CatchUp

-- so often, and then the later ones
abbrev pub repeated : ℕ → Order → List Order → List Order
repeated zero o later = later
repeated (suc n) o later = o ∷ repeated n o later

-- each line's actor as often as its count says
abbrev pub orders_of : List Turn → List Order
orders_of [] = []
orders_of (t ∷ turns) = repeated t.count (order_of t.actor) (orders_of turns)

-- how many actors of each kind there are
abbrev pub numbers : ℕ → ℕ → ℕ → Numbers
numbers workers reducers mergers = record { workers = workers; reducers = reducers; mergers = mergers }

-- each of these actors is a merger
abbrev pub AreMergers : {G : Type 0} → (G → Acting) → List G → Type 0
AreMergers acting gs = (k : ℕ) (x : _) → slice_get gs k ≡ Some x → acting x ≡ Merges

-- Where a fault ends a run: a split has no attempt left, or the run is halted. Want of memory leaves it where it came to, since a merger's turn is no step.
abbrev pub EndsAt : Fault → Place → Type 0
EndsAt (fault.SpentAt i) at = at ≡ NoneLeft i
EndsAt fault.FolderFailed at = at ≡ Halted
EndsAt (fault.SpillFailed worker) at = at ≡ Halted
EndsAt (fault.SpillDamaged worker part kept found) at = at ≡ Halted
EndsAt (fault.SpillCollides worker part byte) at = at ≡ Halted
EndsAt fault.NoMemory at = Unit {0}

-- the run went to where it goes on, or to where a fault ended it
abbrev pub WentOn : Bool → Place × World → Result (Unit {0}) Fault → Place → World → Type 0
WentOn e a (Ok x) go w = Went e a (go, w)
WentOn e a (Err f) go w = (at : Place) × Went e a (at, w) × EndsAt f at
