-- A turn of the writer, at the end of settling.
use Rattle.std.proofs.Common.{◌≡◌, ℕ, Bool, false, List, refl, sym, ap, ◌∙◌, subst, cond, Ok, Err, Result}
use Rattle.hop_base.specs.Meaning.{Meaning}
use Rattle.hop_base.specs.Run.{ScriptLines, RunSettings}
use Rattle.hop_machine.specs.declared.words.Turn.{Turn}
use Rattle.hop_machine.specs.declared.words.Turn.TheVariants as said
use Rattle.hop_machine.specs.declared.words.Who.TheVariants as whose
use Rattle.hop_machine.specs.step.Steps.{Deeds, Runs}
use Rattle.hop_machine.specs.actors.MapperTurns.{Mapper}
use Rattle.hop_machine.specs.actors.ReducerTurns.{Reducer, Writer, writer_turn}
use Rattle.hop_machine.specs.home.Conditions.{HasWriter}
use Rattle.hop_machine.specs.play.Play.{World, Place, Writing, Over, Halted, Went, once_idle}
use Rattle.hop_machine.specs.run.AllHome.{Settled}
use Rattle.hop_machine.specs.home.MapperHome.{has_failed}
use Rattle.hop_machine.proofs.step.Owners.{Runs-ends, Runs-only}
use Rattle.hop_machine.proofs.actors.OwnTurns.{own_writer}
use Rattle.hop_machine.proofs.play.Going.{writer_did, writes}
use Rattle.hop_actors.specs.declared.turn.Turn.{Turn as Answer}
use Rattle.hop_actors.specs.declared.turn.Turn.TheVariants as answer
use Rattle.hop_actors.specs.declared.fault.Fault.{Fault}
use Rattle.hop_actors.specs.declared.fault.Fault.TheVariants as fault
use Rattle.hop_actors.specs.Acting.{Acting, Writes, MayWrite, said_fault, said_turn}
use Rattle.hop_actors.specs.Counting.{Counts, TurnCause, WriterCause}
use Rattle.hop_settle.specs.Crews.{actors_of, world_of}
use Rattle.hop_settle.specs.Stops.{idle_or_fault, place_after}

-- the writer stops for want of memory or where a put failed
writer_stops : (f : Fault) (a b : Counts) → WriterCause a b f → said_fault f ≡ said.Stopped
writer_stops (fault.SpentAt split) a b h = absurd h
writer_stops fault.FolderFailed a b h = refl
writer_stops (fault.SpillFailed worker) a b h = absurd h
writer_stops (fault.SpillDamaged worker at kept found) a b h = absurd h
writer_stops (fault.SpillCollides worker at place) a b h = absurd h
writer_stops fault.NoMemory a b h = refl

err_is : (a b : Fault) → ◌≡◌ {A = Result Bool Fault} (Err a) (Err b) → a ≡ b
err_is a b h = cc

-- a fault of its turn halts the run
pub write-halts : (job : Meaning) (records : List (List ℕ)) (script : ScriptLines) (settings : RunSettings) (t : Answer) (f : Fault) (w : Acting) (x : Writer) (a b : Counts) → idle_or_fault t ≡ Err f → w ≡ Writes x → TurnCause job records script settings w a b t → (go again : Place) → once_idle (said_turn t) go again ≡ place_after {A = Unit {0}} (Err f) go
write-halts job records script settings (answer.Failed g) f w x a b h is cause go again =
    let same : g ≡ f = err_is g f h in
    let stops : said_fault g ≡ said.Stopped = writer_stops g a b (subst (λ (z : Acting). TurnCause job records script settings z a b (answer.Failed g)) is cause) in
    let then : said_fault f ≡ said.Stopped = ap said_fault (sym same) ∙ stops in
    ap (λ (u : Turn). once_idle u go again) stops ∙ sym (ap (λ (u : Turn). Rattle.hop_machine.specs.play.Play.unless_spent u go) then)
write-halts job records script settings answer.Worked f w x a b h is cause go again = cc
write-halts job records script settings answer.Idle f w x a b h is cause go again = cc
write-halts job records script settings answer.Ended f w x a b h is cause go again = cc

module _ (e : Bool) (x y : Writer) (a b : Deeds) (t : Turn) (run : Runs e (writer_turn x) a (y, t) b) where
  pub write-ends : b.ends ≡ a.ends
  write-ends = Runs-ends e (writer_turn x) a b (y, t) run

  pub write-setup : b.setup ≡ a.setup
  write-setup = (Runs-only whose.Writer e (writer_turn x) a b (y, t) (own_writer x) run).setup

  pub write-went : (ms : List Mapper) (rs : List Reducer) → Went e (Writing, world_of ms rs x a) (once_idle t Over Writing, world_of ms rs y b)
  write-went ms rs = writes e (world_of ms rs x a) (world_of ms rs y b) t (writer_did e (actors_of ms rs x) a b (y, t) run)

pub may-write : (ms : List Mapper) (rs : List Reducer) (x : Writer) (d : Deeds) → Settled (actors_of ms rs x) d → HasWriter d → MayWrite x d
may-write ms rs x d h ends = record { setup = h.ends.home.set; home = h.ends.home.writer; ends = ends }

pub still-writes : (e : Bool) (idle : Bool) → idle ≡ false → (a b : World) → Went e (Writing, a) (cond idle Over Writing, b) → Went e (Writing, a) (Writing, b)
still-writes e idle off a b w = subst (λ (t : Bool). Went e (Writing, a) (cond t Over Writing, b)) off w

-- an answer that is no fault
pub on_ok : (t : Answer) (b : Bool) → idle_or_fault t ≡ Ok b → has_failed (said_turn t) ≡ false
on_ok answer.Worked b h = refl
on_ok answer.Idle b h = refl
on_ok answer.Ended b h = refl
on_ok (answer.Failed f) b h = cc

pub counts_on : (job : Meaning) (records : List (List ℕ)) (script : ScriptLines) (settings : RunSettings) (t : Answer) (k : Bool) (w : Acting) (a b : Counts) → idle_or_fault t ≡ Ok k → TurnCause job records script settings w a b t → b ≡ a
counts_on job records script settings answer.Worked k w a b h c = c
counts_on job records script settings answer.Idle k w a b h c = c
counts_on job records script settings answer.Ended k w a b h c = c
counts_on job records script settings (answer.Failed f) k w a b h c = cc
