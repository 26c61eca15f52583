-- Pulls by a coordinator: what a reducer lacks is fetched from the mapper that kept it.
use Rattle.std.specs.Prelude.{◌≡◌, ℕ, Bool, List, Option, Some, slice_set}
use Rattle.std.specs.List.{slice_get}
use Rattle.hop_base.specs.declared.part.Part.{Part}
use Rattle.hop_machine.specs.step.Steps.{Prog, and_then, Deeds, Runs}
use Rattle.hop_machine.specs.actors.MapperTurns.{Mapper}
use Rattle.hop_machine.specs.actors.ReducerTurns.{Reducer, take_pull, send_due, restart_if_due}
use Rattle.hop_machine.specs.home.ReducerHome.{MayPull}
use Rattle.hop_machine.specs.play.Play.{if_ok, pull}
use Rattle.hop_actors.specs.Acting.{MayCall}
use Rattle.hop_actors.specs.Spilled.{MayFetch}

-- the mapper at this place kept the attempt's spills up to this end
pub record IsKeeper (ms : List Mapper) (i a place end : ℕ) : Type 0 where
  pub keeper : Mapper
  pub here : slice_get ms place ≡ Some keeper
  pub kept : keeper.kept i a ≡ end

-- each mapper stands at the place of its number, and one that kept the range to its end may fetch it
pub record MayAllFetch (ms : List Mapper) (part : Part) : Type 0 where
  pub number : (w : ℕ) (m : Mapper) → slice_get ms w ≡ Some m → m.number ≡ w
  pub may : (w : ℕ) (m : Mapper) → slice_get ms w ≡ Some m → m.kept part.split part.attempt ≡ part.to → MayFetch m part

-- a pull behind its fetch: the range is recorded, the cuts that are due are sent, and a restart that is due is recorded
abbrev pub records_pull : Part → Reducer → Prog (Reducer × Option Bool)
records_pull part r = and_then (take_pull r part) (λ taken. if_ok taken r (and_then (send_due r) (λ sent. if_ok sent r (restart_if_due r))))

-- the reducer at this place may be given the range
pub record MayPullAt (p : ℕ) (part : Part) (r : Reducer) (d : Deeds) : Type 0 where
  pub number : r.number ≡ p
  pub call : MayCall r d
  pub pull : MayPull r part d

-- the range was pulled for the reducer at this place
pub record Pulled (e : Bool) (p : ℕ) (part : Part) (rs : List Reducer) (a : Deeds) (ss : List Reducer) (t : Option Bool) (b : Deeds) : Type 0 where
  pub before : Reducer
  pub here : slice_get rs p ≡ Some before
  pub after : Reducer
  pub now : ss ≡ slice_set rs p after
  pub runs : Runs e (pull part before) a (after, t) b
