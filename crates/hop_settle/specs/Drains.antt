-- The reducers' turns while a run is settled: after each pass of the mappers, and once more after the last.
use Rattle.std.specs.Prelude.{ℕ, List, Bool}
use Rattle.hop_machine.specs.step.Steps.{Deeds}
use Rattle.hop_machine.specs.play.Play.{Place, Draining, Passing, Emptying, Actors}
use Rattle.hop_machine.specs.run.AllHome.{IsAtPlace}

-- when the reducers have their turns
pub data Stage : Type 0 where
  AfterPass : List Bool → Stage
  AtLast : Stage

-- where the run is while reducer p has its turns
abbrev pub drains_at : Stage → ℕ → Place
drains_at (AfterPass ended) p = Draining p ended
drains_at AtLast p = Emptying p

-- Where it goes on behind so many reducers. After the last turns the ends of the board are gathered first.
abbrev pub after_drains : Stage → ℕ → Place
after_drains (AfterPass ended) n = Passing ended
after_drains AtLast n = Emptying n

-- the run is settled and its actors are at home where reducer p has its turns
pub record DrainsHere (p : ℕ) (x : Actors) (d : Deeds) : Type 0 where
  pub stage : Stage
  pub home : IsAtPlace (drains_at stage p) x d
