-- A mapper's turn keeps its number, whatever it finds.
use Rattle.std.proofs.Common.{◌≡◌, ℕ, zero, suc, ◌+◌, ◌-◌, ◌==◌, Bool, true, false, List, length, refl, cond, is_none, nat_lt, Option, Some, None}
use Rattle.hop_base.specs.Run.{delay_of}
use Rattle.hop_machine.specs.declared.words.Message.{Message}
use Rattle.hop_machine.specs.declared.words.Message.TheVariants.{Range, Notice}
use Rattle.hop_machine.specs.declared.words.Turn.{Turn}
use Rattle.hop_machine.specs.declared.words.Turn.TheVariants.{Worked, Idle, Ended, Stopped}
use Rattle.hop_machine.specs.step.Steps.{NextSplit, Prog, Done, Then}
use Rattle.hop_machine.specs.step.Programs.{Gives}
use Rattle.hop_machine.specs.actors.MapperTurns.{Mapper, Running, Work, Retries, Free, Lane, unless_stopped, offer, flush, each_lane, on_lanes, must_fail, is_full, unless_spent, fails, revoke_lost, gives_notice, commits, part_of, has_spilled, spill_end, spills, len_of, runs_on, begins, unless_won, retries, backs_up, when_dry, given, acts, takes_turn, counted, open_turn, with_end, mapper_turn}
use Rattle.hop_machine.specs.actors.MapperTurns as mapper
use Rattle.hop_machine.proofs.step.Programs.{Gives-and_then}
use Rattle.hop_ending.proofs.Giving.{any}

-- a mapper of this number
abbrev pub HasNumber : ℕ → Mapper × Turn → Type 0
HasNumber n y = y.0.number ≡ n

-- each way through the program gives one
abbrev pub GivesNumber : ℕ → Prog (Mapper × Turn) → Type 0
GivesNumber n k = Gives (HasNumber n) k

module _ (n : ℕ) where
  if_number : (t : Bool) (x y : Prog (Mapper × Turn)) → GivesNumber n x → GivesNumber n y → GivesNumber n (cond t x y)
  if_number true x y h k = h
  if_number false x y h k = k

  lanes_number : (m : Mapper) (f : ℕ → List Message → Prog Lane) (k : Mapper → Prog (Mapper × Turn)) → m.number ≡ n → ((held : List (List Message)) → GivesNumber n (k (record m { held = held }))) → GivesNumber n (on_lanes m f k)
  lanes_number m f k e h =
      Gives-and_then (λ x. Unit {0}) (HasNumber n) (each_lane f 0 m.held) (λ x. cond x.went (k (record m { held = x.held })) (Done (record m { held = x.held }, Stopped))) (any (each_lane f 0 m.held))
      (λ x u. if_number x.went (k (record m { held = x.held })) (Done (record m { held = x.held }, Stopped)) (h x.held) e)

  -- # Running

  spent_number : (m : Mapper) (i mask : ℕ) → m.number ≡ n → GivesNumber n (unless_spent m i mask)
  spent_number m i mask e = if_number (is_full m.rules.attempts mask) _ (Done (m, Worked)) (λ o. e) e

  fails_number : (m : Mapper) (r : Running) → m.number ≡ n → GivesNumber n (fails m r)
  fails_number m r e = λ mask.
      lanes_number (record m { work = Retries r.split }) (offer m.number (Notice r.split r.attempt)) (λ z. unless_spent z r.split mask) e
      (λ held. spent_number (record m { work = Retries r.split; held = held }) r.split mask e)

  commits_number : (m : Mapper) (r : Running) → m.number ≡ n → GivesNumber n (commits m r)
  commits_number m r e = λ v.
      Gives-and_then (λ u. Unit {0}) (HasNumber n) (revoke_lost m.number r v) (λ u. gives_notice (record m { work = Free }) r.split r.attempt (λ z. Done (z, Worked))) (any (revoke_lost m.number r v))
      (λ u t. lanes_number (record m { work = Free }) (offer m.number (Notice r.split r.attempt)) (λ z. Done (z, Worked)) e (λ held. e))

  spills_number : (m : Mapper) (r : Running) → m.number ≡ n → GivesNumber n (spills m r)
  spills_number m r e = λ went.
      if_number went (on_lanes (has_spilled m r (spill_end m.rules r)) (offer m.number (Range (part_of r (spill_end m.rules r)))) (λ z. Done (z, Worked))) (Done (m, Stopped))
      (lanes_number (has_spilled m r (spill_end m.rules r)) (offer m.number (Range (part_of r (spill_end m.rules r)))) (λ z. Done (z, Worked)) e (λ held. e)) e

  runs_number : (m : Mapper) (r : Running) → m.number ≡ n → GivesNumber n (runs_on m r)
  runs_number m r e =
      if_number (must_fail m.rules r) (fails m r) (cond (r.done == len_of m.rules r.split) (commits m r) (spills m r)) (fails_number m r e)
      (if_number (r.done == len_of m.rules r.split) (commits m r) (spills m r) (commits_number m r e) (spills_number m r e))

  -- # Beginning an attempt

  begins_number : (m : Mapper) (i : ℕ) → m.number ≡ n → GivesNumber n (begins m i)
  begins_number m i e = λ a. e

  retries_number : (m : Mapper) (i : ℕ) → m.number ≡ n → GivesNumber n (retries m i)
  retries_number m i e = λ o. by o
    where
      by : (o : Option ℕ) → GivesNumber n (unless_won m i o)
      by None = begins_number m i e
      by (Some a) = e

  backs_number : (m : Mapper) (left i : ℕ) → m.number ≡ n → GivesNumber n (backs_up m left i)
  backs_number m zero i e = e
  backs_number m (suc left) i e = λ o.
      if_number (is_none o) (begins (record m { place = i + 1 }) i) (backs_up m left (i + 1)) (begins_number (record m { place = i + 1 }) i e) (backs_number m left (i + 1) e)

  dry_number : (m : Mapper) → m.number ≡ n → GivesNumber n (when_dry m)
  dry_number m e = if_number m.backup (backs_up m (length m.rules.lens - m.place) m.place) _ (backs_number m (length m.rules.lens - m.place) m.place e) e

  given_number : (m : Mapper) (o : Option ℕ) → m.number ≡ n → GivesNumber n (given m o)
  given_number m None e = dry_number (record m { dry = true }) e
  given_number m (Some i) e = begins_number m i e

  -- # A turn

  acts_number : (m : Mapper) (work : Work) → m.number ≡ n → GivesNumber n (acts m work)
  acts_number m (mapper.Runs r) e = runs_number m r e
  acts_number m (mapper.Retries i) e = retries_number m i e
  acts_number m mapper.Free e = if_number m.dry (when_dry m) (Then (NextSplit m.number) (λ o. given m o)) (dry_number m e) (λ o. given_number m o e)

  opens_number : (m : Mapper) → m.number ≡ n → GivesNumber n (open_turn m)
  opens_number m e =
      if_number (nat_lt m.turns (delay_of m.rules.script m.number)) (Done (counted m, Idle)) (takes_turn (counted m)) e
      (lanes_number (counted m) (flush m.number) (λ z. acts z z.work) e (λ held. acts_number (record m { turns = m.turns + 1; held = held }) m.work e))

-- so the turn of a mapper gives one of its number
pub turn_number : (m : Mapper) → GivesNumber m.number (mapper_turn m)
turn_number m =
    if_number m.number m.ended (Done (counted m, Ended)) _ refl
    (Gives-and_then (HasNumber m.number) (HasNumber m.number) (open_turn m) (λ x. Done (with_end x)) (opens_number m.number m refl) (λ x h. h))
