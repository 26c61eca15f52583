-- The split that a mapper gives up is that of its running attempt, and so one of the run's, over any ends.
use Rattle.std.proofs.Common.{◌≡◌, ℕ, ◌<◌, ◌==◌, Bool, true, false, cond, nat_lt, is_none, length, refl, sym, ap, ◌∙◌, subst, Option, Some, None, ⊎_elim}
use Rattle.hop_event.specs.Legal.{Rules}
use Rattle.hop_machine.specs.declared.words.Who.TheVariants as whose
use Rattle.hop_machine.specs.declared.words.Turn.{Turn}
use Rattle.hop_machine.specs.declared.words.Turn.TheVariants.{Worked, Idle, Ended, Spent, Stopped}
use Rattle.hop_machine.specs.step.Steps.{Prog, Done, Then, AskWinner, Deeds, Runs as RunsTo}
use Rattle.hop_machine.specs.step.Programs.{Gives}
use Rattle.hop_machine.specs.actors.MapperTurns.{Mapper, Running, Work, Runs, Retries, Free, counted, open_turn, takes_turn, acts, fails, unless_spent, is_full, must_fail, commits, spills, len_of, nothing_left, is_clear, flush, mapper_turn}
use Rattle.hop_machine.specs.home.MapperHome.{MapperAtHome}
use Rattle.hop_machine.proofs.step.Programs.{Runs-gives}
use Rattle.hop_machine.proofs.actors.MapperCases.{WasOver, WasOpen, turn_cases}
use Rattle.hop_machine.proofs.ending.Endings.{lanes_well, notice_well, runs_well, retries_well, free_well}

-- # What a mapper with this work answers

module _ (work : Work) where
  -- the split that is given up is that of the attempt which runs
  abbrev pub OfRunning : Mapper × Turn → Type 0
  OfRunning x = (i : ℕ) → x.1 ≡ Spent i → (r : Running) × (work ≡ Runs r) × (r.split ≡ i)

  worked : (m : Mapper) → OfRunning (m, Worked)
  worked m i e = cc

  idle : (m : Mapper) → OfRunning (m, Idle)
  idle m i e = cc

  stopped : (m : Mapper) → OfRunning (m, Stopped)
  stopped m i e = cc

  left_so : (m : Mapper) (t : Bool) → OfRunning (m, cond t Ended Idle)
  left_so m true i e = cc
  left_so m false i e = cc

  left : (m : Mapper) → m.dry ≡ true → m.work ≡ Free → OfRunning (nothing_left m)
  left m d f = left_so m (is_clear m.held)

  if_so : (t : Bool) (x y : Prog (Mapper × Turn)) → Gives OfRunning x → Gives OfRunning y → Gives OfRunning (cond t x y)
  if_so true x y g h = g
  if_so false x y g h = h

  which_split : (i j : ℕ) → Spent i ≡ Spent j → i ≡ j
  which_split i j s = cc

  asked : (m : Mapper) (r : Running) (o : Option ℕ) → work ≡ Runs r → OfRunning (m, cond (is_none o) (Spent r.split) Worked)
  asked m r None is i e = (r, is, which_split r.split i e)
  asked m r (Some b) is i e = cc

  unless_so : (m : Mapper) (r : Running) (mask : ℕ) → work ≡ Runs r → Gives OfRunning (unless_spent m r.split mask)
  unless_so m r mask is =
      if_so (is_full m.rules.attempts mask) (Then (AskWinner (whose.Mapper m.number) r.split) (λ o. Done (m, cond (is_none o) (Spent r.split) Worked))) (Done (m, Worked))
      (λ o. asked m r o is) (worked m)

  fails_so : (m : Mapper) (r : Running) → work ≡ Runs r → Gives OfRunning (fails m r)
  fails_so m r is = λ mask. notice_well OfRunning worked idle stopped left (record m { work = Retries r.split }) r.split r.attempt (λ m. unless_spent m r.split mask) (λ x. unless_so x r mask is)

  acts_so : (m : Mapper) (own : Work) → m.work ≡ own → work ≡ own → Gives OfRunning (acts m own)
  acts_so m (Runs r) e is =
      if_so (must_fail m.rules r) (fails m r) (cond (r.done == len_of m.rules r.split) (commits m r) (spills m r)) (fails_so m r is) (runs_well OfRunning worked idle stopped left m r)
  acts_so m (Retries i) e is = retries_well OfRunning worked idle stopped left m i
  acts_so m Free e is = free_well OfRunning worked idle stopped left m m.dry refl e

  takes_so : (m : Mapper) → work ≡ m.work → Gives OfRunning (takes_turn m)
  takes_so m is = lanes_well OfRunning worked idle stopped left m (flush m.number) (λ m. acts m m.work) (λ x e f. acts_so x x.work refl (is ∙ sym e))

  turn_so : (m : Mapper) (late : Bool) → work ≡ m.work → Gives OfRunning (cond late (Done (counted m, Idle)) (takes_turn (counted m)))
  turn_so m late is = if_so late (Done (counted m, Idle)) (takes_turn (counted m)) (idle (counted m)) (takes_so (counted m) is)

-- # Of a mapper at home it is a split of the run

in-run : (m : Mapper) (a : Deeds) (i : ℕ) → MapperAtHome m a → (r : Running) → m.work ≡ Runs r → r.split ≡ i → i < length a.setup.lens
in-run m a i home r is same =
    let seat = home.home.board.seat in
    let l : r.split < length m.rules.lens = seat.splits r.split r.attempt (seat.running r is).is.began.drawn in
    let k : r.split < length a.setup.lens = subst (λ (q : Rules). r.split < length q.lens) home.fits.rules l in
    subst (λ j. j < length a.setup.lens) same k

pub spent-split : (e : Bool) (m : Mapper) (a b : Deeds) (y : Mapper × Turn) (i : ℕ) → MapperAtHome m a → RunsTo e (mapper_turn m) a y b → y.1 ≡ Spent i → i < length a.setup.lens
spent-split e m a b y i home run spent =
    ⊎_elim (λ (k : WasOver m a y b). let s = sym (ap (λ (z : Mapper × Turn). z.1) k.is) ∙ spent in cc)
    (λ (k : WasOpen e m a y b).
    let gives : OfRunning m.work k.x = Runs-gives (OfRunning m.work) e (open_turn m) a b k.x (turn_so m.work m (nat_lt m.turns (Rattle.hop_base.specs.Run.delay_of m.rules.script m.number)) refl) k.runs in
    let so = gives i (sym (ap (λ (z : Mapper × Turn). z.1) k.is) ∙ spent) in
    in-run m a i home so.0 so.1 so.2) (turn_cases e m a y b run)
