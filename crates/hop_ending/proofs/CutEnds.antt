-- Where a run came to its end, no cut lane holds anything.
use Rattle.std.proofs.Common.{◌≡◌, ℕ, ◌<◌, Bool, true, refl, sym, ap, ◌∙◌, subst, ⊎_elim}
use Rattle.std.proofs.lemmas.Option.{same_Some}
use Rattle.hop_machine.specs.declared.words.Who.TheVariants as whose
use Rattle.hop_machine.specs.declared.words.Turn.{Turn}
use Rattle.hop_machine.specs.declared.words.Turn.TheVariants.{Worked, Idle, Ended, Spent, Stopped}
use Rattle.hop_machine.specs.step.Steps.{Prog, Done, Deeds, Did, Setup, Runs}
use Rattle.hop_machine.specs.step.Setup.{splits_of}
use Rattle.hop_machine.specs.actors.ReducerTurns.{Writer, writer_turn}
use Rattle.hop_machine.specs.play.Play.{Actors, Place, Writing, Over, Halted, Sizes, World, Next, Learns, Went, turn_to, once_idle, due_at}
use Rattle.hop_machine.proofs.step.Programs.{Runs-parted}
use Rattle.hop_machine.proofs.play.Plays.{went_keeps}
use Rattle.hop_machine.proofs.run.Coming.{turn_to-came}
use Rattle.hop_ending.specs.Cuts.{HasPut}
use Rattle.hop_ending.proofs.CutPlaces.{next_over, next_writer}
use Rattle.hop_ending.proofs.CutPuts.{PutsAt, still_puts, turns_put}
use Rattle.hop_ending.proofs.CutSteps.{Follows, runs_follow, idle_took}

-- # The writer's turn at its place

pub idle_ends : (t : Turn) → once_idle t Over Writing ≡ Over → t ≡ Idle
idle_ends Idle e = refl
idle_ends Worked e = cc
idle_ends Ended e = cc
idle_ends (Spent i) e = cc
idle_ends Stopped e = cc

-- it had this turn, and the run went on by what it answered
pub record HadTurn (e : Bool) (x : Writer) (a b : Deeds) (place : Place) : Type 0 where
  pub y : Writer × Turn
  pub runs : Runs e (writer_turn x) a y b
  pub goes : place ≡ once_idle y.1 Over Writing

module _ (e : Bool) (a b : Place × World) (n : Next e a b) where
  -- what the place of the run is measured by
  abbrev sizes : Sizes
  sizes = record { splits = splits_of n.told.setup; limit = n.told.setup.attempts }

  pub writing_turn : a.0 ≡ Writing → HadTurn e a.1.actors.writer n.told b.1.deeds b.0
  writing_turn at =
      let x = a.1.actors in
      let k : Prog (Place × Actors) = turn_to whose.Writer (λ t. once_idle t Over Writing) x in
      let due : k ≡ n.program = same_Some k n.program ((λ i. due_at sizes (sym at i) x) ∙ n.is_due) in
      turn_to-came (λ z d. HadTurn e x.writer n.told d z.0) e x n.told b.1.deeds (b.0, b.1.actors) whose.Writer (λ t. once_idle t Over Writing)
      (λ y run.
      let t = Runs-parted e (writer_turn x.writer) (λ y. Done (record x { writer = y.0 }, y.1)) n.told b.1.deeds y run in
      record {
        y = t.answer;
        runs = subst (λ (d : Deeds). Runs e (writer_turn x.writer) n.told t.answer d) (sym t.later.1) t.first;
        goes = ap (λ (k : Actors × Turn). once_idle k.1 Over Writing) t.later.0;
      }) (subst (λ (p : Prog (Place × Actors)). Runs e p n.told (b.0, b.1.actors) b.1.deeds) (sym due) n.runs)

  -- and before it, it had put all that it took
  pub had_put : (s : Setup) → a.0 ≡ Writing → PutsAt s a → HasPut a.1.actors.writer s
  had_put s at h = ⊎_elim (λ (k : a.0 ≡ Halted). let no : Writing ≡ Halted = sym at ∙ k in cc) (λ (g : HasPut a.1.actors.writer s). g) h

-- # Over exact ends

-- so far the writer took the first of what was sent to the lane, and at the end all of it
record TakesAll (s : Setup) (q : ℕ) (z : Place × World) : Type 0 where
  pub puts : PutsAt s z
  pub follows : Follows q z.1.deeds.did
  pub all : z.0 ≡ Over → (z.1.deeds.did.cut_ins q).taken ≡ (z.1.deeds.did.cut_outs q).sent

module _ (s : Setup) (q : ℕ) (lq : q < s.reducers) where
  still_takes : (a b : Place × World) → b.0 ≡ a.0 → b.1.actors ≡ a.1.actors → Learns true a.1.deeds b.1.deeds → TakesAll s q a → TakesAll s q b
  still_takes a b p x l h = record {
    puts = still_puts s a b p x h.puts;
    follows = subst (Follows q) (sym l.did) h.follows;
    all = λ o. subst (λ (d : Did). (d.cut_ins q).taken ≡ (d.cut_outs q).sent) (sym l.did) (h.all (sym p ∙ o));
  }

  next_takes : (a b : Place × World) → Next true a b → TakesAll s q a → TakesAll s q b
  next_takes a b n h =
      let told = subst (Follows q) (sym n.learns.did) h.follows in
      record {
        puts = next_writer (λ (x : Writer). HasPut x s) (turns_put s) true a b n h.puts;
        follows = runs_follow q n.program n.told b.1.deeds (b.0, b.1.actors) n.runs told;
        all = λ o. let at = next_over true a b n o in let t = writing_turn true a b n at in
            idle_took s a.1.actors.writer t.y n.told b.1.deeds (had_put true a b n s at h.puts) t.runs (idle_ends t.y.1 (sym t.goes ∙ o)) q lq told;
      }

  -- the run comes to its end from this place
  pub exact_emptied : (place : Place) (a d : World) → (place ≡ Over → ⊥) → PutsAt s (place, a) → Follows q a.deeds.did → Went true (place, a) (Over, d) → (d.deeds.did.cut_ins q).taken ≡ (d.deeds.did.cut_outs q).sent
  exact_emptied place a d not h f w = (went_keeps true (TakesAll s q) still_takes next_takes (place, a) (Over, d) w (record { puts = h; follows = f; all = λ o. absurd (not o) })).all refl

pub went_follows : (q : ℕ) (a b : Place × World) → Went true a b → Follows q a.1.deeds.did → Follows q b.1.deeds.did
went_follows q a b w h = went_keeps true (λ z. Follows q z.1.deeds.did) (λ x y p s l f. subst (Follows q) (sym l.did) f)
    (λ x y n f. runs_follow q n.program n.told y.1.deeds (y.0, y.1.actors) n.runs (subst (Follows q) (sym n.learns.did) f)) a b w h
