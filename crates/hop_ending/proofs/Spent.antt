-- Where a run gave up a split, it is one of the run's, and each attempt of it fails by the script, over any ends.
use Rattle.std.proofs.Common.{◌≡◌, ℕ, Bool, List, sym, ap, ◌∙◌, subst, inl, inr}
use Rattle.hop_event.specs.Legal.{Rules}
use Rattle.hop_machine.specs.declared.words.Turn.{Turn}
use Rattle.hop_machine.specs.declared.words.Turn.TheVariants.{Idle, Spent}
use Rattle.hop_machine.specs.step.Steps.{Deeds, Setup, Runs}
use Rattle.hop_machine.specs.actors.MapperTurns.{mapper_turn}
use Rattle.hop_machine.specs.play.Play.{Actors, Order, Place, Opening, NoneLeft, World, Went}
use Rattle.hop_machine.specs.run.AllHome.{AllHome, IsStart, IsAtPlace}
use Rattle.hop_machine.proofs.step.Owners.{Runs-rightly}
use Rattle.hop_machine.proofs.ending.Spending.{spent-turn-doomed}
use Rattle.hop_machine.proofs.play.Plays.{went_same}
use Rattle.hop_machine.proofs.run.Turns.{DidMapper, by_mapper-run}
use Rattle.hop_machine.proofs.run.Starting.{start_at_home}
use Rattle.hop_ending.specs.Doomed.{IsDoomedSplit}
use Rattle.hop_ending.proofs.Giving.{idle}
use Rattle.hop_ending.proofs.SpentSplit.{spent-split}
use Rattle.hop_ending.proofs.SpentSteps.{NotLeft, went_leaves}

abbrev pub DoomedIn : Deeds → ℕ → Type 0
DoomedIn d i = IsDoomedSplit d.setup i

module _ (e : Bool) (x : Actors) (a b : Deeds) where
  -- the split that a mapper gives up is doomed
  mapper_doomed : AllHome x a → (w : ℕ) (y : Actors × Turn) (i : ℕ) → y.1 ≡ Spent i → DidMapper e w mapper_turn Idle x a y b → DoomedIn b i
  mapper_doomed h w y i s (inl d) = absurd (idle i (sym (ap (λ (k : Actors × Turn). k.1) d.0) ∙ s))
  mapper_doomed h w y i s (inr d) =
      let fit : d.0.rules.attempts ≡ a.setup.attempts = ap (λ (r : Rules). r.attempts) (h.mapper w d.0 d.1).home.fits.rules in
      let says : d.2.1 ≡ Spent i = sym (ap (λ (k : Actors × Turn). k.1) d.4) ∙ s in
      let same : b.setup ≡ a.setup = (Runs-rightly e (mapper_turn d.0) a b d.2 d.3).setup in
      subst (λ (k : Setup). IsDoomedSplit k i) (sym same) (record {
        is_split = spent-split e d.0 a b d.2 i (h.mapper w d.0 d.1).home d.3 says;
        doomed = spent-turn-doomed e d.0 d.2.0 a b i fit (subst (λ (t : Turn). Runs e (mapper_turn d.0) a (d.2.0, t) b) says d.3);
      })

pub spent_doomed : (e : Bool) (from : Place) (i : ℕ) (a b : World) → NotLeft from → IsAtPlace from a.actors a.deeds → Went e (from, a) (NoneLeft i, b) → DoomedIn a.deeds i
spent_doomed e from i a b n h w =
    subst (λ (k : Setup). IsDoomedSplit k i) (went_same e (from, a) (NoneLeft i, b) w)
    (went_leaves (λ x d j. DoomedIn d j) e (λ x a b j l g. subst (λ (k : Setup). IsDoomedSplit k j) (sym l.setup) g)
    (λ x a b ready k y j s run. mapper_doomed e x a b ready.home k y j s (by_mapper-run e Idle x a b y k mapper_turn run)) from i a b n h w)

pub start_doomed : (e : Bool) (backup : Bool) (list : List Order) (i : ℕ) (a b : World) → IsStart backup a.actors a.deeds → Went e (Opening 0 list, a) (NoneLeft i, b) → DoomedIn a.deeds i
start_doomed e backup list i a b z w = spent_doomed e (Opening 0 list) i a b (λ j q. cc) (start_at_home backup a.actors a.deeds z) w
