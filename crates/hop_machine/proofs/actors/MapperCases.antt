-- A mapper's turn is that of one that has ended, or an open one and then a look at its answer.
use Rattle.std.proofs.Common.{◌≡◌, ◌⊎◌, Bool, true, false, refl, sym, subst, inl, inr, if◌then◌else◌}
use Rattle.hop_machine.specs.declared.words.Turn.{Turn}
use Rattle.hop_machine.specs.declared.words.Turn.TheVariants.{Ended}
use Rattle.hop_machine.specs.step.Steps.{Done, and_then, Deeds, Runs}
use Rattle.hop_machine.specs.actors.MapperTurns.{Mapper, counted, open_turn, with_end, mapper_turn}
use Rattle.hop_machine.proofs.step.Programs.{Runs-parted}

-- it had ended before, and did nothing
pub record WasOver (m : Mapper) (a : Deeds) (y : Mapper × Turn) (b : Deeds) : Type 0 where
  pub over : m.ended ≡ true
  pub is : y ≡ (counted m, Ended)
  pub same : b ≡ a

-- it had not, and took an open turn
pub record WasOpen (e : Bool) (m : Mapper) (a : Deeds) (y : Mapper × Turn) (b : Deeds) : Type 0 where
  pub x : Mapper × Turn
  pub runs : Runs e (open_turn m) a x b
  pub is : y ≡ with_end x

pub turn_cases : (e : Bool) (m : Mapper) (a : Deeds) (y : Mapper × Turn) (b : Deeds) → Runs e (mapper_turn m) a y b → WasOver m a y b ⊎ WasOpen e m a y b
turn_cases e m a y b r = of m.ended refl r
  where
    of : (t : Bool) → m.ended ≡ t → Runs e (if t then Done (counted m, Ended) else and_then (open_turn m) (λ x. Done (with_end x))) a y b → WasOver m a y b ⊎ WasOpen e m a y b
    of true o h = inl (record { over = o; is = h.0; same = h.1 })
    of false o h =
        let t = Runs-parted e (open_turn m) (λ x. Done (with_end x)) a b y h in
        inr (record { x = t.answer; runs = subst (λ (d : Deeds). Runs e (open_turn m) a t.answer d) (sym t.later.1) t.first; is = t.later.0 })

-- one that has ended does nothing more
pub turn_over : (e : Bool) (m : Mapper) (a : Deeds) (y : Mapper × Turn) (b : Deeds) → m.ended ≡ true → Runs e (mapper_turn m) a y b → (y.0 ≡ counted m) × (y.1 ≡ Ended) × (b ≡ a)
turn_over e m a y b over r = of m.ended over r
  where
    of : (t : Bool) → t ≡ true → Runs e (if t then Done (counted m, Ended) else and_then (open_turn m) (λ x. Done (with_end x))) a y b → (y.0 ≡ counted m) × (y.1 ≡ Ended) × (b ≡ a)
    of true o h = ((λ i. (h.0 i).0), (λ i. (h.0 i).1), h.1)
    of false o h = cc
