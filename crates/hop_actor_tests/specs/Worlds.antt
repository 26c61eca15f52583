-- What the ends of the world of one thread did in the run of two splits.
use Rattle.std.specs.Prelude.{◌≡◌, ℕ, List, length}
use Rattle.hop_base.specs.Run.{no_lines}
use Rattle.hop_shelf.specs.Sound.{ShelfValue}
use Rattle.hop_machine.specs.declared.words.Who.TheVariants as whose
use Rattle.hop_machine.specs.step.Steps.{Deeds, Setup}
use Rattle.hop_inner.specs.Setups.{setup_of}
use Rattle.hop_inner.specs.Shelved.{value_of}
use Rattle.hop_crew.specs.declared.plain_world.PlainWorld.{PlainWorld}
use Rattle.hop_crew.specs.PlainWorlds.{deeds_of}
use Rattle.hop_crew.specs.Unused.{AreFirst}
use Rattle.hop_actor_tests.specs.TwoSplits.{two_records, two_attempts}

-- what the run fixes
abbrev pub two_setup : Setup
two_setup = setup_of two_records no_lines two_attempts

-- what its ends did
abbrev pub shown : {N V : Type 0} → PlainWorld N V → Deeds
shown w = deeds_of two_setup w

-- how often mapper 0 asked for a split or a number
abbrev pub calls_made : {N V : Type 0} → PlainWorld N V → ℕ
calls_made w = ((shown w).did.seats (whose.Mapper 0)).calls

-- one value for each reducer, of which nothing is recorded
pub record AreFirstOfRun (values : List ShelfValue) : Type 0 where
  pub first : AreFirst two_setup value_of (λ (s : ShelfValue). s.p) values
  pub count : length values ≡ 1
