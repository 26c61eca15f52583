-- The actors of a run of the tests in their world, and what such a run is given.
use Rattle.std.specs.Prelude.{◌≡◌, ℕ, ◌+◌, Bool, true, List, map}
use Rattle.hop_base.specs.Meaning.{Meaning}
use Rattle.hop_base.specs.Run.{ScriptLines, RunSettings}
use Rattle.hop_base.specs.declared.settings.Settings.{Settings}
use Rattle.hop_records.specs.Records.{BookValue, lens_of}
use Rattle.hop_shelf.specs.Names.{book_of}
use Rattle.hop_jobs.specs.Wc.{wc_meaning}
use Rattle.hop_machine.specs.step.Steps.{Setup, Deeds, CutInEnd}
use Rattle.hop_crew.specs.declared.plain_world.PlainWorld.{PlainWorld}
use Rattle.hop_crew.specs.PlainWorlds.{deeds_of}
use Rattle.hop_machine.specs.actors.MapperTurns.{Mapper}
use Rattle.hop_machine.specs.actors.ReducerTurns.{Reducer}
use Rattle.hop_machine.specs.home.Conditions.{HasAll}
use Rattle.hop_machine.specs.home.Starts.{new_writer}
use Rattle.hop_machine.specs.run.AllHome.{Ready}
use Rattle.hop_mapper.specs.Sound.{IsOfRun}
use Rattle.hop_settle.specs.Crews.{actors_of, AreWell, TurnsBelow}

-- all are at home, no mapper's turn failed, and none took more turns than so many
pub record AtHome (setup : Setup) {M : Type 0} (mapper : M → Mapper) (failed : M → Bool) (fits : M → List ℕ → Type 0) (turns : ℕ) (ms : List M) (rs : List Reducer) (d : Deeds) : Type 0 where
  pub ready : Ready (actors_of (map mapper ms) rs (new_writer setup)) d
  pub ends : HasAll d
  pub well : AreWell failed fits d.ends.board ms
  pub few : TurnsBelow (turns + 1) (map mapper ms)

-- a run that counts words is given this
pub record IsGiven (job : Meaning) (records : List (List ℕ)) (script : ScriptLines) (settings : RunSettings) (book : BookValue) (lens : List ℕ) (own_script : ScriptLines) (own : Settings) : Type 0 where
  pub of_run : IsOfRun job records script settings wc_meaning book own_script own
  pub lens_are : lens ≡ lens_of (book_of records settings)

-- the world has the writer's end of reducer 0's cut lane
abbrev pub IsCutEnd : {N V : Type 0} → Setup → PlainWorld N V → Type 0
IsCutEnd setup w = (deeds_of setup w).ends.has (CutInEnd 0) ≡ true
