-- What a run is given, and its play.
use Rattle.std.specs.Prelude.{ℕ, List}
use Rattle.hop_base.specs.Meaning.{Meaning}
use Rattle.hop_base.specs.Run.{RunSettings, ScriptLines}
use Rattle.hop_event.specs.Legal.{Rules}
use Rattle.hop_inner.specs.Setups.{setup_of}
use Rattle.hop_machine.specs.step.Steps.{Setup, rules_of}
use Rattle.hop_machine.specs.play.Play.{Machine, Place}
use Rattle.hop_machine.specs.play.FirstState.{Plays}
use Rattle.hop_script.specs.declared.turn.Turn.{Turn}
use Rattle.hop_settle.specs.Playing.{orders_of}

-- the job, the records, the script lines, the settings and the turn list of a run
pub record Given : Type 0 where
  pub job : Meaning
  pub records : List (List ℕ)
  pub script : ScriptLines
  pub settings : RunSettings
  pub turns : List Turn

-- what the run fixes
abbrev pub setup_given : Given → Setup
setup_given g = setup_of g.records g.script g.settings

abbrev pub rules_given : Given → Rules
rules_given g = rules_of (setup_given g)

-- the play of the run's turn list ends here
abbrev pub PlaysTo : Given → Place → Machine → Type 0
PlaysTo g place end = Plays (setup_given g) g.settings.backup (orders_of g.turns) (place, end)
