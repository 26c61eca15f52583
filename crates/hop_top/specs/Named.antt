-- What an answer says of the spill that it names.
use Rattle.std.specs.Prelude.{[], ◌∷◌}
use Rattle.hop_base.specs.Files.{Files}
use Rattle.hop_words.specs.Options.{Asked, AskedOptions, block, chain, run, replay}
use Rattle.hop_replay.specs.Given.{Given}
use Rattle.hop_replay.specs.Named.{IsDigestOf, IsSpillOf}
use Rattle.hop_top.specs.Work.{run_given}
use Rattle.hop_top.specs.declared.outcome.Outcome.{Outcome}
use Rattle.hop_top.specs.declared.outcome.Outcome.TheVariants as outcome

-- A damaged spill is one of the run, and the digest that was kept is the SHA-256 of its text; one that collides is of the run, too.
abbrev pub RunNames : Given → Outcome → Type 0
RunNames g (outcome.SpillDamaged worker at kept found) = IsDigestOf g at kept
RunNames g (outcome.SpillCollides worker at place) = IsSpillOf g at
RunNames g other = Unit {0}

-- so of a command's run over these files; one that makes no spills names none
abbrev pub CommandNames : Asked → AskedOptions → Files → Outcome → Type 0
CommandNames (block job input) options files answer = ⊥
CommandNames (run job input) options files answer = RunNames (run_given options job input files) answer
CommandNames (replay job input) options files answer = RunNames (run_given options job input files) answer
CommandNames (chain [] input) options files answer = ⊥
CommandNames (chain (job ∷ later) input) options files answer = RunNames (run_given options job input files) answer
