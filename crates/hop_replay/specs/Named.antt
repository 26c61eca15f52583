-- What a fault says of the spill that it names.
use Rattle.std.specs.Prelude.{ℕ, List}
use Rattle.hop_base.specs.declared.part.Part.{Part}
use Rattle.hop_actors.specs.Named.{NamesSpill, NamesText}
use Rattle.hop_actors.specs.declared.fault.Fault.{Fault}
use Rattle.hop_actors.specs.declared.fault.Fault.TheVariants as fault
use Rattle.hop_replay.specs.Given.{Given}

-- the range is that of a spill of this run
abbrev pub IsSpillOf : Given → Part → Type 0
IsSpillOf g at = NamesSpill g.job g.records g.script g.settings at

-- and this is the SHA-256 of its text
abbrev pub IsDigestOf : Given → Part → List ℕ → Type 0
IsDigestOf g at digest = NamesText g.job g.records g.script g.settings at digest

-- A damaged spill is one of the run, and the digest that was kept is that of its text; so is one that collides.
abbrev pub NamesIts : Given → Fault → Type 0
NamesIts g (fault.SpillDamaged worker at kept found) = IsDigestOf g at kept
NamesIts g (fault.SpillCollides worker at place) = IsSpillOf g at
NamesIts g (fault.SpillFailed worker) = Unit {0}
NamesIts g (fault.SpentAt split) = Unit {0}
NamesIts g fault.FolderFailed = Unit {0}
NamesIts g fault.NoMemory = Unit {0}
