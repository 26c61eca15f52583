-- A run that stopped where a spill isn't as it was put names that spill.
use Rattle.std.proofs.Common.{ℕ, List, inl, inr, sym, subst}
use Rattle.hop_actors.specs.Counting.{Counts, StoreCause, WriterCause}
use Rattle.hop_actors.specs.declared.fault.Fault.{Fault}
use Rattle.hop_actors.specs.declared.fault.Fault.TheVariants as fault
use Rattle.hop_settle.specs.Stops.{CrewStops, StoresStop}
use Rattle.hop_replay.specs.Given.{Given}
use Rattle.hop_replay.specs.Named.{NamesIts}

module _ (g : Given) where
  store-names : (w : ℕ) (a b : Counts) (f : Fault) → StoreCause g.job g.records g.script g.settings w a b f → NamesIts g f
  store-names w a b (fault.SpentAt split) h = tt
  store-names w a b fault.FolderFailed h = tt
  store-names w a b (fault.SpillFailed worker) h = tt
  store-names w a b (fault.SpillDamaged worker at kept found) h = h.4
  store-names w a b (fault.SpillCollides worker at place) h = h.3
  store-names w a b fault.NoMemory h = tt

  writer-names : (a b : Counts) (f : Fault) → WriterCause a b f → NamesIts g f
  writer-names a b (fault.SpentAt split) h = absurd h
  writer-names a b fault.FolderFailed h = tt
  writer-names a b (fault.SpillFailed worker) h = absurd h
  writer-names a b (fault.SpillDamaged worker at kept found) h = absurd h
  writer-names a b (fault.SpillCollides worker at place) h = absurd h
  writer-names a b fault.NoMemory h = tt

  stores-name : (cs ds : List Counts) (f : Fault) → StoresStop g.job g.records g.script g.settings cs ds f → NamesIts g f
  stores-name cs ds f (inl h) = store-names h.worker h.before h.after f h.cause
  stores-name cs ds f (inr h) = subst (λ (z : Fault). NamesIts g z) (sym h.0) tt

  pub crew-names : (cs ds : List Counts) (x y : Counts) (f : Fault) → CrewStops g.job g.records g.script g.settings cs ds x y f → NamesIts g f
  crew-names cs ds x y f (inl h) = stores-name cs ds f h.0
  crew-names cs ds x y f (inr h) = writer-names x y f h.0
