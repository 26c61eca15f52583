-- What contracts see of the sinks.
use Rattle.std.specs.Prelude.{◌≡◌, ℕ, Bool, List, None, Some}
use Rattle.hop_ports.specs.Views.{SinkView}
use Rattle.hop_ports.specs.Counts.{one_more, fails_after}
use Rattle.hop_ports.specs.declared.sinks.MemSink.{MemSink}
use Rattle.hop_ports.specs.declared.sinks.StdSink.{StdSink}

-- a sink that tells the bytes that it took
abbrev pub told : List ℕ → ℕ → SinkView
told taken faults = record { taken = Some taken; faults = faults }

-- a sink that doesn't
abbrev pub untold_sink : ℕ → SinkView
untold_sink faults = record { taken = None; faults = faults }

module _ {R : Type 0} where
  -- the count of standard output
  abbrev pub output_view : StdSink R → SinkView
  output_view s = untold_sink s.faults

-- what a sink in memory took, and its count
abbrev pub memory_sink : MemSink → SinkView
memory_sink s = told s.taken.items s.faults

-- how many writes were made
abbrev pub writes_made : MemSink → ℕ
writes_made s = s.calls

-- the numbers of the writes that fail
abbrev pub failing_writes : MemSink → List ℕ
failing_writes s = s.fails.items

-- the next write fails
abbrev pub write_fails_next : MemSink → Bool
write_fails_next s = fails_after (writes_made s) (failing_writes s)

-- one more write was made
pub record IsNextWrite (old new : MemSink) : Type 0 where
  pub calls : writes_made new ≡ one_more (writes_made old)
  pub fails : failing_writes new ≡ failing_writes old
