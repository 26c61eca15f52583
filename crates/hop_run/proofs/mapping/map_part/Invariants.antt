use Rattle.std.proofs.Common.{◌-◌, take, drop}
use Rattle.std.specs.List.{flat_map}
use Rattle.hop_records.specs.Records.{split_records}
use Rattle.hop_run.proofs.mapping.map_part.Given as goal

-- the pairs of the records up to k are taken
abbrev pub invariant-loop-k : goal.invariant-loop-k
invariant-loop-k g l = g.S.PairSink.takes l.fn.sink (flat_map (g.J.Job.meaning l.fn.job).emits (take (l.k - l.fn.part.from) (drop l.fn.part.from (split_records l.book l.fn.part.split)))) l.sink
