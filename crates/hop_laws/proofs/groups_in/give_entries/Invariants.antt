use Rattle.std.proofs.Common.{take}
use Rattle.hop_laws.specs.Entries.{pairs_in}
use Rattle.hop_laws.proofs.groups_in.give_entries.Given as goal

abbrev pub invariant-loop-entry : goal.invariant-loop-entry
invariant-loop-entry g l = g.S.PairSink.takes l.fn.sink (pairs_in l.arena (take l.entry-index l.entries)) l.sink
