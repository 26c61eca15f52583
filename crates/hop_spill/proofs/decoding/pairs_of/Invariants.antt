use Rattle.std.proofs.Common.{◌≡◌, ◌-◌, None}
use Rattle.hop_spill.specs.Reading.{pairs_at}
use Rattle.hop_spill.proofs.LoopLaws.{with_front, last_pair}
use Rattle.hop_spill.proofs.decoding.pairs_of.Given as goal

abbrev pub invariant-loop : goal.invariant-loop
invariant-loop l = record {
  last : l.before ≡ last_pair l.pairs;
  reading : with_front l.pairs (pairs_at (l.count - l.counter) l.p l.r (last_pair l.pairs) l.rest) ≡ pairs_at l.count l.p l.r None l.bytes;
}
