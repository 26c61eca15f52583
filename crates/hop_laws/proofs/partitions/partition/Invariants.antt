use Rattle.std.proofs.Common.{◌≡◌, ◌<◌, ◌^◌, drop}
use Rattle.hop_laws.specs.Partition.{hash_from}
use Rattle.hop_laws.proofs.partitions.partition.Given as goal

abbrev pub invariant-loop-byte : goal.invariant-loop-byte
invariant-loop-byte l = record {
  small : l.hash < 2 ^ 32;
  told : hash_from l.hash (drop l.byte-index l.key) ≡ hash_from 0 l.key;
}
