-- The blocking job: map all records, group by key, reduce each key once.
use Rattle.std.specs.Prelude.{ℕ, ◌+◌, ◌-◌, ◌*◌, List, map, take, drop}
use Rattle.std.specs.List.{flat_map, range_with_len}
use Rattle.hop_base.specs.declared.part.Part.{Part}
use Rattle.hop_base.specs.declared.value.Pair.{Pair}
use Rattle.hop_base.specs.Meaning.{Meaning}
use Rattle.hop_laws.specs.Groups.{red}
use Rattle.hop_laws.specs.Partition.{of_partition}

-- the pairs of partition p of r that map emits for the records, in order
abbrev pub emitted : Meaning → List (List ℕ) → ℕ → ℕ → List Pair
emitted meaning records p r = of_partition p r (flat_map meaning.emits records)

-- the blocking job's text of partition p of r
abbrev pub blocking : Meaning → List (List ℕ) → ℕ → ℕ → List ℕ
blocking meaning records p r = red meaning.reduced (emitted meaning records p r)

-- the blocking job's text of each of r partitions
abbrev pub blocking_texts : Meaning → List (List ℕ) → ℕ → List (List ℕ)
blocking_texts meaning records r = map (λ p. blocking meaning records p r) (range_with_len 0 r)

-- the records of a part, where a split has n of them
abbrev pub part_records : List (List ℕ) → ℕ → Part → List (List ℕ)
part_records records n part = take (part.to - part.from) (drop (part.split * n + part.from) records)

-- the pairs of partition p of r that map emits for the records of a part
abbrev pub part_pairs : Meaning → List (List ℕ) → ℕ → ℕ → ℕ → Part → List Pair
part_pairs meaning records n p r part = emitted meaning (part_records records n part) p r
