-- The job that adds up numbers.
use Rattle.std.specs.Prelude.{codes}
use Rattle.hop_base.specs.Meaning.{Meaning}
use Rattle.hop_jobs.specs.Adding.{sum_combined, sum_reduced}
use Rattle.hop_jobs.specs.Numbered.{numbered_emits}

-- the numbers of a key are added up
abbrev pub sum_meaning : Meaning
sum_meaning = record { name = codes "sum"; emits = numbered_emits; combined = sum_combined; reduced = sum_reduced }
