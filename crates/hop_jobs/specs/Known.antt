-- The jobs that are known by name.
use Rattle.hop_base.specs.Meaning.{Meaning}
use Rattle.hop_jobs.specs.declared.known.Known.{Known}
use Rattle.hop_jobs.specs.declared.known.Known.TheVariants.{Wc, Sum, Max, Top}
use Rattle.hop_jobs.specs.Max.{max_meaning}
use Rattle.hop_jobs.specs.Sum.{sum_meaning}
use Rattle.hop_jobs.specs.Top.{top_meaning}
use Rattle.hop_jobs.specs.Wc.{wc_meaning}

-- each means what its job means
abbrev pub known_meaning : Known → Meaning
known_meaning (Wc j) = wc_meaning
known_meaning (Sum j) = sum_meaning
known_meaning (Max j) = max_meaning
known_meaning (Top j) = top_meaning j.k
