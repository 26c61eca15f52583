-- The jobs that are known by name meet the laws.
use Rattle.hop_laws.specs.Laws.{IsLawful}
use Rattle.hop_jobs.specs.declared.known.Known.{Known}
use Rattle.hop_jobs.specs.declared.known.Known.TheVariants.{Wc, Sum, Max, Top}
use Rattle.hop_jobs.specs.Known.{known_meaning}
use Rattle.hop_jobs.specs.MaxLaws.{max_lawful}
use Rattle.hop_jobs.specs.SumLaws.{sum_lawful}
use Rattle.hop_jobs.specs.TopLaws.{top_lawful}
use Rattle.hop_jobs.specs.WcLaws.{wc_lawful}

pub known_lawful : (j : Known) → IsLawful (known_meaning j)
known_lawful (Wc j) = wc_lawful
known_lawful (Sum j) = sum_lawful
known_lawful (Max j) = max_lawful
known_lawful (Top j) = top_lawful j.k j.in_range.0 j.in_range.1
