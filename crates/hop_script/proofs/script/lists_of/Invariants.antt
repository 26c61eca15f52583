use Rattle.std.proofs.Common.{◌≡◌, List, map, vec_len}
use Rattle.std.specs.Prelude.{filter}
use Rattle.hop_base.specs.Run.{RestartLine}
use Rattle.hop_base.specs.Sorted.{ord}
use Rattle.hop_script.specs.Script.{restart_cmp}
use Rattle.hop_script.specs.Draft.{HasRestarts}
use Rattle.hop_script.specs.Kept.{lines_from}
use Rattle.hop_script.proofs.RestartLemmas.{is_below}
use Rattle.hop_script.proofs.script.lists_of.Given as goal

abbrev pub invariant-loop-partition : goal.invariant-loop-partition
invariant-loop-partition l =
    ((lines : List RestartLine) → HasRestarts l.restarts lines → lines_from 0 (map (λ list. list.items) l.lists.items) ≡ filter (is_below l.partition) (ord restart_cmp lines))
    × (vec_len l.lists ≡ l.partition)
