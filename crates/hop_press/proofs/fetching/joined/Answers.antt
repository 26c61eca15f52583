use Rattle.std.proofs.Common.{◌≡◌, List, ap, sym, subst, ◌∙◌}
use Rattle.std.specs.List.{flat_map}
use Rattle.hop_base.specs.declared.value.Pair.{Pair}
use Rattle.hop_base.specs.Order.{pair_cmp}
use Rattle.hop_base.specs.Sorted.{ord}
use Rattle.hop_laws.specs.Stands.{StandsFor}
use Rattle.hop_run.specs.Runs.{RunValue}
use Rattle.hop_press.specs.Faults.{pairs_in}
use Rattle.hop_press.proofs.FetchedLaws.{one_part, ordered_valid}
use Rattle.hop_press.proofs.fetching.joined.Goals as goal

pub returns-clause-stands : goal.returns-clause-stands
returns-clause-stands g c = λ pairs_of h.
    let reduced = (g.J.Job.meaning c.args.job.now).reduced in
    let all : List Pair = pairs_in c.args.sheets in
    let is : c.in_ok-merged.merged ≡ ord pair_cmp all =
    c.in_ok-merged.ensures ∙ ap (λ (rs : List RunValue). ord pair_cmp (flat_map (λ r. r.sheet) rs)) c.deref.ensures.value ∙ ap (λ (ps : List Pair). ord pair_cmp ps) c.in_ok-runs.ensures in
    let stands = h (ordered_valid all c.in_ok-merged.merged is c.known.ensures.valid) in
    c.in_ok-combined.ensures.stands pairs_of
    (one_part reduced pairs_of c.args.part c.in_ok-merged.merged c.in_ok-run.run' c.in_ok-run.ensures
    (subst (λ (ps : List Pair). StandsFor reduced ps (pairs_of c.args.part)) (sym is) stands))
