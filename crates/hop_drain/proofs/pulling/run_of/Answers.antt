use Rattle.std.proofs.Common.{◌≡◌, List, [], ◌∷◌, rules, ap, ◌∙◌}
use Rattle.std.specs.List.{flat_map}
use Rattle.hop_base.specs.declared.value.Pair.{Pair}
use Rattle.hop_base.specs.Order.{pair_cmp}
use Rattle.hop_base.specs.Sorted.{ord}
use Rattle.hop_run.specs.Runs.{RunValue}
use Rattle.hop_drain.proofs.Sheets.{sheets_hold}
use Rattle.hop_drain.proofs.pulling.run_of.Goals as goal

pub returns-clause-holds : goal.returns-clause-holds
returns-clause-holds c = λ reduce pairs_of stands.
    let is : c.in_ok-flat.flat ≡ ord pair_cmp (flat_map (λ (s : List Pair). s) c.args.sheets) = c.in_ok-flat.ensures ∙ ap (λ (xs : List (List Pair)). ord pair_cmp (flat_map (λ (s : List Pair). s) xs)) (c.deref.ensures.value ∙ c.into_vec-sheets.ensures) in
    let one : c.of_flat.result.parts ≡ c.args.part ∷ [] = search rules in
    sheets_hold reduce pairs_of c.args.part c.args.sheets c.in_ok-flat.flat c.of_flat.result is c.known.ensures.valid (ap (λ (r : RunValue). r.sheet) c.of_flat.ensures) one stands
