use Rattle.std.proofs.Common.{List, ap, sym, subst, ◌∙◌}
use Rattle.std.specs.Prelude.{All}
use Rattle.hop_base.specs.declared.value.Pair.{Pair}
use Rattle.hop_base.specs.Order.{IsValidPair}
use Rattle.hop_run.specs.Runs.{RunValue}
use Rattle.hop_merge.proofs.MergeAllLaws.{all_stand}
use Rattle.hop_merge.proofs.merging.merge_all.Goals as goal

pub returns-clause-stands : goal.returns-clause-stands
returns-clause-stands c = λ reduce pairs_of valid stands.
    let sheet = ap (λ (run : RunValue). run.sheet) c.of_flat-run.ensures in
    let parts = ap (λ (run : RunValue). run.parts) c.of_flat-run.ensures in
    all_stand reduce pairs_of c.args.runs.now c.of_flat-run.result.sheet c.of_flat-run.result.parts valid stands (sheet ∙ c.in_ok-flat.ensures) (parts ∙ c.in_ok-parts.ensures)
    (subst (λ (ps : List Pair). All IsValidPair ps) (sym sheet) c.known.ensures.valid)
