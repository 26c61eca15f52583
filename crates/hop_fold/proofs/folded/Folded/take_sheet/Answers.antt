use Rattle.std.proofs.Common.{◌≡◌, ◌<◌, List, [], ◌∷◌, length, get_or, sym, subst, ◌∙◌, arith}
use Rattle.std.proofs.lemmas.Option.{get_or_from_slice_get}
use Rattle.hop_base.specs.declared.value.Pair.{Pair}
use Rattle.hop_laws.specs.Stands.{StandsWith}
use Rattle.hop_fold.proofs.FoldingLaws.{folds_more}
use Rattle.hop_fold.proofs.folded.Folded.take_sheet.Goals as goal

-- one more pair of the sheet came
pub loop-k-preserved : goal.loop-k-preserved
loop-k-preserved g c = λ pairs f.
    let reduce = (g.J.Job.meaning c.args.job.now).reduced in
    let sheet : List Pair = c.args.sheet.now in
    let pair : Pair = c.pair-pair.result in
    let within : c.loop-k.k < length sheet = omega (arith, c.len-k-end.ensures) in
    let there : get_or sheet c.loop-k.k pair ≡ pair = get_or_from_slice_get sheet c.loop-k.k pair pair c.pair-pair.ensures in
    folds_more reduce c.loop-k.self c.add.new.self pairs sheet c.loop-k.k pair within (c.known.ensures.valid c.loop-k.k pair within)
    (subst (λ (p : Pair). StandsWith reduce c.loop-k.self (p ∷ []) c.add.new.self) (c.pair.view_is ∙ sym there) c.in_ok-add.ensures)
    (c.loop-k.invariant pairs f)
