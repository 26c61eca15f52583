use Rattle.std.proofs.Common.{◌≡◌, ℕ, ◌+◌, List, [], ◌∷◌, take, get_or, max, ap, ◌∙◌, arith}
use Rattle.std.proofs.lemmas.List.{take_more}
use Rattle.hop_base.specs.declared.value.Val.{Val}
use Rattle.hop_jobs.specs.Max.{greatest}
use Rattle.hop_jobs.specs.MaxLaws.{greatest_append}
use Rattle.hop_jobs.proofs.max.greatest.Goals as goal

pub loop-val-preserved : goal.loop-val-preserved
loop-val-preserved c =
    let vals : List Val = c.args.vals.now in
    let i : ℕ = c.loop-val.val-index in
    let val : Val = c.val-item.result in
    let more : greatest (take (i + 1) vals) ≡ max (greatest (take i vals)) (max (get_or vals i val).n 0) =
    ap greatest (take_more vals i val (omega arith)) ∙ greatest_append (take i vals) (get_or vals i val ∷ []) in
    omega (arith, more, c.max-most.ensures, c.loop-val.invariant, ap {B = ℕ} (λ v. v.n) c.val-item.is)
