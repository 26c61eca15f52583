use Rattle.std.proofs.Common.{◌≡◌, [], ◌∷◌, ◌++◌, List, ℕ, length, ap, subst, sym, ◌∙◌, arith}
use Rattle.std.proofs.lemmas.Bool.{eqb-true}
use Rattle.std.proofs.lemmas.List.{nil_from_length}
use Rattle.hop_base.specs.declared.value.Pair.{Pair}
use Rattle.hop_base.specs.Fields.{pair_of}
use Rattle.hop_laws.specs.Stands.{StandsWith}
use Rattle.hop_laws.proofs.TakenLaws.{added}
use Rattle.hop_run.proofs.scattered.add.Goals.{then-is_empty+else-join, else-is_empty}
use Rattle.hop_run.proofs.scattered.add.Goals as goal

pub returns-then-join : goal.returns-then-join
returns-then-join g c =
    let combine = (g.J.Job.meaning c.args.job.now).combined in
    let none : [] ≡ c.args.text.now = sym (nil_from_length c.args.text.now (eqb-true (length c.args.text.now) 0 (sym c.is_empty.ensures ∙ c.if-is_empty.true))) in
    subst (λ (text : List ℕ). StandsWith combine c.args.list.now (pair_of c.args.key.now c.args.number text ∷ []) c.join.new.pairs) none (c.join.ensures.combined c.if-join.true)

pub returns : goal.returns
returns g c =
    let combine = (g.J.Job.meaning c.args.job.now).combined in
    let pair : Pair = pair_of c.args.key.now c.args.number c.args.text.now in
    let same : c.if-is_empty.list ≡ c.args.list.now = elim c.if-is_empty.branch [ then-is_empty+else-join w ↦ w.list-is ∙ w.join.ensures.same w.if-join.false | else-is_empty w ↦ w.list-is ] in
    added combine c.args.list.now c.take.new.self c.take.new.self c.args.key.now c.args.text.now c.args.number c.requires.short_key c.requires.short_text (omega arith)
    (c.in_ok-take.ensures.ok ∙ ap (λ ps. ps ++ pair ∷ []) same) (λ ps stands. stands)
