use Rattle.std.proofs.Common.{◌≡◌, [], ◌∷◌, List, ℕ, length, subst, sym, ◌∙◌}
use Rattle.std.proofs.lemmas.Bool.{eqb-true}
use Rattle.std.proofs.lemmas.List.{nil_from_length}
use Rattle.hop_base.specs.declared.value.Pair.{Pair}
use Rattle.hop_base.specs.Fields.{pair_of}
use Rattle.hop_laws.specs.Stands.{StandsWith}
use Rattle.hop_fold.proofs.folded.Folded.add.Goals as goal

pub returns-then-join : goal.returns-then-join
returns-then-join g c =
    let reduce = (g.J.Job.meaning c.args.job.now).reduced in
    let none : [] ≡ c.args.text.now = sym (nil_from_length c.args.text.now (eqb-true (length c.args.text.now) 0 (sym c.is_empty.ensures ∙ c.if-is_empty.true))) in
    subst (λ (text : List ℕ). StandsWith reduce c.args.self.now (pair_of c.args.key.now c.args.number text ∷ []) c.join.new.pairs) none
    (subst (λ (ps : List Pair). StandsWith reduce ps (pair_of c.args.key.now c.args.number [] ∷ []) c.join.new.pairs) c.self.view_is (c.join.ensures.reduced c.if-join.true))
