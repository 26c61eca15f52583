use Rattle.std.proofs.Common.{◌≡◌, List, ◌++◌, ap, sym, subst, ◌∙◌}
use Rattle.std.specs.List.{flat_map}
use Rattle.std.specs.List.Sorted.{IsPermutation}
use Rattle.std.proofs.lemmas.List.Concat.{flat_map-append}
use Rattle.hop_base.specs.declared.value.Pair.{Pair}
use Rattle.hop_laws.specs.Stands.{StandsFor}
use Rattle.hop_laws.proofs.StandsLaws.{stands_merged}
use Rattle.hop_run.specs.Runs.{RunValue}
use Rattle.hop_run.proofs.MergeLaws.{ord_permutes}
use Rattle.hop_run.proofs.RunLaws.{valid_parts}
use Rattle.hop_run.proofs.run.Run.merge.Goals as goal

pub returns-clause-stands : goal.returns-clause-stands
returns-clause-stands c = λ reduce pairs_of valid stands_a stands_b.
    let a_sheet = ap (λ (run : RunValue). run.sheet) c.a.view_is in
    let b_sheet = ap (λ (run : RunValue). run.sheet) c.b.view_is in
    let parts : c.in_ok-parts.parts.items ≡ c.args.a.now.parts ++ c.args.b.now.parts =
    c.in_ok-parts.ensures ∙ ap (λ ps. ps ++ c.deref-2.result.now) (c.deref.ensures.value ∙ ap (λ (run : RunValue). run.parts) c.a.view_is) ∙ ap (λ ps. c.args.a.now.parts ++ ps) (c.deref-2.ensures.value ∙ ap (λ (run : RunValue). run.parts) c.b.view_is) in
    let both : List Pair = c.a.inside.flat ++ c.b.inside.flat in
    let same : IsPermutation both c.in_ok-flat.flat = subst (λ (ps : List Pair). IsPermutation both ps) (sym c.in_ok-flat.ensures) (ord_permutes both) in
    subst (λ ps. StandsFor reduce c.in_ok-flat.flat ps) (sym (ap (flat_map pairs_of) parts ∙ flat_map-append pairs_of c.args.a.now.parts c.args.b.now.parts))
    (stands_merged reduce c.a.inside.flat c.b.inside.flat c.in_ok-flat.flat (flat_map pairs_of c.args.a.now.parts) (flat_map pairs_of c.args.b.now.parts)
    c.known.ensures.valid (valid_parts pairs_of c.args.a.now.parts valid) same
    (subst (λ sheet. StandsFor reduce sheet (flat_map pairs_of c.args.a.now.parts)) (sym a_sheet) stands_a)
    (subst (λ sheet. StandsFor reduce sheet (flat_map pairs_of c.args.b.now.parts)) (sym b_sheet) stands_b))
