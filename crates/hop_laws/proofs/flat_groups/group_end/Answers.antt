use Rattle.std.proofs.Common.{◌<◌, [], length, get_or, sym, ap, ◌∙◌, arith}
use Rattle.std.specs.Str.{bytes_eq}
use Rattle.std.proofs.lemmas.Slice.Eq.{bytes_eq-Decides}
use Rattle.hop_base.specs.declared.value.Pair.{Pair}
use Rattle.hop_base.specs.Fields.{pair_of}
use Rattle.hop_laws.proofs.FlatGroupLaws.{first_there, together_next, group_from}
use Rattle.hop_laws.proofs.flat_groups.group_end.Goals as goal

pub loop-end-preserved : goal.loop-end-preserved
loop-end-preserved c =
    let d : Pair = pair_of [] 0 [] in
    let inside : c.loop-end.end < length c.args.sheet.now = omega (arith, c.loop-end-test.true, c.len-len.ensures) in
    let key = ap (λ (p : Pair). p.key) c.first.view_is in
    let same = (bytes_eq-Decides c.first.inside.key.now _).0 (sym (c.has_key.ensures d) ∙ c.if-has_key.true) in
    record {
      some = omega (arith, c.loop-end.invariant.some);
      within = omega arith;
      together = together_next c.args.sheet.now c.args.at c.loop-end.end d c.loop-end.invariant.some inside c.loop-end.invariant.together
          (sym same ∙ key ∙ sym (first_there c.args.sheet.now c.args.at c.pair-first.result c.requires c.pair-first.ensures));
    }

pub returns-else-has_key-clause-group : goal.returns-else-has_key-clause-group
returns-else-has_key-clause-group c =
    let d : Pair = pair_of [] 0 [] in
    let key = ap (λ (p : Pair). p.key) c.first.view_is in
    let first = first_there c.args.sheet.now c.args.at c.pair-first.result c.requires c.pair-first.ensures in
    group_from c.args.sheet.now c.args.at c.loop-end.end d c.known.ensures.sorted c.loop-end.invariant.some c.loop-end.invariant.within c.loop-end.invariant.together
    (ap (λ k. bytes_eq k (get_or c.args.sheet.now c.loop-end.end d).key) (first ∙ sym key) ∙ sym (c.has_key.ensures d) ∙ c.if-has_key.false)
