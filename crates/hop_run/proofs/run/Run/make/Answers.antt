use Rattle.std.proofs.Common.{◌≡◌, List, ◌++◌, refl, ap, sym, subst, ◌∙◌}
use Rattle.std.specs.List.{flat_map}
use Rattle.std.specs.List.Sorted.{IsPermutation}
use Rattle.hop_base.specs.declared.value.Pair.{Pair}
use Rattle.hop_base.specs.Order.{pair_cmp}
use Rattle.hop_base.specs.Sorted.{ord}
use Rattle.hop_laws.specs.Blocking.{part_pairs, part_records}
use Rattle.hop_run.specs.Runs.{RunValue}
use Rattle.hop_run.proofs.MakingLaws.{kept_all, sorted_given}
use Rattle.hop_run.proofs.MergeLaws.{ord_is_sorted, ord_permutes}
use Rattle.hop_run.proofs.RunLaws.{stands_made}
use Rattle.hop_run.proofs.run.Run.make.Goals as goal

pub finish-requires : goal.finish-requires
finish-requires g c = sorted_given _ _ _ c.new-builder.ensures c.in_ok-sorted_into.ensures.given (ord_is_sorted c.map_part.new.sink.pairs)

pub returns-clause-stands : goal.returns-clause-stands
returns-clause-stands g c =
    let meaning = g.J.Job.meaning c.args.job.now in
    let book = c.args.book.now in
    let pairs : List Pair = part_pairs meaning book.records book.split c.args.p c.args.r c.args.part in
    let kept : c.map_part.new.sink.pairs ≡ pairs =
    kept_all c.args.p c.args.r c.new-kept.result.p c.new-kept.result.r c.map_part.new.sink.p c.map_part.new.sink.r c.new-kept.result.pairs (flat_map meaning.emits (part_records book.records book.split c.args.part)) c.map_part.new.sink.pairs
    c.new-kept.ensures.pairs c.new-kept.ensures.p c.new-kept.ensures.r c.in_ok-map_part.ensures in
    let sheet : c.in_ok-run.run'.sheet ≡ ord pair_cmp pairs =
    ap (λ (run : RunValue). run.sheet) c.in_ok-run.ensures ∙ c.in_ok-flat.ensures ∙ c.in_ok-sorted_into.ensures.given ∙ ap (λ ps. ps ++ ord pair_cmp c.map_part.new.sink.pairs) c.new-builder.ensures ∙ ap (ord pair_cmp) kept in
    stands_made meaning.reduced (part_pairs meaning book.records book.split c.args.p c.args.r) c.args.part pairs c.in_ok-run.run' refl
    (subst (λ (ps : List Pair). IsPermutation pairs ps) (sym sheet) (ord_permutes pairs))
    (ap (λ (run : RunValue). run.parts) c.in_ok-run.ensures)
