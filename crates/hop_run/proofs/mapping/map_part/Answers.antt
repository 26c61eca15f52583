use Rattle.std.proofs.Common.{◌≡◌, ℕ, ◌-◌, ◌<◌, List, [], length, take, drop, sym, ap, subst, ◌∙◌, arith}
use Rattle.std.specs.List.{flat_map}
use Rattle.std.proofs.lemmas.Option.{get_or_from_slice_get}
use Rattle.hop_base.specs.declared.value.Pair.{Pair}
use Rattle.hop_records.specs.Records.{split_records}
use Rattle.hop_run.proofs.MappingLaws.{mapped_none, mapped_more, part_in_split}
use Rattle.hop_run.proofs.mapping.map_part.Goals as goal

-- no record is mapped
pub loop-k-init : goal.loop-k-init
loop-k-init g c =
    let meaning = g.J.Job.meaning c.args.job.now in
    let part = c.args.part in
    subst (λ (ps : List Pair). g.S.PairSink.takes c.args.sink.now ps c.args.sink.now) (sym (mapped_none meaning (split_records c.args.book.now part.split) part.from)) (g.met.S.PairSink.takes_none c.args.sink.now)

-- one more record is mapped
pub loop-k-preserved : goal.loop-k-preserved
loop-k-preserved g c =
    let meaning = g.J.Job.meaning c.args.job.now in
    let part = c.args.part in
    let rs : List (List ℕ) = split_records c.args.book.now part.split in
    let k : ℕ = c.loop-k.k in
    let inside : k < length rs = omega (arith, c.requires.within) in
    let before : List Pair = flat_map meaning.emits (take (k - part.from) (drop part.from rs)) in
    let line : List ℕ = c.record_at.result.now in
    subst (λ (ps : List Pair). g.S.PairSink.takes c.args.sink.now ps c.emit.new.sink)
    (sym (mapped_more meaning rs part.from k line c.loop-k.auto.k inside (get_or_from_slice_get rs k line [] c.record_at.ensures.value)))
    (g.met.S.PairSink.takes_more c.args.sink.now c.loop-k.sink c.emit.new.sink before (meaning.emits line) c.loop-k.invariant c.in_ok-emit.ensures)

-- all records of the part are mapped
pub returns : goal.returns
returns g c =
    let meaning = g.J.Job.meaning c.args.job.now in
    let part = c.args.part in
    let end : c.loop-k.k ≡ part.to = omega (arith, c.requires.ordered, c.loop-k.auto.k-end c.requires.ordered) in
    subst (λ (rs : List (List ℕ)). g.S.PairSink.takes c.args.sink.now (flat_map meaning.emits rs) c.loop-k.sink)
    (ap (λ k. take (k - part.from) (drop part.from (split_records c.args.book.now part.split))) end ∙ part_in_split c.args.book.now part c.requires.ordered c.requires.within)
    c.loop-k.invariant
