use Rattle.std.proofs.Common.{◌≡◌, ◌+◌, ◌<◌, ℕ, List, [], ◌∷◌, ◌++◌, length, take, sym, ap, subst, ◌∙◌, arith}
use Rattle.std.proofs.lemmas.List.{take_more, take_all}
use Rattle.std.proofs.lemmas.Option.{get_or_from_slice_get}
use Rattle.hop_base.specs.declared.value.Val.{Val}
use Rattle.hop_laws.specs.Taking.{TakesIn}
use Rattle.hop_fold.specs.Gathering.{Gathers}
use Rattle.hop_fold.proofs.Standing.{gathers_more, texts_gathered}
use Rattle.hop_fold.proofs.blocking.block.Goals as goal

-- one more record is mapped
pub loop-k-preserved : goal.loop-k-preserved
loop-k-preserved g c =
    let meaning = g.J.Job.meaning c.args.job.now in
    let k : ℕ = c.loop-k.k in
    let records : List (List ℕ) = c.args.book.now.records in
    let inside : k < length records = omega (arith, c.records-k-end.ensures) in
    let more : take (k + 1) records ≡ take k records ++ c.record.result.now ∷ [] =
    take_more records k [] inside ∙ ap (λ line. take k records ++ line ∷ []) (get_or_from_slice_get records k c.record.result.now [] c.record.ensures.value) in
    let taken : TakesIn meaning.reduced c.loop-k.lists.lists.items (meaning.emits c.record.result.now) c.emit.new.sink.lists.items =
    subst (λ (f : List ℕ → List Val → List ℕ). TakesIn f c.loop-k.lists.lists.items (meaning.emits c.record.result.now) c.emit.new.sink.lists.items) (ap (λ j. (g.J.Job.meaning j).reduced) c.loop-k.invariant.job) c.in_ok-emit.ensures.1 in
    record {
      same = taken.same ∙ c.loop-k.invariant.same;
      job = c.in_ok-emit.ensures.0 ∙ c.loop-k.invariant.job;
      gathers = subst (λ (rs : List (List ℕ)). Gathers meaning rs c.emit.new.sink.lists.items) (sym more) (gathers_more meaning (take k records) c.record.result.now c.loop-k.lists.lists.items c.emit.new.sink.lists.items taken c.loop-k.invariant.gathers);
    }

pub returns : goal.returns
returns g c =
    let meaning = g.J.Job.meaning c.args.job.now in
    let records : List (List ℕ) = c.args.book.now.records in
    let all : take c.loop-k.k records ≡ records = take_all c.loop-k.k records (omega (arith, c.records-k-end.ensures)) in
    c.in_ok-texts.ensures ∙ texts_gathered meaning records c.loop-k.lists.lists.items c.args.r c.loop-k.invariant.same (subst (λ (rs : List (List ℕ)). Gathers meaning rs c.loop-k.lists.lists.items) all c.loop-k.invariant.gathers)
