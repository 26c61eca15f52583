use Rattle.std.proofs.Common.{◌≡◌, List, sym, ap, subst, ◌∙◌}
use Rattle.std.specs.Prelude.{OnOk}
use Rattle.std.proofs.lemmas.List.Sorted.{All-permutation, IsPermutation-sym}
use Rattle.hop_base.specs.declared.value.Pair.{Pair}
use Rattle.hop_base.specs.Order.{IsValidPair}
use Rattle.hop_laws.specs.Entries.{pairs_in}
use Rattle.hop_laws.specs.Stands.{pairs_at, combined_pairs}
use Rattle.hop_laws.proofs.GatheredLaws.{ord_is_sorted}
use Rattle.hop_laws.proofs.Values.{each_permuted}
use Rattle.hop_laws.proofs.gathered.Gathered.combined_into.Goals as goal

pub combine_entries-requires-clause-sorted : goal.combine_entries-requires-clause-sorted
combine_entries-requires-clause-sorted g c =
    let there : pairs_in c.deref.result.now c.deref-2.result.now ≡ c.sort.new.self = ap (λ a. pairs_in a c.deref-2.result.now) c.deref.ensures.value ∙ ap (pairs_in c.self.inside.arena.items) c.deref-2.ensures.value ∙ c.self.view_is in
    ord_is_sorted c.args.self.now (pairs_in c.deref.result.now c.deref-2.result.now) (there ∙ c.sort.ensures.exact)

pub returns-clause-given : goal.returns-clause-given
returns-clause-given g c =
    let combine = (g.J.Job.meaning c.args.job.now).combined in
    let there : pairs_in c.deref.result.now c.deref-2.result.now ≡ c.sort.new.self = ap (λ a. pairs_in a c.deref-2.result.now) c.deref.ensures.value ∙ ap (pairs_in c.self.inside.arena.items) c.deref-2.ensures.value ∙ c.self.view_is in
    let same : combined_pairs combine (pairs_in c.deref.result.now c.deref-2.result.now) ≡ combined_pairs combine c.args.self.now = ap (combined_pairs combine) there ∙ sym (each_permuted (λ k vs. pairs_at k (combine k vs)) c.args.self.now c.sort.new.self c.sort.ensures.same) in
    subst (λ (ps : List Pair). OnOk c.combine_entries.result (g.S.PairSink.takes c.args.sink.now ps c.combine_entries.new.sink)) same c.combine_entries.ensures

pub returns-clause-valid : goal.returns-clause-valid
returns-clause-valid g c = All-permutation IsValidPair c.sort.new.self c.args.self.now (IsPermutation-sym c.args.self.now c.sort.new.self c.sort.ensures.same) c.sort.ensures.valid
