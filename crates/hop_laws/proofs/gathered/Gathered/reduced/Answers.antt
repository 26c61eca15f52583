use Rattle.std.proofs.Common.{◌≡◌, List, ℕ, sym, ap, subst, ◌∙◌}
use Rattle.std.specs.Prelude.{IfOk}
use Rattle.hop_laws.specs.Entries.{pairs_in}
use Rattle.hop_laws.specs.Groups.{red}
use Rattle.hop_laws.proofs.GatheredLaws.{ord_is_sorted}
use Rattle.hop_laws.proofs.Values.{each_permuted}
use Rattle.hop_laws.proofs.gathered.Gathered.reduced.Goals as goal

pub reduce_entries-requires-clause-sorted : goal.reduce_entries-requires-clause-sorted
reduce_entries-requires-clause-sorted g c =
    let there : pairs_in c.deref.result.now c.deref-2.result.now ≡ c.sort.new.self = ap (λ a. pairs_in a c.deref-2.result.now) c.deref.ensures.value ∙ ap (pairs_in c.self.inside.arena.items) c.deref-2.ensures.value ∙ c.self.view_is in
    ord_is_sorted c.args.self.now (pairs_in c.deref.result.now c.deref-2.result.now) (there ∙ c.sort.ensures.exact)

pub returns-clause-text : goal.returns-clause-text
returns-clause-text g c =
    let reduce = (g.J.Job.meaning c.args.job.now).reduced in
    let there : pairs_in c.deref.result.now c.deref-2.result.now ≡ c.sort.new.self = ap (λ a. pairs_in a c.deref-2.result.now) c.deref.ensures.value ∙ ap (pairs_in c.self.inside.arena.items) c.deref-2.ensures.value ∙ c.self.view_is in
    let same : red reduce (pairs_in c.deref.result.now c.deref-2.result.now) ≡ red reduce c.args.self.now = ap (red reduce) there ∙ sym (each_permuted reduce c.args.self.now c.sort.new.self c.sort.ensures.same) in
    subst (λ (text : List ℕ). IfOk c.reduce_entries.result (λ out. out.items ≡ text)) same c.reduce_entries.ensures
