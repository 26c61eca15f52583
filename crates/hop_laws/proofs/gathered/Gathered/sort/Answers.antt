use Rattle.std.proofs.Common.{List, ℕ, ap, subst, ◌∙◌}
use Rattle.std.specs.Prelude.{IsSorted}
use Rattle.std.specs.List.Sorted.{IsPermutation}
use Rattle.std.proofs.lemmas.List.Sorted.{All-permutation, IsPermutation-map}
use Rattle.hop_base.specs.declared.value.Pair.{Pair}
use Rattle.hop_base.specs.Order.{pair_cmp}
use Rattle.hop_base.specs.Sorted.{ord}
use Rattle.hop_laws.specs.Entries.{pair_in, pairs_in, IsEntry, entry_cmp}
use Rattle.hop_laws.proofs.GatheredLaws.{sorted_exact, valid_pairs}
use Rattle.hop_laws.proofs.gathered.Gathered.sort.Goals as goal

pub invariant_of-self : goal.invariant_of-self
invariant_of-self c = All-permutation (IsEntry c.self.inside.arena.items) c.self.inside.entries.items c.sort.new.entries.items c.sort.ensures.same c.self.invariant

pub returns-clause-exact : goal.returns-clause-exact
returns-clause-exact c = sorted_exact c.self.inside.arena.items c.self.inside.entries.items c.sort.new.entries.items c.self.invariant c.sort.ensures.same (subst (λ (a : List ℕ). IsSorted (entry_cmp a) c.sort.new.entries.items) c.deref.ensures.value c.sort.ensures.sorted) ∙ ap (ord pair_cmp) c.self.view_is

pub returns-clause-same : goal.returns-clause-same
returns-clause-same c = subst (λ (ps : List Pair). IsPermutation ps (pairs_in c.self.inside.arena.items c.sort.new.entries.items)) c.self.view_is (IsPermutation-map (pair_in c.self.inside.arena.items) c.self.inside.entries.items c.sort.new.entries.items c.sort.ensures.same)

pub returns-clause-valid : goal.returns-clause-valid
returns-clause-valid c = valid_pairs c.self.inside.arena.items c.sort.new.entries.items (invariant_of-self c)
