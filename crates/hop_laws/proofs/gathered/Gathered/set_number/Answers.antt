use Rattle.std.proofs.Common.{List, ap, subst, ◌∙◌}
use Rattle.std.specs.Prelude.{All}
use Rattle.hop_base.specs.declared.value.Pair.{Pair}
use Rattle.hop_base.specs.Order.{IsValidPair}
use Rattle.hop_laws.specs.Numbers.{renumbered}
use Rattle.hop_laws.proofs.GatheredLaws.{valid_pairs}
use Rattle.hop_laws.proofs.NumberLaws.{renumbered_at}
use Rattle.hop_laws.proofs.gathered.Gathered.set_number.Goals as goal

pub returns-clause-exact : goal.returns-clause-exact
returns-clause-exact c =
    renumbered_at c.self.inside.arena.items c.self.inside.entries.items c.args.k c.args.number c.index_mut-entry.result.now c.index_mut-entry.result.now c.index_mut-entry.ensures.value
    ∙ ap (λ ps. renumbered ps c.args.k c.args.number) c.self.view_is

pub returns-clause-valid : goal.returns-clause-valid
returns-clause-valid c = subst (λ (ps : List Pair). All IsValidPair ps) c.self.view_is (valid_pairs c.self.inside.arena.items c.self.inside.entries.items c.self.invariant)
