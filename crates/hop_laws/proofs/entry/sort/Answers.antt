use Rattle.std.proofs.Common.{rules}
use Rattle.std.specs.Ordering.{is_lt}
use Rattle.std.proofs.lemmas.List.Sorted.{ranks_by}
use Rattle.std.proofs.lemmas.Fn.{always_returns_same}
use Rattle.hop_laws.specs.declared.entry.Entry.{Entry}
use Rattle.hop_laws.specs.Entries.{entry_cmp}
use Rattle.hop_laws.proofs.EntryLaws.{entry_total}
use Rattle.hop_laws.proofs.entry.sort.Goals as goal

pub returns-clause-sorted : goal.returns-clause-sorted
returns-clause-sorted c = c.sort_unstable_by.ensures.sorted (λ x y. is_lt (entry_cmp c.args.arena.now x y)) (ranks_by (entry_total c.args.arena.now) (λ (e : Entry). e)) (always_returns_same _ _ _ (λ a r f' k. (search rules, search rules)))
