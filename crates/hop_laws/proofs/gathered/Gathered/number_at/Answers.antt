use Rattle.std.proofs.Common.{◌≡◌, List, ℕ, [], sym, ap, subst, ◌∙◌, arith}
use Rattle.std.proofs.lemmas.Slice.Eq.{bytes_eq-Decides}
use Rattle.hop_base.specs.declared.value.Pair.{Pair}
use Rattle.hop_base.specs.Fields.{pair_of}
use Rattle.hop_laws.specs.Entries.{key_in}
use Rattle.hop_laws.specs.Numbers.{IsAt}
use Rattle.hop_laws.proofs.HeadLaws.{bytes_by_index}
use Rattle.hop_laws.proofs.NumberLaws.{number_here}
use Rattle.hop_laws.proofs.gathered.Gathered.number_at.Goals as goal

pub has_key-requires-clause-bytes : goal.has_key-requires-clause-bytes
has_key-requires-clause-bytes c = bytes_by_index c.args.key.now (λ i. omega (arith, c.type_inv.key i))

pub returns-then-has_key : goal.returns-then-has_key
returns-then-has_key c =
    let arena : List ℕ = c.self.inside.arena.items in
    let same : key_in arena c.index-entry.result.now ≡ c.args.key.now =
    ap (λ a. key_in a c.index-entry.result.now) (sym c.deref.ensures.value) ∙ (bytes_eq-Decides (key_in c.deref.result.now c.index-entry.result.now) c.args.key.now).0 (sym c.has_key.ensures ∙ c.if-has_key.true) in
    subst (λ (ps : List Pair). IsAt ps c.args.k (pair_of c.args.key.now c.index-entry.result.now.number [])) c.self.view_is
    (number_here arena c.self.inside.entries.items c.args.k c.index-entry.result.now c.index-entry.result.now c.args.key.now (omega arith) c.index-entry.ensures c.if-entry-eq0.true same)
