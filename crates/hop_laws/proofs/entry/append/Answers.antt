use Rattle.std.proofs.Common.{List, ℕ, length, sym, subst, arith}
use Rattle.hop_laws.specs.declared.head.Head.{Head}
use Rattle.hop_laws.proofs.EntryLaws.{IsMade, made}
use Rattle.hop_laws.proofs.HeadLaws.{bytes_by_index}
use Rattle.hop_laws.proofs.entry.append.Goals as goal

new_entry : (c : goal.After-of) → IsMade c.extend.new.arena.items c.args.key.now c.args.number c.args.text.now (record { head = c.of.result; number = c.args.number; at = c.len-at.result; stored_len = length c.stored_part-stored.result.now; text_len = length c.args.text.now })
new_entry c =
    let grown : List ℕ = c.extend.new.arena.items in
    let stored : List ℕ = c.stored_part-stored.result.now in
    subst (λ (h : Head). IsMade grown c.args.key.now c.args.number c.args.text.now (record { head = h; number = c.args.number; at = c.len-at.result; stored_len = length stored; text_len = length c.args.text.now })) (sym c.of.ensures)
    (made c.args.arena.now.items c.args.key.now c.args.text.now stored grown c.args.number c.len-at.result (omega arith) c.stored_part-stored.ensures
    c.in_ok-extend.ensures.ok
    (bytes_by_index c.args.key.now (λ i. omega (arith, c.type_inv.key i))) c.requires.short_key c.requires.short_text (omega arith))

pub returns-clause-entry : goal.returns-clause-entry
returns-clause-entry c = (new_entry c).entry

pub returns-clause-pair : goal.returns-clause-pair
returns-clause-pair c = (new_entry c).pair
