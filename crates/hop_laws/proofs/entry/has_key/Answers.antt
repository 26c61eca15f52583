use Rattle.std.proofs.Common.{sym, ap, ◌∙◌, arith}
use Rattle.std.specs.Str.{bytes_eq}
use Rattle.hop_laws.specs.declared.head.Head.{Head}
use Rattle.hop_laws.proofs.EntryLaws.{key_known, key_there, key_other}
use Rattle.hop_laws.proofs.entry.has_key.Goals as goal

pub returns-then-entry-head : goal.returns-then-entry-head
returns-then-entry-head c = key_other c.args.arena.now c.args.entry.now c.args.key.now c.requires.entry (λ e. c.if-entry-head.true (ap (λ (h : Head). h.first) (e ∙ sym c.of-head.ensures)))

pub returns-then-entry-head-2 : goal.returns-then-entry-head-2
returns-then-entry-head-2 c = key_other c.args.arena.now c.args.entry.now c.args.key.now c.requires.entry (λ e. c.if-entry-head-2.true (ap (λ (h : Head). h.second) (e ∙ sym c.of-head.ensures)))

pub returns-then-key-le15 : goal.returns-then-key-le15
returns-then-key-le15 c = key_known c.args.arena.now c.args.entry.now c.args.key.now c.of-head.result c.requires.entry c.requires.bytes c.of-head.ensures c.if-entry-head.false c.if-entry-head-2.false (omega arith)

pub returns : goal.returns
returns c =
    c.eq.ensures
    ∙ ap (λ k. bytes_eq k c.args.key.now)
    (c.stored_key.ensures ∙ key_there c.args.arena.now c.args.entry.now c.args.key.now c.of-head.result c.requires.entry c.requires.bytes c.of-head.ensures c.if-entry-head.false c.if-entry-head-2.false (omega arith))
