use Rattle.std.proofs.Common.{ap, ◌∙◌}
use Rattle.std.specs.Str.{bytes_eq}
use Rattle.hop_laws.specs.declared.head.Head.{Head}
use Rattle.hop_laws.specs.Entries.{stored_key}
use Rattle.hop_laws.proofs.EntryLaws.{one_key, two_keys}
use Rattle.hop_laws.proofs.entry.is_same_key.Goals as goal

pub returns-then-x-y : goal.returns-then-x-y
returns-then-x-y c = two_keys c.args.arena.now c.args.x.now c.args.y.now c.requires.first c.requires.second (λ e. c.if-x-y.true (ap (λ (h : Head). h.first) e))

pub returns-then-x-y-2 : goal.returns-then-x-y-2
returns-then-x-y-2 c = two_keys c.args.arena.now c.args.x.now c.args.y.now c.requires.first c.requires.second (λ e. c.if-x-y-2.true (ap (λ (h : Head). h.second) e))

pub returns : goal.returns
returns c =
    c.eq.ensures
    ∙ ap (λ k. bytes_eq k c.stored_key-2.result.now) c.stored_key.ensures
    ∙ ap (bytes_eq (stored_key c.args.arena.now c.args.x.now)) c.stored_key-2.ensures
    ∙ one_key c.args.arena.now c.args.x.now c.args.y.now c.requires.first c.requires.second c.if-x-y.false c.if-x-y-2.false
