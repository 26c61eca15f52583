use Rattle.std.proofs.Common.{◌%◌, take, sym, ap, ◌∙◌, cond}
use Rattle.std.specs.Prelude.{◌==◌}
use Rattle.hop_laws.specs.Entries.{stored_key}
use Rattle.hop_laws.specs.Heads.{short_key}
use Rattle.hop_laws.proofs.entry.key_of.Goals as goal

pub returns-then-entry-eq0 : goal.returns-then-entry-eq0
unfolding short_key
returns-then-entry-eq0 c =
    c.piece.ensures ∙ ap (take (c.args.entry.now.head.second % 256)) c.requires
    ∙ sym (ap (λ n. cond (n == 0) (short_key c.args.entry.now.head) (stored_key c.args.arena.now c.args.entry.now)) c.if-entry-eq0.true)
