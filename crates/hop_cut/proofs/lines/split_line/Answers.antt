use Rattle.std.proofs.Common.{subst, ◌++◌, ◌∷◌}
use Rattle.std.specs.Prelude.{codes}
use Rattle.hop_cut.specs.Numbers.{IsNumbered}
use Rattle.hop_cut.proofs.NumberLaws.{numbered_unique}
use Rattle.hop_cut.proofs.LineLaws.{split_numbered, split_forms}
use Rattle.hop_cut.specs.Snapshot.{split_words}
use Rattle.hop_cut.proofs.lines.split_line.Goals as goal

pub returns-then-n-i : goal.returns-then-n-i
returns-then-n-i c = λ s rest h.
    c.if-n-i.true (numbered_unique (codes "split ") c.args.text.now c.in-Some.n c.in-Some.words.now c.args.i (split_words s ++ (10 ∷ rest)) c.in-Some.ensures (split_numbered c.args.i c.args.text.now s rest c.ranges.i.fits h)).0

pub returns-in-None : goal.returns-in-None
returns-in-None c = λ s rest h.
    split_forms c.args.i c.args.text.now s rest c.in-Some.words.now c.ranges.i.fits h (subst (λ n. IsNumbered (codes "split ") c.args.text.now n c.in-Some.words.now) c.if-n-i.false c.in-Some.ensures) c.in_default-after.ensures c.in-None.ensures
