use Rattle.hop_vault.proofs.StretchLaws.{is_stretch, found}
use Rattle.hop_vault.proofs.vault.stretch.Goals.{else-first-end-via-then-first-end+then-row-first+else-row-end, else-first-end-via-then-first-end+else-row-first, else-first-end-via-else-first-end}
use Rattle.std.proofs.Common.{arith}
use Rattle.hop_vault.proofs.vault.stretch.Goals as goal

pub returns-then-row-end : goal.returns-then-row-end
returns-then-row-end c =
    is_stretch 0 c.args.row.now c.requires.0 c.first_from-first.result c.end_within-end.result c.args.from c.args.to _ c.requires.1 c.if-first-end.true c.end_within-end.ensures.within c.if-row-first.true c.if-row-end.true

pub returns-else-first-end : goal.returns-else-first-end
returns-else-first-end c = λ spills s.
    let f = found 0 c.args.row.now c.requires.0 c.first_from-first.result c.end_within-end.result c.args.from c.args.to spills c.requires.1 c.first_from-first.ensures.within c.end_within-end.ensures.within c.first_from-first.ensures.place c.end_within-end.ensures.place s in
    elim c.else-first-end.branch [
      | else-first-end-via-then-first-end+then-row-first+else-row-end w ↦ absurd (w.if-row-end.false (f.ends _))
      | else-first-end-via-then-first-end+else-row-first w ↦ absurd (w.if-row-first.false (f.begins _))
      | else-first-end-via-else-first-end w ↦ let some = f.some in absurd (omega (arith, w.if-first-end.false, some))
    ]
