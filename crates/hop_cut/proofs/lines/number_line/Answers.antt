use Rattle.std.proofs.Common.{◌∷◌, arith}
use Rattle.hop_cut.proofs.NumberLaws.{numbered_unique}
use Rattle.hop_cut.proofs.LineLaws.{line_numbered}
use Rattle.hop_cut.proofs.lines.number_line.Goals as goal
use Rattle.hop_cut.proofs.lines.number_line.Goals.{then-n-low-via-then-n-low, then-n-low-via-else-n-low+then-high-n}

pub returns-then-n-low : goal.returns-then-n-low
returns-then-n-low c = λ n rest h.
    let both = numbered_unique c.args.piece.now c.args.text.now c.in-Some.n c.in-Some.rest.now n (10 ∷ rest) c.in-Some.ensures (line_numbered c.args.piece.now c.args.low c.args.high c.args.text.now n rest c.ranges.high.fits h) in
    elim c.then-n-low.branch [
      | then-n-low-via-then-n-low w ↦ omega (arith, both.0, h.low_is)
      | then-n-low-via-else-n-low+then-high-n w ↦ omega (arith, both.0, h.high_is)
    ]

pub returns-in_default-after : goal.returns-in_default-after
returns-in_default-after c = λ n rest h.
    let both = numbered_unique c.args.piece.now c.args.text.now c.in-Some.n c.in-Some.rest.now n (10 ∷ rest) c.in-Some.ensures (line_numbered c.args.piece.now c.args.low c.args.high c.args.text.now n rest c.ranges.high.fits h) in
    c.in_default-after.ensures rest both.1
