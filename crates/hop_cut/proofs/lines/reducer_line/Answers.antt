use Rattle.std.proofs.Common.{arith}
use Rattle.std.specs.Prelude.{codes}
use Rattle.hop_cut.proofs.LineLaws.{reducer_second, line_unique}
use Rattle.hop_cut.proofs.lines.reducer_line.Goals as goal

pub returns-in_default-number_line : goal.returns-in_default-number_line
returns-in_default-number_line c = λ p r rest h.
    c.in_default-number_line.ensures r rest (reducer_second c.args.text.now p r rest c.in-Some.p c.in-Some.rest.now h c.in-Some.ensures).1

pub returns-else-p-r : goal.returns-else-p-r
returns-else-p-r c = λ p r rest h.
    let second = reducer_second c.args.text.now p r rest c.in-Some.p c.in-Some.rest.now h c.in-Some.ensures in
    let both = line_unique (codes " of ") 1 8 c.in-Some.rest.now c.in-Some-number_line.r c.in-Some-number_line.rest.now r rest (omega arith) c.in-Some-number_line.ensures second.1 in
    omega (arith, second.0, both.0, h.below, c.if-p-r.false)
