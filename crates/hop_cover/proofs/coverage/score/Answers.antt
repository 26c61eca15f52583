use Rattle.std.proofs.Common.{◌≤◌, ap, sym, ◌∙◌, arith}
use Rattle.hop_event.specs.Coverage.{records_of}
use Rattle.hop_cover.proofs.TableLaws.{score_within, declared_within}
use Rattle.hop_cover.proofs.coverage.score.Goals as goal

pub returns-in-Some-clause-bound : goal.returns-in-Some-clause-bound
returns-in-Some-clause-bound c =
    let e = ap records_of (sym c.in-Some.is ∙ c.declared.ensures) in
    let low = declared_within c.args.tentative c.args.row.now c.args.len c.requires.fits in
    let near : c.from.result ≤ c.from-in-Some.result = omega (arith, e, low, c.from.ensures, c.from-in-Some.ensures) in
    score_within c.from.result c.from-in-Some.result near
